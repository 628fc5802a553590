use Rattle.std.proofs.Common.{◌≡◌, ◌+◌, ◌∙◌, ap, arith, ◌<ℤ◌, ◌≤ℤ◌}
use Rattle.std.proofs.lemmas.Int.{ints, to_z-of_z}
use Rattle.overlay_terms.specs.Plane.{is_below}
use Rattle.overlay_grid.specs.Rising.{point_at}
use Rattle.overlay_grid.specs.Turning.{turned}
use Rattle.overlay_grid.proofs.Below.{left_of, between, unchanged, turns_on, turns_behind}
use Rattle.overlay_grid.proofs.marking.mark_turn.Goals as goal

pub returns-then-x-rise-clause-turns : goal.returns-then-x-rise-clause-turns
returns-then-x-rise-clause-turns c j k h =
    let x : c.x.result ≡ c.args.seg.now.right.x = c.x.ensures.value ∙ ap (λ p. p.x) c.right.ensures.value in
    let behind : c.args.seg.now.right.x ≤ℤ c.args.rise.x = grind (arith, ints, to_z-of_z, x, c.if-x-rise.true) in
    unchanged _ (is_below c.args.seg.now (point_at c.args.rise j)) (turned c.args.turns.now (j + 1) k) (left_of c.args.seg.now c.args.rise j behind)

pub returns-then-first-turns-clause-turns : goal.returns-then-first-turns-clause-turns
returns-then-first-turns-clause-turns c j k h =
    let r : c.x.result ≡ c.args.seg.now.right.x = c.x.ensures.value ∙ ap (λ p. p.x) c.right.ensures.value in
    let high : c.args.rise.x <ℤ c.args.seg.now.right.x = grind (arith, ints, to_z-of_z, r, c.if-x-rise.false) in
    turns_on c.args.turns.now c.args.first c.toggled.result c.args.layer k j (is_below c.args.seg.now (point_at c.args.rise j)) c.if-first-turns.true
    (between c.args.seg.now c.args.rise j c.requires.from_left high ∙ c.requires.above j) (c.toggled.ensures k)

pub returns-else-first-turns-clause-turns : goal.returns-else-first-turns-clause-turns
returns-else-first-turns-clause-turns c j k h =
    let r : c.x.result ≡ c.args.seg.now.right.x = c.x.ensures.value ∙ ap (λ p. p.x) c.right.ensures.value in
    let high : c.args.rise.x <ℤ c.args.seg.now.right.x = grind (arith, ints, to_z-of_z, r, c.if-x-rise.false) in
    turns_behind c.args.turns.now c.args.first c.args.layer k j (is_below c.args.seg.now (point_at c.args.rise j)) h (omega (arith, c.if-first-turns.false))
    (between c.args.seg.now c.args.rise j c.requires.from_left high ∙ c.requires.above j)
