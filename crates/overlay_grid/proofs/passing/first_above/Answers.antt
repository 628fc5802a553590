use Rattle.std.proofs.Common.{rules, ◌≡◌, ◌∙◌, ◌<◌, ap, arith, sym, subst, pos, ◌<ℤ◌, ◌&&◌}
use Rattle.std.specs.Prelude.{unsigned_abs, nat_le, ◌/◌, ◌%◌, ◌+◌, ◌==◌}
use Rattle.std.proofs.lemmas.Int.{to_z-of_z, ints}
use Rattle.overlay_terms.specs.Plane.{height_over}
use Rattle.overlay_grid.specs.Rising.{point_at}
use Rattle.overlay_grid.proofs.RisingLemmas.{above_at_once, above_later, height_first, pace_up, size_some, level_above, level_tells}
use Rattle.overlay_grid.proofs.passing.first_above.Goals as goal

pub nonzero_div-result : goal.nonzero_div-result
nonzero_div-result c =
    let some : 0 < unsigned_abs c.pace-up.result = size_some c.pace-up.result (subst (λ z. pos 0 <ℤ z) (sym c.pace-up.ensures) (pace_up c.args.seg.now c.args.rise c.requires)) in
    grind (arith, to_z-of_z, some)

pub nonzero_rem-result : goal.nonzero_rem-result
nonzero_rem-result c =
    let some : 0 < unsigned_abs c.pace-up.result = size_some c.pace-up.result (subst (λ z. pos 0 <ℤ z) (sym c.pace-up.ensures) (pace_up c.args.seg.now c.args.rise c.requires)) in
    grind (arith, to_z-of_z, some)

pub returns-then-over-gt0-clause-above : goal.returns-then-over-gt0-clause-above
returns-then-over-gt0-clause-above c j =
    let h : c.height-over.result ≡ height_over c.args.seg.now (point_at c.args.rise 0) = c.height-over.ensures ∙ height_first c.args.seg.now c.args.rise in
    above_at_once c.args.seg.now c.args.rise c.height-over.result j c.requires h (grind (arith, ints, to_z-of_z, c.if-over-gt0.true))

pub returns-then-over-gt0-clause-level : goal.returns-then-over-gt0-clause-level
returns-then-over-gt0-clause-level c j =
    let h : c.height-over.result ≡ height_over c.args.seg.now (point_at c.args.rise 0) = c.height-over.ensures ∙ height_first c.args.seg.now c.args.rise in
    level_above c.args.seg.now c.args.rise c.height-over.result c.pace-up.result j c.requires h c.pace-up.ensures (grind (arith, ints, to_z-of_z, c.if-over-gt0.true))

pub returns-clause-above : goal.returns-clause-above
returns-clause-above c j =
    let h : c.height-over.result ≡ height_over c.args.seg.now (point_at c.args.rise 0) = c.height-over.ensures ∙ height_first c.args.seg.now c.args.rise in
    let a : unsigned_abs c.height-over.result ≡ c.unsigned_abs-below.result = search (rules, to_z-of_z, c.unsigned_abs-below.ensures.value) in
    let b : unsigned_abs c.pace-up.result ≡ c.unsigned_abs-each.result = search (rules, to_z-of_z, c.unsigned_abs-each.ensures.value) in
    above_later c.args.seg.now c.args.rise c.height-over.result c.pace-up.result j c.requires h (grind (arith, ints, to_z-of_z, c.if-over-gt0.false)) c.pace-up.ensures
    ∙ ap (λ n. nat_le (n / unsigned_abs c.pace-up.result + 1) j) a
    ∙ ap (λ n. nat_le (c.unsigned_abs-below.result / n + 1) j) b

pub returns-clause-level : goal.returns-clause-level
returns-clause-level c j =
    let h : c.height-over.result ≡ height_over c.args.seg.now (point_at c.args.rise 0) = c.height-over.ensures ∙ height_first c.args.seg.now c.args.rise in
    let a : unsigned_abs c.height-over.result ≡ c.unsigned_abs-below.result = search (rules, to_z-of_z, c.unsigned_abs-below.ensures.value) in
    let b : unsigned_abs c.pace-up.result ≡ c.unsigned_abs-each.result = search (rules, to_z-of_z, c.unsigned_abs-each.ensures.value) in
    level_tells c.args.seg.now c.args.rise c.height-over.result c.pace-up.result j c.requires h c.pace-up.ensures (grind (arith, ints, to_z-of_z, c.if-over-gt0.false))
    ∙ ap (λ n. (n % unsigned_abs c.pace-up.result == 0) && (n / unsigned_abs c.pace-up.result + 1 == j + 1)) a
    ∙ ap (λ n. (c.unsigned_abs-below.result % n == 0) && (c.unsigned_abs-below.result / n + 1 == j + 1)) b
