use Rattle.std.proofs.Common.{◌≡◌, pos, ◌+◌, ◌==◌, ◌&&◌, ◌||◌, ◌∙◌, true, false, sym, ap, ◌+ℤ◌, ◌*ℤ◌}
use Rattle.std.proofs.lemmas.Bool.{not-false, not-true}
use Rattle.overlay_terms.specs.Plane.{is_on}
use Rattle.overlay_grid.specs.Rising.{point_at}
use Rattle.overlay_grid.specs.Turning.{is_marked}
use Rattle.overlay_grid.proofs.OnRise.{on_slanted}
use Rattle.overlay_grid.proofs.Marked.{marked_one, marked_none, or_nothing}
use Rattle.overlay_grid.proofs.marking.mark_edge.Goals as goal

pub returns-then-last-edges-clause-edges : goal.returns-then-last-edges-clause-edges
returns-then-last-edges-clause-edges c j h =
    let s = c.args.seg.now in
    let r = c.args.rise in
    let level : c.args.passing.is_level ≡ true = not-false c.args.passing.is_level c.if-not-passing.false in
    let on : is_on s (point_at r j) ≡ (c.args.passing.first == j + 1) =
    on_slanted s r.x (r.y +ℤ (r.step *ℤ pos j)) c.requires.slanted c.requires.from_left c.requires.to_right ∙ c.requires.level j ∙ ap (λ b. b && (c.args.passing.first == j + 1)) level in
    marked_one c.args.edges.now c.args.passing.first j (c.requires.some level) c.if-last-edges.true ∙ ap (λ b. is_marked c.args.edges.now j || b) (sym on)

pub returns-else-last-edges-clause-edges : goal.returns-else-last-edges-clause-edges
returns-else-last-edges-clause-edges c j h =
    let s = c.args.seg.now in
    let r = c.args.rise in
    let level : c.args.passing.is_level ≡ true = not-false c.args.passing.is_level c.if-not-passing.false in
    let on : is_on s (point_at r j) ≡ (c.args.passing.first == j + 1) =
    on_slanted s r.x (r.y +ℤ (r.step *ℤ pos j)) c.requires.slanted c.requires.from_left c.requires.to_right ∙ c.requires.level j ∙ ap (λ b. b && (c.args.passing.first == j + 1)) level in
    marked_none c.args.edges.now c.args.passing.first j h (c.requires.some level) c.if-last-edges.false ∙ ap (λ b. is_marked c.args.edges.now j || b) (sym on)

pub returns-then-not-passing-clause-edges : goal.returns-then-not-passing-clause-edges
returns-then-not-passing-clause-edges c j h =
    let s = c.args.seg.now in
    let r = c.args.rise in
    let level : c.args.passing.is_level ≡ false = not-true c.args.passing.is_level c.if-not-passing.true in
    or_nothing (is_marked c.args.edges.now j) (is_on s (point_at r j))
    (on_slanted s r.x (r.y +ℤ (r.step *ℤ pos j)) c.requires.slanted c.requires.from_left c.requires.to_right ∙ c.requires.level j ∙ ap (λ b. b && (c.args.passing.first == j + 1)) level)
