use Rattle.std.proofs.Common.{rules, ◌≡◌, ◌∙◌, pos, ◌+ℤ◌, ◌*ℤ◌, ◌&&◌, ap, to_z, of_z}
use Rattle.std.specs.Prelude.{int_le}
use Rattle.std.specs.Int.{w128}
use Rattle.std.proofs.lemmas.Int.{to_z-of_z}
use Rattle.overlay_grid.proofs.OnRise.{on_upright}
use Rattle.overlay_grid.proofs.marking.is_between.Goals as goal

pub returns : goal.returns
returns c =
    let s = c.args.seg.now in
    let r = c.args.rise in
    let y = to_z w128 (of_z w128 c.height_at-y.result) in
    let from : to_z w128 (of_z w128 c.from.result) ≡ s.left.y = search (rules, to_z-of_z, c.from.ensures, c.y.ensures.value, c.left.ensures.value) in
    let to : to_z w128 (of_z w128 c.from-2.result) ≡ s.right.y = search (rules, to_z-of_z, c.from-2.ensures, c.y-2.ensures.value, c.right.ensures.value) in
    let at : to_z w128 (of_z w128 c.height_at-y.result) ≡ r.y +ℤ (r.step *ℤ pos c.args.j) = search (rules, c.height_at-y.ensures) in
    ap (λ z. int_le z y && int_le y (to_z w128 (of_z w128 c.from-2.result))) from ∙ ap (λ z. int_le s.left.y y && int_le y z) to
    ∙ ap (λ z. int_le s.left.y z && int_le z s.right.y) at
    ∙ on_upright s r.x (r.y +ℤ (r.step *ℤ pos c.args.j)) c.requires.upright c.requires.over
