use Rattle.std.proofs.Common.{rules, ◌≡◌, ◌∙◌, ◌-ℤ◌, ◌*ℤ◌, to_z, of_z}
use Rattle.std.specs.Int.{w64}
use Rattle.std.proofs.lemmas.Int.{to_z-of_z}
use Rattle.overlay_grid.proofs.RisingLemmas.{first_height}
use Rattle.overlay_grid.proofs.passing.height.Goals as goal

pub returns : goal.returns
returns c =
    let s = c.args.seg.now in
    let r = c.args.rise in
    let e : to_z w64 (of_z w64 c.whole_cross.result) ≡ (s.right.x -ℤ s.left.x) *ℤ (r.y -ℤ s.left.y) -ℤ (s.right.y -ℤ s.left.y) *ℤ (r.x -ℤ s.left.x) =
    search (rules, to_z-of_z, c.whole_cross.ensures.value, c.minus.ensures.value, c.minus-2.ensures.value, c.minus-3.ensures.value, c.minus-4.ensures.value, c.left-left.ensures.value, c.right-right.ensures.value) in
    e ∙ first_height s r
