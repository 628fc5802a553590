use Rattle.std.proofs.Common.{rules, ◌≡◌, ◌∙◌, ap, arith, ◌≤ℤ◌, ◌+ℤ◌, ◌*ℤ◌, pos, neg_ℤ, ◌-◌, to_z, of_z}
use Rattle.std.specs.Int.{w64}
use Rattle.std.specs.Prelude.{int_le}
use Rattle.std.proofs.lemmas.Int.{ints, to_z-of_z}
use Rattle.overlay_grid.proofs.Ranges.{last_tells}
use Rattle.overlay_grid.proofs.drawing.all_in_range.Goals as goal

pub returns : goal.returns
returns c =
    let at : to_z w64 (of_z w64 c.coordinate.result) ≡ c.args.from +ℤ (c.args.step *ℤ pos (c.args.count - 1)) = search (rules, to_z-of_z, c.coordinate.ensures) in
    let low : neg_ℤ (pos 1048576) ≤ℤ c.args.from = grind (arith, ints, to_z-of_z, c.if-from.false) in
    let high : c.args.from ≤ℤ pos 1048576 = grind (arith, ints, to_z-of_z, c.if-from-gt-COORD_MAX.false) in
    ap (λ z. int_le z (pos 1048576)) at ∙ last_tells c.args.from c.args.step c.args.count c.requires.step_low c.requires.some (low, high)
