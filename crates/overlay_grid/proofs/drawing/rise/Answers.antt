use Rattle.std.proofs.Common.{rules, ◌≡◌, sym, subst, arith, pos, ◌+ℤ◌, ◌*ℤ◌, ◌≤◌, to_z, of_z}
use Rattle.std.specs.Int.{w64}
use Rattle.std.proofs.lemmas.Int.{ints, to_z-of_z}
use Rattle.overlay_terms.specs.Plane.{InRange}
use Rattle.overlay_grid.proofs.Ranges.{column_in_range, first_in_range, one_in_range, row_in_range}
use Rattle.overlay_grid.proofs.drawing.rise.Goals as goal

pub invariant_of-result : goal.invariant_of-result
invariant_of-result c =
    let g = c.args.grid.now in
    let valid = c.step.ensures.valid in
    let x : to_z w64 (of_z w64 c.coordinate.result) ≡ g.x +ℤ (g.step *ℤ pos c.args.i) = search (rules, to_z-of_z, c.coordinate.ensures, c.x.ensures, c.step.ensures.value) in
    let y : to_z w64 (of_z w64 c.y.result) ≡ g.y = search (rules, c.y.ensures) in
    let step : to_z w64 (of_z w64 c.step-2.result) ≡ g.step = search (rules, c.step-2.ensures.value) in
    let some : 1 ≤ g.ny = omega (arith, ints, valid.ny_low) in
    record {
      x_small = subst InRange (sym x) (one_in_range g.x g.step g.nx c.args.i c.requires.near (row_in_range g c.requires.within));
      y_small = subst InRange (sym y) (first_in_range g.y g.step g.ny some (column_in_range g c.requires.within));
      step_low = rw step valid.step_low;
      step_high = rw step valid.step_high;
    }
