use Rattle.std.proofs.Common.{◌≡◌, ℤ, ◌-ℤ◌, w64, List, map, length, ap, subst, ◌∙◌}
use Rattle.std.proofs.lemmas.Int.{to_z-of_z}
use Rattle.swept_area.specs.Swept.{swept_area}
use Rattle.swept_area.specs.Pieces.{sided_from}
use Rattle.swept_area.specs.declared.piece.SidedPiece.{SidedPiece}
use Rattle.sided_pieces.specs.Sided.{IsNearArea}
use Rattle.feature_windows.specs.Boundary.{IsFoundIn}
use Rattle.feature_windows.specs.declared.found.Found.{Found}
use Rattle.feature_windows.proofs.FoundLemmas.{all_of}
use Rattle.feature_windows.proofs.found.found_in_one.Goals as goal

pub returns : goal.returns
returns c =
    let by = c.in-Some.by in
    let seen : List SidedPiece = c.deref.result.now in
    let pieces : List SidedPiece = c.in_ok-pieces.pieces.items in
    let same : seen ≡ pieces = c.deref.ensures.value in
    all_of c.found_of.result (λ (f : Found). f.twice ≡ swept_area (map (sided_from by) seen)) (λ (f : Found). IsNearArea (map (sided_from by) seen) f.twice)
    (λ (f : Found). f.pieces ≡ length seen) (λ (f : Found). IsFoundIn c.args.window.now.core c.args.window.now.layers.items c.args.steps.now c.args.x c.args.y f)
    (λ f twice near count. record {
      pieces = pieces;
      are = c.in_ok-pieces.ensures;
      by = by;
      across = c.in-Some.ensures.across ∙ ap (λ (z : ℤ). c.args.window.now.core.low_x -ℤ z) (to_z-of_z w64 c.args.x c.ranges.x);
      along = c.in-Some.ensures.along ∙ ap (λ (z : ℤ). c.args.window.now.core.low_y -ℤ z) (to_z-of_z w64 c.args.y c.ranges.y);
      twice = twice ∙ ap (λ (ps : List SidedPiece). swept_area (map (sided_from by) ps)) same;
      near = subst (λ (ps : List SidedPiece). IsNearArea (map (sided_from by) ps) f.twice) same near;
      count = count ∙ ap (λ (ps : List SidedPiece). length ps) same;
    })
    c.found_of.ensures.twice c.found_of.ensures.near c.found_of.ensures.pieces
