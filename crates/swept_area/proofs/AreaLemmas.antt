-- The sum, one piece at a time.
use Rattle.std.proofs.Common.{◌≡◌, ℕ, ℤ, pos, ◌+ℤ◌, ◌+◌, ◌<◌, List, [], ◌∷◌, length, map, take, get_or, ap, ◌∙◌}
use Rattle.std.proofs.lemmas.List.{map_more}
use Rattle.std.proofs.lemmas.List.Sums.{fold-append}
use Rattle.swept_area.specs.Swept.{signed_of, swept_area}
use Rattle.swept_area.specs.Pieces.{sided_from}
use Rattle.swept_area.specs.declared.piece.Shift.{Shift}
use Rattle.swept_area.specs.declared.piece.SidedPiece.{SidedPiece}

pub one_more : (by : Shift) (pieces : List SidedPiece) (i : ℕ) (d : SidedPiece) → i < length pieces
    → swept_area (map (sided_from by) (take (i + 1) pieces)) ≡ swept_area (map (sided_from by) (take i pieces)) +ℤ signed_of (sided_from by (get_or pieces i d))
one_more by pieces i d h =
    ap swept_area (map_more (sided_from by) pieces i d h)
    ∙ fold-append (λ total a. total +ℤ signed_of a) (pos 0) (map (sided_from by) (take i pieces)) (sided_from by (get_or pieces i d) ∷ [])
