use Rattle.std.proofs.Common.{take, map}
use Rattle.arrange.specs.PlacedPieces.{HoldsPieces}
use Rattle.arrange.proofs.finding_pieces.pieces.Given as goal

-- the pieces on the segments so far are in the list
abbrev pub invariant-loop-i : goal.invariant-loop-i
invariant-loop-i l = HoldsPieces l.input (map (λ m. m.seg) (take l.i l.marked)) l.placed.items
