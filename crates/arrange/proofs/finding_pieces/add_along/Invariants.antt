use Rattle.arrange.specs.PlacedPieces.{HoldsNeighbours}
use Rattle.arrange.proofs.finding_pieces.add_along.Given as goal

-- the pieces between the places so far are in the list
abbrev pub invariant-loop-i : goal.invariant-loop-i
invariant-loop-i l = HoldsNeighbours l.input l.places l.i l.fn.placed.items l.placed.items
