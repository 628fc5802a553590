use Rattle.exact_point.specs.PlaceOf.{place_of}
use Rattle.tile_build.proofs.piece.Piece.of_row.Goals as goal

pub returns-clause-ends : goal.returns-clause-ends
returns-clause-ends c = λ i. (place_of (c.name_of.ensures i), place_of (c.name_of-2.ensures i))
