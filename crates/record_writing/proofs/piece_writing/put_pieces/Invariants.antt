use Rattle.std.proofs.Common.{take}
use Rattle.store_terms.specs.TileRecord.{piece}
use Rattle.record_writing.specs.Putting.{ArePut}
use Rattle.record_writing.proofs.piece_writing.put_pieces.Given as goal

abbrev pub invariant-loop-piece : goal.invariant-loop-piece
invariant-loop-piece l = ArePut piece (take l.piece-index l.pieces) l.initial.out.items l.out.items
