use Rattle.std.proofs.Common.{◌≡◌, ◌-◌}
use Rattle.store_terms.specs.Fields.{read_many}
use Rattle.store_terms.specs.TileRecord.{piece}
use Rattle.store_terms.proofs.Loops.{with_front}
use Rattle.record_reading.specs.PieceOrder.{are_in_order}
use Rattle.record_reading.proofs.pieces.pieces_at.Given as goal

abbrev pub invariant-loop : goal.invariant-loop
invariant-loop l =
    (with_front l.pieces.items (read_many piece.read (l.count - l.counter) l.rest) ≡ read_many piece.read l.count l.bytes)
    × (l.stand ≡ are_in_order l.column l.pieces.items)
