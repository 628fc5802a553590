use Rattle.std.proofs.Common.{◌≡◌, ◌-◌}
use Rattle.store_terms.specs.Fields.{read_many}
use Rattle.store_terms.specs.BaseRecord.{ring}
use Rattle.store_terms.proofs.Loops.{with_front}
use Rattle.record_reading.proofs.base_record.rings_at.Given as goal

abbrev pub invariant-loop : goal.invariant-loop
invariant-loop l =
    with_front l.rings.items (read_many ring.read (l.count - l.counter) l.rest) ≡ read_many ring.read l.count l.bytes
