use Rattle.std.proofs.Common.{◌≡◌, ◌-◌}
use Rattle.store_terms.specs.Fields.{read_many}
use Rattle.store_terms.specs.Choices.{optional}
use Rattle.store_terms.specs.Catalog.{extent}
use Rattle.store_terms.proofs.Loops.{with_front}
use Rattle.record_reading.proofs.catalog_record.tiles_at.Given as goal

abbrev pub invariant-loop : goal.invariant-loop
invariant-loop l =
    with_front l.tiles.items (read_many (optional extent).read (l.columns - l.counter) l.rest)
    ≡ read_many (optional extent).read l.columns l.bytes
