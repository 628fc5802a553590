use Rattle.std.proofs.Common.{◌≡◌, ◌-◌}
use Rattle.store_terms.specs.Fields.{read_many}
use Rattle.store_terms.specs.Catalog.{listed}
use Rattle.store_terms.proofs.Loops.{with_front}
use Rattle.store_terms.specs.Listing.{entries_of}
use Rattle.record_reading.proofs.catalog_record.listing_at.Given as goal

abbrev pub invariant-loop : goal.invariant-loop
invariant-loop l =
    with_front (entries_of l.listing.items) (read_many (listed l.columns).read (l.count - l.counter) l.rest)
    ≡ read_many (listed l.columns).read l.count l.bytes
