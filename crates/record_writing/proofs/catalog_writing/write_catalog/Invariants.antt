use Rattle.std.proofs.Common.{take}
use Rattle.overlay_terms.specs.Column.{column_count}
use Rattle.store_terms.specs.Catalog.{listed}
use Rattle.store_terms.specs.Listing.{entries_of}
use Rattle.record_writing.specs.Putting.{ArePut}
use Rattle.record_writing.proofs.catalog_writing.write_catalog.Given as goal

abbrev pub invariant-loop-layer : goal.invariant-loop-layer
invariant-loop-layer l =
    ArePut (listed column_count) (take l.layer-index (entries_of l.listing)) l.initial.out.items l.out.items
