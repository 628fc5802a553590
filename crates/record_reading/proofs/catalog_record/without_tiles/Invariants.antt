use Rattle.std.proofs.Common.{◌≡◌, map, take}
use Rattle.store_terms.specs.Catalog.{without_tiles}
use Rattle.store_terms.specs.Listing.{entries_of}
use Rattle.record_reading.proofs.catalog_record.without_tiles.Given as goal

-- the layers so far have each tile pending
abbrev pub invariant-loop-layer : goal.invariant-loop-layer
invariant-loop-layer l = entries_of l.pending.items ≡ map without_tiles (entries_of (take l.layer-index l.listing))
