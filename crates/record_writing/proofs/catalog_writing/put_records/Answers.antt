use Rattle.overlay_terms.specs.Column.{column_count}
use Rattle.store_terms.specs.Fields.{both, repeated}
use Rattle.store_terms.specs.Choices.{optional}
use Rattle.store_terms.specs.Catalog.{extent}
use Rattle.record_writing.proofs.PutLemmas.{put_both, put_first, put_second}
use Rattle.record_writing.proofs.catalog_writing.put_records.Goals as goal

pub returns-in_ok-put_extent-in-Base : goal.returns-in_ok-put_extent-in-Base
returns-in_ok-put_extent-in-Base c =
    rw c.in-Base.is
    (put_first extent
    (both extent (repeated column_count
    (optional extent))) c.in-Base.extent c.args.out.now.items c.push.new.self.items c.put_extent.new.out.items c.in_ok-push-in-Base.ensures.items c.in_ok-put_extent-in-Base.ensures)

pub returns-in_ok-put_tiles-in-Derived : goal.returns-in_ok-put_tiles-in-Derived
returns-in_ok-put_tiles-in-Derived c =
    let tiles = c.in-Derived.tiles.items in
    let put = rw c.deref.ensures.value at c.in_ok-put_tiles-in-Derived.ensures in
    rw c.in-Derived.is
    (put_second extent (both extent (repeated column_count (optional extent)))
    (c.in-Derived.extent, tiles) c.args.out.now.items c.push-in-Derived.new.self.items c.put_tiles.new.out.items c.in_ok-push-in-Derived.ensures.items
    (put_both extent
    (repeated column_count
    (optional extent)) c.in-Derived.extent tiles c.push-in-Derived.new.self.items c.put_extent-in-Derived.new.out.items c.put_tiles.new.out.items c.in_ok-put_extent-in-Derived.ensures put))
