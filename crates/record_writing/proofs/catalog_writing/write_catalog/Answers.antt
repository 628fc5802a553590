use Rattle.std.proofs.Common.{◌≡◌, length, get_or, sym, ap, ◌∙◌, arith}
use Rattle.std.proofs.lemmas.List.{get_or-map, length-map}
use Rattle.overlay_terms.specs.Column.{column_count}
use Rattle.store_terms.specs.Catalog.{listed, catalog}
use Rattle.store_terms.proofs.LayoutLemmas.{catalog_is}
use Rattle.store_terms.specs.Listing.{entry_of, entries_of}
use Rattle.record_writing.proofs.PutLemmas.{put_number, put_more, put_all, put_counted, put_reads_back}
use Rattle.record_writing.proofs.catalog_writing.write_catalog.Goals as goal

pub loop-layer-preserved : goal.loop-layer-preserved
loop-layer-preserved c =
    let given = c.args.listing.now in
    let i = c.loop-layer.layer-index in
    let layer = c.layer-item.result in
    let is : entry_of layer ≡ get_or (entries_of given) i (entry_of layer) =
    ap entry_of c.layer-item.is
    ∙ sym (get_or-map entry_of given i layer (entry_of layer) c.loop-layer-test.true) in
    put_more (listed column_count) (entries_of given) i
    (entry_of layer) c.put_two_bytes.new.out.items c.loop-layer.out.items c.put_layer.new.out.items
    (omega (arith, length-map given entry_of, c.loop-layer-test.true)) is c.loop-layer.invariant c.in_ok-put_layer.ensures

pub returns-clause-reads_back : goal.returns-clause-reads_back
returns-clause-reads_back c =
    let given = c.args.listing.now in
    let xs = entries_of given in
    let len : length xs ≡ length given = length-map given entry_of in
    let all = put_all
    (listed column_count) xs c.loop-layer.layer-index c.put_two_bytes.new.out.items c.loop-layer.out.items
    (omega (arith, len, c.loop-layer-test.false)) c.loop-layer.invariant in
    let none = c.new-out.ensures.items in
    let count = put_number 2 (length xs) c.new-out.result.items c.put_two_bytes.new.out.items
    (omega (arith, len, c.requires.few)) (rw len c.in_ok-put_two_bytes.ensures) in
    put_reads_back (catalog column_count)
    (catalog_is column_count) xs c.new-out.result.items c.loop-layer.out.items none
    (put_counted (listed column_count) 2 xs c.new-out.result.items c.put_two_bytes.new.out.items c.loop-layer.out.items count all)
