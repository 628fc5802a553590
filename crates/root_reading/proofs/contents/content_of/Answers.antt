use Rattle.std.proofs.Common.{◌≡◌, ◌<◌, length, get_or, refl, [], sym, ◌∙◌, ap, arith}
use Rattle.std.proofs.lemmas.List.{length-map, get_or-map}
use Rattle.layer_tiles.proofs.Stored.{laid_is_stored}
use Rattle.layer_tiles.specs.Table.{laid, tiles_in}
use Rattle.store_terms.specs.Listing.{entry_of, entries_of}
use Rattle.store_terms.specs.Image.{layers_of}
use Rattle.root_reading.proofs.Looked.{looks_none, looks_on, gives_err, size_stays}
use Rattle.root_reading.proofs.LayerReadingLemmas.{layers_go_on, layers_end, no_front}
use Rattle.root_reading.proofs.contents.content_of.Goals as goal

pub loop-entry-init : goal.loop-entry-init
loop-entry-init g c = record {
  honest = (λ h. h, λ h. h);
  looks = λ honest. looks_none g.D.Disk c.args.disk.now honest
      (λ f left. g.met.D.Disk.only_now c.args.disk.now f honest left);
  faults = λ honest. refl;
  rest = λ honest. rw (c.in_ok-table.ensures.tiles, c.in_ok-table.ensures.layers)
      (no_front (layers_of (g.D.Disk.seen c.args.disk.now) [] (entries_of c.args.listing.now)));
}

pub loop-entry-preserved : goal.loop-entry-preserved
loop-entry-preserved g c =
    let k = g.D.Disk in
    let was = c.loop-entry.invariant in
    let i = c.loop-entry.entry-index in
    let listing = c.args.listing.now in
    let item = c.entry-item.result in
    let inside : i < length listing = c.loop-entry-test.true in
    let lt : i < length (entries_of listing) = omega (arith, length-map listing entry_of) in
    let is : entry_of item ≡ get_or (entries_of listing) i (entry_of item) =
    ap entry_of c.entry-item.is ∙ sym (get_or-map entry_of listing i item (entry_of item) inside) in
    record {
      honest = (λ h. was.honest.0 (c.add_layer.ensures.looks.honest.0 h), λ h. c.add_layer.ensures.looks.honest.1 (was.honest.1 h));
      looks = λ honest. looks_on k c.args.disk.now c.loop-entry.disk c.add_layer.new.disk (was.looks honest)
          (c.add_layer.ensures.looks.looks (was.honest.1 honest));
      faults = λ honest. c.in_ok-add_layer.ensures.looks.cause (was.honest.1 honest) ∙ was.faults honest;
      rest = λ honest.
          layers_go_on (k.seen c.args.disk.now) (k.seen c.loop-entry.disk) (was.looks honest).seen i (entry_of item)
          (entries_of listing) lt is c.loop-entry.table.layers (tiles_in c.loop-entry.table)
          (layers_of (k.seen c.args.disk.now) [] (entries_of listing)) c.add_layer.new.table.layers
          (tiles_in c.add_layer.new.table)
          (c.in_ok-add_layer.ensures.adds (was.honest.1 honest)) (was.rest honest);
    }

pub returns-in_err-add_layer-clause-gives : goal.returns-in_err-add_layer-clause-gives
returns-in_err-add_layer-clause-gives g c honest =
    let k = g.D.Disk in
    let was = c.loop-entry.invariant in
    let i = c.loop-entry.entry-index in
    let listing = c.args.listing.now in
    let item = c.entry-item.result in
    let inside : i < length listing = c.loop-entry-test.true in
    let lt : i < length (entries_of listing) = omega (arith, length-map listing entry_of) in
    let is : entry_of item ≡ get_or (entries_of listing) i (entry_of item) =
    ap entry_of c.entry-item.is ∙ sym (get_or-map entry_of listing i item (entry_of item) inside) in
    let total = layers_of (k.seen c.args.disk.now) [] (entries_of listing) in
    gives_err _ c.from_residual-in_err-add_layer.result c.in_err-add_layer.field-0.0 total c.from_residual-in_err-add_layer.ensures.1
    (layers_end (k.seen c.args.disk.now) (k.seen c.loop-entry.disk) (was.looks honest).seen i (entry_of item)
    (entries_of listing) lt is c.loop-entry.table.layers (tiles_in c.loop-entry.table) total
    c.in_err-add_layer.field-0.0 (c.in_err-add_layer.ensures.refuses (was.honest.1 honest)) (was.rest honest))

pub returns-clause-stored : goal.returns-clause-stored
returns-clause-stored g c = laid_is_stored (laid c.loop-entry.table) c.layers.ensures.valid

pub add_layer-requires : goal.add_layer-requires
add_layer-requires g c =
    let was = c.loop-entry.invariant in
    size_stays g.D.Disk c.args.disk.now c.loop-entry.disk c.args.size was.honest was.looks c.requires
