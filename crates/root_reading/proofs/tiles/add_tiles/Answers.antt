use Rattle.std.proofs.Common.{◌<◌, length, refl, ◌∙◌}
use Rattle.std.proofs.lemmas.List.{get_or_default}
use Rattle.layer_tiles.specs.Table.{tiles_in}
use Rattle.store_terms.specs.Image.{tiles_from_column}
use Rattle.root_reading.specs.declared.load_fault.LoadFault.{LoadFault}
use Rattle.root_reading.specs.Looking.{Refuses}
use Rattle.root_reading.specs.LayerReading.{then_tiles}
use Rattle.root_reading.proofs.Looked.{looks_none, looks_on, if_err, size_stays}
use Rattle.root_reading.proofs.LayerReadingLemmas.{tiles_go_on, tiles_end}
use Rattle.root_reading.proofs.tiles.add_tiles.Goals as goal

pub loop-column-init : goal.loop-column-init
loop-column-init g c = record {
  honest = (λ h. h, λ h. h);
  looks = λ honest. looks_none g.D.Disk c.args.disk.now honest
      (λ f left. g.met.D.Disk.only_now c.args.disk.now f honest left);
  faults = λ honest. refl;
  layers = refl;
  next = c.requires.next;
  rest = λ honest. refl;
}

pub loop-column-preserved : goal.loop-column-preserved
loop-column-preserved g c =
    let k = g.D.Disk in
    let was = c.loop-column.invariant in
    let lt : c.loop-column.column < length c.args.entries.now = c.loop-column-test.true in
    record {
      honest = (λ h. was.honest.0 (c.add_tile.ensures.looks.honest.0 h), λ h. c.add_tile.ensures.looks.honest.1 (was.honest.1 h));
      looks = λ honest. looks_on k c.args.disk.now c.loop-column.disk c.add_tile.new.disk (was.looks honest)
          (c.add_tile.ensures.looks.looks (was.honest.1 honest));
      faults = λ honest. c.in_ok-add_tile.ensures.looks.cause (was.honest.1 honest) ∙ was.faults honest;
      layers = c.in_ok-add_tile.ensures.layers ∙ was.layers;
      next = c.in_ok-add_tile.ensures.next;
      rest = λ honest.
          tiles_go_on (k.seen c.args.disk.now)
          (k.seen c.loop-column.disk) c.args.name.now c.loop-column.column _ c.args.entries.now
          (tiles_in c.loop-column.table) (tiles_in c.add_tile.new.table)
          (then_tiles (tiles_in c.args.table.now) (tiles_from_column (k.seen c.args.disk.now) c.args.name.now 0 c.args.entries.now))
          (was.looks honest).seen lt (get_or_default c.args.entries.now c.loop-column.column _ _ lt)
          (c.in_ok-add_tile.ensures.adds (was.honest.1 honest)) (was.rest honest);
    }

pub returns-in_err-add_tile-clause-refuses : goal.returns-in_err-add_tile-clause-refuses
returns-in_err-add_tile-clause-refuses g c honest =
    let k = g.D.Disk in
    let was = c.loop-column.invariant in
    let lt : c.loop-column.column < length c.args.entries.now = c.loop-column-test.true in
    let total = then_tiles (tiles_in c.args.table.now) (tiles_from_column (k.seen c.args.disk.now) c.args.name.now 0 c.args.entries.now) in
    if_err c.from_residual.result c.in_err-add_tile.field-0.0
    (λ (e : LoadFault). Refuses e total) c.from_residual.ensures.1
    (tiles_end (k.seen c.args.disk.now)
    (k.seen c.loop-column.disk) c.args.name.now c.loop-column.column _ c.args.entries.now
    (tiles_in c.loop-column.table) total c.in_err-add_tile.field-0.0
    (was.looks honest).seen lt (get_or_default c.args.entries.now c.loop-column.column _ _ lt)
    (c.in_err-add_tile.ensures.refuses (was.honest.1 honest)) (was.rest honest))

pub add_tile-requires-clause-size : goal.add_tile-requires-clause-size
add_tile-requires-clause-size g c =
    let was = c.loop-column.invariant in
    size_stays g.D.Disk c.args.disk.now c.loop-column.disk c.args.size was.honest was.looks c.requires.size
