use Rattle.std.proofs.Common.{◌≡◌, ◌↔◌, drop}
use Rattle.layer_tiles.specs.Table.{tiles_in}
use Rattle.store_terms.specs.Image.{tiles_from_column}
use Rattle.root_reading.specs.Looking.{Looks}
use Rattle.root_reading.specs.LayerReading.{then_tiles}
use Rattle.root_reading.specs.Stored.{IsNextTo}
use Rattle.root_reading.proofs.tiles.add_tiles.Given as goal

abbrev pub invariant-loop-column : goal.invariant-loop-column
invariant-loop-column g l = record {
  honest : g.D.Disk.is_honest l.disk ↔ g.D.Disk.is_honest l.fn.disk;
  looks : g.D.Disk.is_honest l.fn.disk → Looks g.D.Disk l.fn.disk l.disk;
  faults : g.D.Disk.is_honest l.fn.disk → g.D.Disk.faults l.disk ≡ g.D.Disk.faults l.fn.disk;
  layers : l.table.layers ≡ l.fn.table.layers;
  next : IsNextTo l.table l.name l.column;
  rest : g.D.Disk.is_honest l.fn.disk
      → then_tiles (tiles_in l.table) (tiles_from_column (g.D.Disk.seen l.fn.disk) l.name l.column (drop l.column l.entries))
      ≡ then_tiles (tiles_in l.fn.table) (tiles_from_column (g.D.Disk.seen l.fn.disk) l.name 0 l.entries);
}
