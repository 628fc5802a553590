use Rattle.std.proofs.Common.{◌≡◌, ◌↔◌, [], drop}
use Rattle.layer_tiles.specs.Table.{tiles_in}
use Rattle.store_terms.specs.Listing.{entries_of}
use Rattle.store_terms.specs.Image.{layers_of}
use Rattle.root_reading.specs.Looking.{Looks}
use Rattle.root_reading.specs.LayerReading.{then_layers}
use Rattle.root_reading.proofs.contents.content_of.Given as goal

abbrev pub invariant-loop-entry : goal.invariant-loop-entry
invariant-loop-entry g l = record {
  honest : g.D.Disk.is_honest l.disk ↔ g.D.Disk.is_honest l.fn.disk;
  looks : g.D.Disk.is_honest l.fn.disk → Looks g.D.Disk l.fn.disk l.disk;
  faults : g.D.Disk.is_honest l.fn.disk → g.D.Disk.faults l.disk ≡ g.D.Disk.faults l.fn.disk;
  rest : g.D.Disk.is_honest l.fn.disk
      → then_layers (tiles_in l.table)
      (layers_of (g.D.Disk.seen l.fn.disk) l.table.layers (drop l.entry-index (entries_of l.listing)))
      ≡ layers_of (g.D.Disk.seen l.fn.disk) [] (entries_of l.listing);
}
