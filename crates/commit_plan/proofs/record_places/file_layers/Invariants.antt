-- The layers up to one have their records.
use Rattle.std.proofs.Common.{◌≡◌, ◌++◌, length, take}
use Rattle.std.specs.List.{All}
use Rattle.layer_tiles.specs.Table.{placed_rows, tiles_of}
use Rattle.store_terms.specs.Listing.{entries_of, IsListable}
use Rattle.commit_plan.specs.Drafted.{sizes_in}
use Rattle.commit_plan.specs.Sizes.{sizes_of_layers}
use Rattle.commit_plan.specs.RecordPlaces.{AreLayersFiled}
use Rattle.commit_plan.specs.Live.{live_content}
use Rattle.commit_plan.proofs.record_places.file_layers.Given as goal

abbrev pub invariant-loop-place : goal.invariant-loop-place
invariant-loop-place l = record {
  ok : AreLayersFiled (live_content l.live) l.fn.draft (take l.place l.table.layers) (tiles_of (take l.place l.table.layers) (take l.place (placed_rows l.table.rows))) (entries_of l.listing.items) l.draft;
  sizes : sizes_in l.draft ≡ sizes_in l.fn.draft ++ sizes_of_layers (live_content l.live) (take l.place l.table.layers) (take l.place l.table.rows);
  listable : All IsListable l.listing.items;
  count : length l.listing.items ≡ l.place;
}
