-- The columns up to one have their records.
use Rattle.std.proofs.Common.{◌≡◌, ◌++◌, length, take}
use Rattle.layer_tiles.specs.Table.{places_in, row_tiles}
use Rattle.commit_plan.specs.Drafted.{sizes_in}
use Rattle.commit_plan.specs.RecordPlaces.{AreTilesFiled}
use Rattle.commit_plan.specs.Sizes.{row_sizes}
use Rattle.commit_plan.specs.Live.{live_content}
use Rattle.commit_plan.proofs.record_places.file_tiles.Given as goal

abbrev pub invariant-loop-number : goal.invariant-loop-number
invariant-loop-number l = record {
  ok : AreTilesFiled (live_content l.live) l.fn.draft l.name (row_tiles l.name 0 (take l.number (places_in l.row))) l.entries.items l.draft;
  sizes : sizes_in l.draft ≡ sizes_in l.fn.draft ++ row_sizes (live_content l.live) l.name 0 (take l.number l.row);
  count : length l.entries.items ≡ l.number;
}
