-- What the code holds of the live root, as what the root holds.
use Rattle.std.specs.Prelude.{List, [], Option, Some, None}
use Rattle.std.specs.Option.{option_map}
use Rattle.std.specs.Arc.{arc_value}
use Rattle.overlay_terms.specs.Layers.{Layer}
use Rattle.overlay_terms.specs.Histories.{Finished}
use Rattle.layer_tiles.specs.Table.{tiles_in, Tabled}
use Rattle.store_terms.specs.Listing.{entries_of}
use Rattle.commit_plan.specs.declared.live_records.LiveRecords.{LiveRecords}
use Rattle.commit_plan.specs.Staying.{LiveContent}

-- the layers of a table; none where there is no table
abbrev pub layers_held : Option Tabled → List Layer
layers_held None = []
layers_held (Some table) = table.layers

-- the finished tiles of a table; none where there is no table
abbrev pub tiles_held : Option Tabled → List Finished
tiles_held None = []
tiles_held (Some table) = tiles_in table

-- the table that is held, if one is
abbrev pub table_of : LiveRecords → Option Tabled
table_of live = option_map (λ shared. arc_value shared) live.held

-- what the code holds of the live root: what is listed, the layers, and the finished tiles
abbrev pub live_content : LiveRecords → LiveContent
live_content live = record { listing = entries_of live.listing.items; layers = layers_held (table_of live); tiles = tiles_held (table_of live) }
