-- The tiles of a version that are not finished.
use Rattle.std.specs.Prelude.{ℕ, List, [], map, filter, flat_map, if◌then◌else◌}
use Rattle.std.specs.Option.{is_none}
use Rattle.overlay_terms.specs.Column.{columns}
use Rattle.overlay_terms.specs.Layers.{Name, Layer}
use Rattle.overlay_terms.specs.Commands.{is_derived}
use Rattle.overlay_terms.specs.Histories.{Version, tile_at}

-- the tiles of a layer that are not finished, in some columns
abbrev pub pending_in : Version → Name → List ℕ → List (Name × ℕ)
pending_in version name among = map (λ k. (name, k)) (filter (λ k. is_none (tile_at version.tiles name k)) among)

-- the tiles of a layer that are not finished, by column
abbrev pub pending_of : Version → Name → List (Name × ℕ)
pending_of version name = pending_in version name columns

-- the same of a layer where it is derived; a base layer has no tiles
abbrev pub pending_of_layer : Version → Layer → List (Name × ℕ)
pending_of_layer version layer = if is_derived layer.content then pending_of version layer.name else []

-- the tiles that are not finished, by layer in order, then by column
abbrev pub pending_tiles : Version → List (Name × ℕ)
pending_tiles version = flat_map (pending_of_layer version) version.layers
