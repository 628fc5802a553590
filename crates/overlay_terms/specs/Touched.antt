-- Which tiles a command touches: those of the derived layers that it takes out, and those whose input it changes.
use Rattle.std.specs.Prelude.{ℕ, Bool, not, ◌&&◌, List, map, filter, flat_map, bytes_eq}
use Rattle.std.specs.List.{list_any, filter_map}
use Rattle.overlay_terms.specs.Column.{columns}
use Rattle.overlay_terms.specs.Layers.{Name, Layer, derived_of, layers_in_reach}
use Rattle.overlay_terms.specs.Tiles.{input_of}
use Rattle.overlay_terms.specs.SameInput.{same_input}
use Rattle.overlay_terms.specs.Commands.{Command, put, define, remove, applied, is_derived, stands_as_derived}

-- whether the tile of a layer and column stays: the layer is derived afterwards too, and the tile has the same input
abbrev pub tile_stays : List Layer → List Layer → Name → ℕ → Bool
tile_stays before after name k =
    stands_as_derived after name && same_input (input_of after name k) (input_of before name k)

-- whether a command touches the tile of a layer and column: the layer is derived, and the tile does not stay
abbrev pub is_touched : List Layer → Command → Name → ℕ → Bool
is_touched layers command name k =
    stands_as_derived layers name && not (tile_stays layers (applied layers command) name k)

-- the tiles that a command touches, by derived layer in order, then by column
abbrev pub touched_tiles : List Layer → Command → List (Name × ℕ)
touched_tiles layers command =
    flat_map (λ d. map (λ k. (d.0, k)) (filter (is_touched layers command d.0) columns)) (filter_map derived_of layers)

-- the name that a command puts, defines or takes out
abbrev pub name_of : Command → Name
name_of (put name rings) = name
name_of (define name expression) = name
name_of (remove name) = name

-- whether a layer reaches a name, itself or through others
abbrev pub reaches_name : List Layer → Name → Name → Bool
reaches_name layers from name = list_any (λ layer. bytes_eq layer.name name) (layers_in_reach layers from)

-- the derived layers that reach a name, in order: no other has a tile that a command under that name touches
abbrev pub derived_over : List Layer → Name → List Name
derived_over layers name =
    map (λ (layer : Layer). layer.name)
    (filter (λ (layer : Layer). is_derived layer.content && reaches_name layers layer.name name) layers)
