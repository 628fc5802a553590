-- What opening reads of the records of a root, one after another.
use Rattle.std.specs.Prelude.{ℕ, suc, List, ◌++◌, take, Result, Ok}
use Rattle.overlay_terms.specs.Plane.{WholePoint}
use Rattle.overlay_terms.specs.Trees.{Tree}
use Rattle.overlay_terms.specs.Layers.{Name, derived, Layer}
use Rattle.overlay_terms.specs.Histories.{Tile, Finished}
use Rattle.store_terms.specs.declared.damage.Damage.{Damage}
use Rattle.store_terms.specs.declared.damage.Damage.TheVariants.{RecordPlace, LayerForm, TileForm}
use Rattle.store_terms.specs.declared.root.RecordExtent.{RecordExtent}
use Rattle.store_terms.specs.BaseRecord.{base_of_record}
use Rattle.store_terms.specs.DefinitionRecord.{definition_of_record}
use Rattle.store_terms.specs.TileRecord.{tile_of_record}
use Rattle.store_terms.specs.Image.{◌>>=◌, or_fault, placed_bytes, with_layer}

-- the bytes of a record in an extent; of one that is longer than any of its form, as many as show it
abbrev pub front_of : ℕ → Damage → List ℕ → RecordExtent → Result (List ℕ) Damage
front_of most damage file e = placed_bytes damage file e >>= λ bytes. Ok (take (suc most) bytes)

-- the rings of the base record in an extent
abbrev pub rings_at : List ℕ → RecordExtent → Result (List (List WholePoint)) Damage
rings_at file e = placed_bytes RecordPlace file e >>= λ bytes. or_fault LayerForm (base_of_record bytes)

-- the expression of the definition record in an extent
abbrev pub expression_at : List ℕ → RecordExtent → Result (Tree Name) Damage
expression_at file e = placed_bytes RecordPlace file e >>= λ bytes. or_fault LayerForm (definition_of_record bytes)

-- the layers with one more after them: an expression, from an extent
abbrev pub layers_with_derived : List ℕ → List Layer → Name → RecordExtent → Result (List Layer) Damage
layers_with_derived file known name e =
    expression_at file e >>= λ expression. with_layer known name (derived expression)

-- the tile of a column in an extent
abbrev pub tile_at : List ℕ → ℕ → RecordExtent → Result Tile Damage
tile_at file k e = placed_bytes RecordPlace file e >>= λ bytes. or_fault TileForm (tile_of_record k bytes)

-- some tiles, and those that are read after them
abbrev pub then_tiles : List Finished → Result (List Finished) Damage → Result (List Finished) Damage
then_tiles front read = read >>= λ tiles. Ok (front ++ tiles)

-- layers, and some tiles before those that are read with them
abbrev pub then_layers : List Finished → Result (List Layer × List Finished) Damage
    → Result (List Layer × List Finished) Damage
then_layers front read = read >>= λ x. Ok (x.0, front ++ x.1)
