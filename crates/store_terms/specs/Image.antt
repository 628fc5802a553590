-- What the catalog of a root holds: layers and finished tiles.
use Rattle.std.specs.Prelude.{ℕ, ◌+◌, ◌&&◌, [], ◌∷◌, ◌++◌, if◌then◌else◌}
use Rattle.std.specs.Prelude.{Bool, not, List, Option, Some, None, Result, Ok, Err}
use Rattle.std.specs.Option.{is_none}
use Rattle.std.proofs.Common.{inl, inr}
use Rattle.overlay_terms.specs.Layers.{Name, Content, base, derived, Layer}
use Rattle.overlay_terms.specs.Commands.{Refusal, refusal_of_put, refusal_of_define, stands}
use Rattle.overlay_terms.specs.Histories.{Finished}
use Rattle.layer_expr.specs.Name.{is_name}
use Rattle.store_terms.specs.declared.damage.Damage.{Damage}
use Rattle.store_terms.specs.declared.damage.Damage.TheVariants.{CatalogPlace, CatalogForm, RecordPlace}
use Rattle.store_terms.specs.declared.damage.Damage.TheVariants.{LayerForm, LayerRefused, TileForm, Overlap}
use Rattle.store_terms.specs.BaseRecord.{base_of_record}
use Rattle.store_terms.specs.DefinitionRecord.{definition_of_record}
use Rattle.store_terms.specs.TileRecord.{tile_of_record}
use Rattle.store_terms.specs.declared.root.RecordExtent.{RecordExtent}
use Rattle.store_terms.specs.Catalog.{Records, Listed, catalog_of_record}
use Rattle.store_terms.specs.Places.{bytes_at, is_placed, extents_listed, all_apart}
use Rattle.store_terms.specs.declared.root.Root.{Root}

infixl 10 ◌>>=◌
-- what f makes of a value; what is wrong, where something is
abbrev pub ◌>>=◌ : {A B : Type 0} → Result A Damage → (A → Result B Damage) → Result B Damage
(Ok x) >>= f = f x
(Err e) >>= f = Err e

-- a value, or what is wrong where there is none
abbrev pub or_fault : {A : Type 0} → Damage → Option A → Result A Damage
or_fault fault None = Err fault
or_fault fault (Some x) = Ok x

-- the bytes of a record that is placed
abbrev pub placed_bytes : Damage → List ℕ → RecordExtent → Result (List ℕ) Damage
placed_bytes fault file e = if is_placed file e then Ok (bytes_at file e) else Err fault

-- ---- layers and their tiles

-- why the command that keeps a content under a name is refused
abbrev pub refusal_of_keeping : List Layer → Name → Content → Option Refusal
refusal_of_keeping known name (base rings) = refusal_of_put known name
refusal_of_keeping known name (derived expression) = refusal_of_define known name expression

-- whether a layer may follow some others: it has a name, none of them has it, and the command that keeps it is accepted
abbrev pub may_stand : List Layer → Name → Content → Bool
may_stand known name content = is_name name && not (stands known name) && is_none (refusal_of_keeping known name content)

-- layers with one more after them, where it may follow them
abbrev pub with_layer : List Layer → Name → Content → Result (List Layer) Damage
with_layer known name content = if may_stand known name content then Ok (known ++ record { name = name; content = content } ∷ []) else Err LayerRefused

-- the tiles of a layer, from a column on
abbrev pub tiles_from_column : List ℕ → Name → ℕ → List (Option RecordExtent) → Result (List Finished) Damage
tiles_from_column file name k [] = Ok []
tiles_from_column file name k (None ∷ rest) = tiles_from_column file name (k + 1) rest
tiles_from_column file name k (Some e ∷ rest) =
    placed_bytes RecordPlace file e >>= λ bytes. or_fault TileForm (tile_of_record k bytes)
    >>= λ tile. tiles_from_column file name (k + 1) rest >>= λ tiles. Ok (record { name = name; column = k; tile = tile } ∷ tiles)

-- the layers with one more, and its tiles
abbrev pub layer_of : List ℕ → List Layer → Name → Records → Result (List Layer × List Finished) Damage
layer_of file known name (inl e) =
    placed_bytes RecordPlace file e >>= λ bytes. or_fault LayerForm (base_of_record bytes)
    >>= λ rings. with_layer known name (base rings) >>= λ layers. Ok (layers, [])
layer_of file known name (inr (e, tiles)) =
    placed_bytes RecordPlace file e >>= λ bytes. or_fault LayerForm (definition_of_record bytes)
    >>= λ expression. with_layer known name (derived expression)
    >>= λ layers. tiles_from_column file name 0 tiles >>= λ finished. Ok (layers, finished)

-- all layers and tiles that are listed, after those that are known
abbrev pub layers_of : List ℕ → List Layer → List Listed → Result (List Layer × List Finished) Damage
layers_of file known [] = Ok (known, [])
layers_of file known (l ∷ ls) =
    layer_of file known l.name l.records >>= λ first. layers_of file first.0 ls >>= λ rest. Ok (rest.0, first.1 ++ rest.1)

-- ---- the image

-- what a file holds: the number of a version, its layers, and its finished tiles by layer and column
pub record Held : Type 0 where
  pub number : ℕ
  pub layers : List Layer
  pub tiles : List Finished

-- what the catalog of a root lists
unfoldable pub listing_of : List ℕ → Root → Result (List Listed) Damage
listing_of file r = placed_bytes CatalogPlace file r.catalog >>= λ bytes. or_fault CatalogForm (catalog_of_record r.is_old bytes)

-- what a root holds, by what its catalog lists; no two of its records may have a block in common
abbrev pub held_by : List ℕ → Root → List Listed → Result Held Damage
held_by file r listing =
    layers_of file [] listing >>= λ held.
    if all_apart (r.catalog ∷ extents_listed listing) then Ok (record { number = r.version; layers = held.0; tiles = held.1 }) else Err Overlap

-- what a root holds
abbrev pub held_of : List ℕ → Root → Result Held Damage
held_of file r = listing_of file r >>= held_by file r
