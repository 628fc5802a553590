-- The records of some layers and tiles, as they are in a file.
use Rattle.std.specs.Prelude.{◌≡◌, ℕ, ◌+◌, ◌≤◌, true, List, [], ◌∷◌, ◌++◌, length, Option, Some, None, Ok, IsTrue}
use Rattle.std.proofs.Common.{inl, inr}
use Rattle.std.specs.List.{AllByRecursion}
use Rattle.overlay_terms.specs.Plane.{WholePoint}
use Rattle.overlay_terms.specs.Trees.{Tree}
use Rattle.overlay_terms.specs.Layers.{layers_max, Name, base, derived, Layer}
use Rattle.overlay_terms.specs.Orderly.{IsOrderly}
use Rattle.overlay_terms.specs.Histories.{Tile, Finished}
use Rattle.layer_expr.specs.Name.{is_name}
use Rattle.store_terms.specs.BaseRecord.{base_of_record}
use Rattle.store_terms.specs.DefinitionRecord.{definition_of_record}
use Rattle.store_terms.specs.TileRecord.{tile_of_record}
use Rattle.store_terms.specs.declared.root.RecordExtent.{RecordExtent}
use Rattle.store_terms.specs.Catalog.{Records, Listed, catalog_of_record}
use Rattle.store_terms.specs.Places.{bytes_at, is_placed, all_apart, extents_listed}
use Rattle.store_terms.specs.declared.root.Root.{Root}
use Rattle.store_terms.specs.Image.{Held, listing_of, held_of}

-- a record that is placed spells a value
pub record Spells {A : Type 0} (file : List ℕ) (e : RecordExtent) (read : List ℕ → Option A) (value : A) : Type 0 where
  pub placed : is_placed file e ≡ true
  pub is : read (bytes_at file e) ≡ Some value

-- the tiles of a layer, from a column on
abbrev pub TilesAre : List ℕ → Name → ℕ → List (Option RecordExtent) → List Finished → Type 0
TilesAre file name k [] tiles = tiles ≡ []
TilesAre file name k (None ∷ es) tiles = TilesAre file name (k + 1) es tiles
TilesAre file name k (Some e ∷ es) tiles =
    (tile : Tile) × (rest : List Finished) × (tiles ≡ record { name = name; column = k; tile = tile } ∷ rest) × Spells file e (tile_of_record k) tile × TilesAre file name (k + 1) es rest

-- a layer and its tiles
abbrev pub LayerIs : List ℕ → Name → Records → Layer → List Finished → Type 0
LayerIs file name (inl e) layer tiles =
    (rings : List (List WholePoint)) × (layer ≡ record { name = name; content = base rings }) × (tiles ≡ []) × Spells file e base_of_record rings
LayerIs file name (inr (e, es)) layer tiles =
    (tree : Tree Name) × (layer ≡ record { name = name; content = derived tree }) × Spells file e definition_of_record tree × TilesAre file name 0 es tiles

-- all of them, in order
abbrev pub LayersAre : List ℕ → List Listed → List Layer → List Finished → Type 0
LayersAre file [] layers tiles = (layers ≡ []) × (tiles ≡ [])
LayersAre file (l ∷ ls) layers tiles =
    (layer : Layer) × (rest : List Layer) × (own : List Finished) × (more : List Finished) × (layers ≡ layer ∷ rest) × (tiles ≡ own ++ more)
    × LayerIs file l.name l.records layer own × LayersAre file ls rest more

-- a root whose catalog lists the records of some layers and tiles
pub record IsSpelled (file : List ℕ) (r : Root) (x : Held) : Type 0 where
  pub listing : List Listed
  pub catalog : Spells file r.catalog (catalog_of_record r.is_old) listing
  pub layers : LayersAre file listing x.layers x.tiles
  pub apart : all_apart (r.catalog ∷ extents_listed listing) ≡ true
  pub number : r.version ≡ x.number

-- what the layers of a version are: orderly, not too many, and named
pub record MayBeStored (layers : List Layer) : Type 0 where
  pub orderly : IsOrderly layers
  pub few : length layers ≤ layers_max
  pub named : AllByRecursion (λ layer. IsTrue (is_name layer.name)) layers

-- what is spelled so is held
abbrev pub SpelledIsHeld : Type 0
SpelledIsHeld = (file : List ℕ) (r : Root) (x : Held) → MayBeStored x.layers → IsSpelled file r x → held_of file r ≡ Ok x

-- what a root holds is spelled, record by record, in the places of its listing; and no two of these share a block
abbrev pub HeldIsSpelled : Type 0
HeldIsSpelled =
    (file : List ℕ) (r : Root) (x : Held) (listing : List Listed) → listing_of file r ≡ Ok listing → held_of file r ≡ Ok x
    → LayersAre file listing x.layers x.tiles × (all_apart (r.catalog ∷ extents_listed listing) ≡ true)
