-- Records with their places, as a commit writes them: the catalog, the extents and the writes come from one list.
use Rattle.std.specs.Prelude.{◌≡◌, ℕ, ◌+◌, ◌-◌, ◌*◌, ◌^◌, ◌<◌, ◌≤◌, [], ◌∷◌, ◌++◌}
use Rattle.std.specs.Prelude.{true, List, length, take, map, flat_map, replicate, Option, Some, None}
use Rattle.std.proofs.Common.{inl, inr}
use Rattle.std.specs.Option.{option_map}
use Rattle.std.specs.List.{AllByRecursion}
use Rattle.overlay_terms.specs.Plane.{WholePoint}
use Rattle.overlay_terms.specs.Trees.{Tree}
use Rattle.overlay_terms.specs.Layers.{Name, Content, base, derived, Layer}
use Rattle.overlay_terms.specs.Histories.{Tile, Finished}
use Rattle.store_terms.specs.BaseRecord.{base_of_record}
use Rattle.store_terms.specs.DefinitionRecord.{definition_of_record}
use Rattle.store_terms.specs.TileRecord.{tile_of_record}
use Rattle.store_terms.specs.declared.root.RecordExtent.{RecordExtent}
use Rattle.store_terms.specs.Catalog.{Listed, catalog_of_record}
use Rattle.store_terms.specs.Places.{block_size, blocks, all_apart, extents_listed}
use Rattle.store_terms.specs.Spelled.{MayBeStored}
use Rattle.commit_plan.specs.declared.write.Write.{Write}
use Rattle.commit_plan.specs.Kept.{Kept, Shut}
use Rattle.commit_plan.specs.Staying.{LiveContent, kept_content, layer_stays, tile_record_stays}
use Rattle.commit_plan.specs.Planning.{IsWritten, Makes}

-- the bytes of a record, and where they go
pub record Filed : Type 0 where
  pub extent : RecordExtent
  pub bytes : List ℕ

-- what is known of a record that has its place: it lies after the slots, at a block of 32 bits, and its
-- extent says how many bytes it has
pub record HasPlace (f : Filed) : Type 0 where
  pub behind : 2 ≤ f.extent.block
  pub low : f.extent.block < 2 ^ 32
  pub sized : f.extent.size ≡ length f.bytes

-- the sizes of some records, and where they lie
abbrev pub lengths_of : List Filed → List ℕ
lengths_of fs = map (λ (f : Filed). length f.bytes) fs

abbrev pub extents_of_filed : List Filed → List RecordExtent
extents_of_filed fs = map (λ (f : Filed). f.extent) fs

-- a record of a commit: bytes that are written, or an extent of the live root that stays
pub data Record : Type 0 where
  fresh : Filed → Record
  stays : RecordExtent → Record

abbrev pub extent_of : Record → RecordExtent
extent_of (fresh f) = f.extent
extent_of (stays e) = e

-- what of it is written
abbrev pub fresh_of : Record → List Filed
fresh_of (fresh f) = f ∷ []
fresh_of (stays e) = []

-- a base layer's record; or that of a definition, and of each of its finished tiles
pub data FiledLayer : Type 0 where
  a_base : Name → Record → FiledLayer
  a_definition : Name → Record → List (Option Record) → FiledLayer

abbrev pub listed_of : FiledLayer → Listed
listed_of (a_base name r) = record { name = name; records = inl (extent_of r) }
listed_of (a_definition name r tiles) =
    record { name = name; records = inr (extent_of r, map (option_map extent_of) tiles) }

abbrev pub filed_tiles : List (Option Record) → List Filed
filed_tiles [] = []
filed_tiles (None ∷ ts) = filed_tiles ts
filed_tiles (Some r ∷ ts) = fresh_of r ++ filed_tiles ts

-- the records of a layer that are written
abbrev pub filed_of : FiledLayer → List Filed
filed_of (a_base name r) = fresh_of r
filed_of (a_definition name r tiles) = fresh_of r ++ filed_tiles tiles

-- bytes spell what a layer holds
abbrev pub SpellsContent : Content → List ℕ → Type 0
SpellsContent (base rings) bytes = base_of_record bytes ≡ Some rings
SpellsContent (derived tree) bytes = definition_of_record bytes ≡ Some tree

module _ (live : LiveContent) where
  -- a layer's own record: it stays where the live root has one that is equal; else its bytes spell the layer
  abbrev pub SaysLayer : Layer → Record → Type 0
  SaysLayer layer (fresh f) = SpellsContent layer.content f.bytes × (layer_stays live layer ≡ None)
  SaysLayer layer (stays e) = layer_stays live layer ≡ Some e

  -- the same of a tile's record
  abbrev pub SaysTile : Finished → Record → Type 0
  SaysTile t (fresh f) = (tile_of_record t.column f.bytes ≡ Some t.tile) × (tile_record_stays live t ≡ None)
  SaysTile t (stays e) = tile_record_stays live t ≡ Some e

  -- the tiles that some records say, from a column on
  abbrev pub SpellTiles : Name → ℕ → List (Option Record) → List Finished → Type 0
  SpellTiles name k [] tiles = tiles ≡ []
  SpellTiles name k (None ∷ ts) tiles = SpellTiles name (k + 1) ts tiles
  SpellTiles name k (Some r ∷ ts) tiles =
      (tile : Tile) × (rest : List Finished) × (tiles ≡ record { name = name; column = k; tile = tile } ∷ rest)
      × SaysTile (record { name = name; column = k; tile = tile }) r × SpellTiles name (k + 1) ts rest

  -- the layer that its records say, and its tiles
  abbrev pub SpellLayer : FiledLayer → Layer → List Finished → Type 0
  SpellLayer (a_base name r) layer tiles =
      (rings : List (List WholePoint)) × (layer ≡ record { name = name; content = base rings }) × (tiles ≡ [])
      × SaysLayer (record { name = name; content = base rings }) r
  SpellLayer (a_definition name r ts) layer tiles =
      (tree : Tree Name) × (layer ≡ record { name = name; content = derived tree })
      × SaysLayer (record { name = name; content = derived tree }) r × SpellTiles name 0 ts tiles

  abbrev pub SpellLayers : List FiledLayer → List Layer → List Finished → Type 0
  SpellLayers [] layers tiles = (layers ≡ []) × (tiles ≡ [])
  SpellLayers (l ∷ ls) layers tiles =
      (layer : Layer) × (rest : List Layer) × (own : List Finished) × (more : List Finished) × (layers ≡ layer ∷ rest)
      × (tiles ≡ own ++ more) × SpellLayer l layer own × SpellLayers ls rest more

-- the write of a record: whole blocks, the record in front and zeros after it
pub record IsWriteOf (f : Filed) (w : Write) : Type 0 where
  pub behind : 2 ≤ f.extent.block
  pub there : w.at ≡ block_size * f.extent.block
  pub size : f.extent.size ≡ length f.bytes
  pub front : take f.extent.size w.bytes.items ≡ f.bytes
  pub filled : w.bytes.items ≡ f.bytes ++ replicate (block_size * blocks f.extent.size - f.extent.size) 0
  pub blocks : length w.bytes.items ≡ block_size * blocks f.extent.size

-- the writes are those of the records, in order
abbrev pub AreWritesOf : List Filed → List Write → Type 0
AreWritesOf [] [] = Unit {0}
AreWritesOf [] (w ∷ ws) = ⊥
AreWritesOf (f ∷ fs) [] = ⊥
AreWritesOf (f ∷ fs) (w ∷ ws) = IsWriteOf f w × AreWritesOf fs ws

-- what a commit from x to y files: the records of all layers, and a catalog that lists them
pub record Files (x y : Kept) (layers : List FiledLayer) (listing : Filed) : Type 0 where
  pub spelled : SpellLayers (kept_content x) layers y.held.layers y.held.tiles
  pub stored : MayBeStored y.held.layers
  pub catalog : catalog_of_record y.root.is_old listing.bytes ≡ Some (map listed_of layers)
  pub there : y.root.catalog ≡ listing.extent
  pub number : y.root.version ≡ y.held.number
  pub lists : y.listing ≡ map listed_of layers
  pub apart : all_apart (y.root.catalog ∷ extents_listed (map listed_of layers)) ≡ true

-- where what is written is put, and the file still holds x, it has what the root of y names
abbrev pub FilingMakes : Type 0
FilingMakes =
    (x y : Kept) (layers : List FiledLayer) (listing : Filed) (ws : List Write) (file : List ℕ) → Shut x file
    → Files x y layers listing → AreWritesOf (flat_map filed_of layers ++ listing ∷ []) ws
    → AllByRecursion (IsWritten file) ws → Makes y file
