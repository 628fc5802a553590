-- The records of layers and of their rows of tiles, as they get their places one after another.
use Rattle.std.specs.Prelude.{◌≡◌, ℕ, List, [], ◌∷◌, map, flat_map, Option, Some, IsTrue}
use Rattle.std.specs.Option.{option_map}
use Rattle.std.proofs.Common.{get_or, None}
use Rattle.overlay_terms.specs.Layers.{Name, Layer}
use Rattle.overlay_terms.specs.Histories.{Finished, is_formed, tile_at, Tile}
use Rattle.store_terms.specs.Catalog.{Listed}
use Rattle.store_terms.specs.declared.root.RecordExtent.{RecordExtent}
use Rattle.layer_tiles.specs.Table.{places_in, row_tiles}
use Rattle.layer_tiles.specs.TileCode.{by_places, Named}
use Rattle.commit_plan.specs.Staying.{LiveContent}
use Rattle.commit_plan.specs.Filed.{Record, extent_of, fresh_of, FiledLayer, listed_of}
use Rattle.commit_plan.specs.Filed.{filed_tiles, filed_of, SpellTiles, SpellLayer, SpellLayers}
use Rattle.commit_plan.specs.Drafted.{Drafted, with_filed}

-- each tile of a row has the form of its column
abbrev pub AreFormedIn : List (Option Named) → Type 0
AreFormedIn row = (k : ℕ) (tile : Named) → get_or row k None ≡ Some tile → IsTrue (is_formed (by_places tile) k)

-- each tile of a row is the live root's
abbrev pub AreKnownIn : LiveContent → Name → List (Option Named) → Type 0
AreKnownIn live name row = (k : ℕ) (tile : Named) → get_or row k None ≡ Some tile → tile_at live.tiles name k ≡ Some (by_places tile)

-- each of some tiles is the live root's
abbrev pub AreKnown : LiveContent → List Finished → Type 0
AreKnown live tiles = (name : Name) (k : ℕ) (tile : Tile) → tile_at tiles name k ≡ Some tile → tile_at live.tiles name k ≡ Some tile

-- a record has its place, where it stays or after those of a draft, and says what it has to
pub record IsFiled (old : Drafted) (Says : Record → Type 0) (e : RecordExtent) (new : Drafted) : Type 0 where
  pub filed : Record
  pub extent : e ≡ extent_of filed
  pub draft : new ≡ with_filed old (fresh_of filed)
  pub says : Says filed

module _ (live : LiveContent) where
  -- the record of a column's tile has its place; a column without one has none
  pub record IsSlotFiled (old : Drafted) (name : Name) (k : ℕ) (tile : Option Named) (e : Option RecordExtent)
      (new : Drafted) : Type 0 where
    pub filed : Option Record
    pub extent : e ≡ option_map extent_of filed
    pub draft : new ≡ with_filed old (filed_tiles (filed ∷ []))
    pub spelled : SpellTiles live name k (filed ∷ []) (row_tiles name k (places_in (tile ∷ [])))

  -- the records of a layer's tiles have their places after those of a draft
  pub record AreTilesFiled (old : Drafted) (name : Name) (tiles : List Finished) (es : List (Option RecordExtent))
      (new : Drafted) : Type 0 where
    pub filed : List (Option Record)
    pub extents : es ≡ map (option_map extent_of) filed
    pub draft : new ≡ with_filed old (filed_tiles filed)
    pub spelled : SpellTiles live name 0 filed tiles

  -- the records of a layer have their places, and an entry of a listing
  pub record IsLayerFiled (old : Drafted) (layer : Layer) (tiles : List Finished) (l : Listed)
      (new : Drafted) : Type 0 where
    pub filed : FiledLayer
    pub listed : listed_of filed ≡ l
    pub draft : new ≡ with_filed old (filed_of filed)
    pub spelled : SpellLayer live filed layer tiles

  -- the same of layers one after another
  pub record AreLayersFiled (old : Drafted) (layers : List Layer) (tiles : List Finished) (ls : List Listed)
      (new : Drafted) : Type 0 where
    pub filed : List FiledLayer
    pub listed : map listed_of filed ≡ ls
    pub draft : new ≡ with_filed old (flat_map filed_of filed)
    pub spelled : SpellLayers live filed layers tiles
