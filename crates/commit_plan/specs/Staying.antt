-- Which records stay in a commit: those that the live root already holds with an equal value.
use Rattle.std.specs.Prelude.{◌≡◌, ℕ, zero, suc, ◌+◌, ◌^◌, nat_lt, Bool, true, false, List, [], ◌∷◌}
use Rattle.std.specs.Prelude.{Option, Some, None, option_map, option_and_then, bytes_eq, if◌then◌else◌}
use Rattle.std.proofs.Common.{inl, inr}
use Rattle.std.specs.List.{filter}
use Rattle.extent_map.specs.declared.extent.Extent as runs
use Rattle.extent_map.specs.Extents.{IsUnused}
use Rattle.overlay_terms.specs.Layers.{Name, Content, Layer}
use Rattle.overlay_terms.specs.Histories.{Tile, Finished, tile_at}
use Rattle.layer_book.specs.Layer.{content_named}
use Rattle.layer_tiles.specs.Table.{tiles_in, Tabled}
use Rattle.store_terms.specs.declared.root.RecordExtent.{RecordExtent}
use Rattle.store_terms.specs.Catalog.{Records, Listed}
use Rattle.store_terms.specs.Places.{blocks, is_apart_from, all_apart}
use Rattle.commit_plan.specs.Kept.{Kept}
use Rattle.commit_plan.specs.Same.{same_content, same_tile}

-- what the live root holds, and where: what its catalog lists, its layers and its finished tiles
pub record LiveContent : Type 0 where
  pub listing : List Listed
  pub layers : List Layer
  pub tiles : List Finished

-- the same of a root, with what its catalog lists and what it holds
abbrev pub kept_content : Kept → LiveContent
kept_content x = record { listing = x.listing; layers = x.held.layers; tiles = x.held.tiles }

-- the same of what is listed, and of a table of layers and tiles
abbrev pub read_content : List Listed → Tabled → LiveContent
read_content listing table = record { listing = listing; layers = table.layers; tiles = tiles_in table }

abbrev pub layer_named : Name → Content → Layer
layer_named name content = record { name = name; content = content }

-- ---- where a record lies

-- a layer's own record: that of its rings, or of its definition
abbrev pub own_extent : Records → RecordExtent
own_extent (inl e) = e
own_extent (inr both) = both.0

-- the entry at an index; none past the end of the list
abbrev pub entry_at : List (Option RecordExtent) → ℕ → Option RecordExtent
entry_at [] k = None
entry_at (e ∷ es) zero = e
entry_at (e ∷ es) (suc k) = entry_at es k

-- the record of the finished tile of a column
abbrev pub tile_extent : Records → ℕ → Option RecordExtent
tile_extent (inl e) k = None
tile_extent (inr both) k = entry_at both.1 k

-- the records that are listed under a name
abbrev pub records_named : List Listed → Name → Option Records
records_named [] name = None
records_named (l ∷ ls) name = if bytes_eq l.name name then Some l.records else records_named ls name

-- whether the end of an extent is a number of 64 bits, as in any file
abbrev pub is_near : RecordExtent → Bool
is_near e = nat_lt (e.block + blocks e.size) (2 ^ 64)

-- the extent, where its end is such a number
abbrev pub if_near : Option RecordExtent → Option RecordExtent
if_near None = None
if_near (Some e) = if is_near e then Some e else None

-- ---- what stays

-- whether a layer is held, with an equal content
abbrev pub holds_content : Option Content → Content → Bool
holds_content None content = false
holds_content (Some held) content = same_content held content

-- whether a tile is held that is equal
abbrev pub holds_tile : Option Tile → Tile → Bool
holds_tile None tile = false
holds_tile (Some held) tile = same_tile held tile

-- where a layer's own record stays: the live root has a layer of this name with an equal content
abbrev pub layer_stays : LiveContent → Layer → Option RecordExtent
layer_stays live layer =
    if holds_content (content_named live.layers layer.name) layer.content
    then if_near (option_map own_extent (records_named live.listing layer.name)) else None

-- where a tile's record stays: the live root has a tile of this name and column that is equal
abbrev pub tile_record_stays : LiveContent → Finished → Option RecordExtent
tile_record_stays live t =
    if holds_tile (tile_at live.tiles t.name t.column) t.tile
    then if_near (option_and_then (λ records. tile_extent records t.column) (records_named live.listing t.name)) else None

-- ---- what it takes

abbrev pub near_ones : List RecordExtent → List RecordExtent
near_ones es = filter is_near es

-- no two of some extents have a block in common, and what is free of the runs that are taken is free of each
pub record AreHeldApart (es : List RecordExtent) (taken : List runs.Extent) : Type 0 where
  pub apart : all_apart (near_ones es) ≡ true
  pub free : (e : RecordExtent) → IsUnused taken e.block (blocks e.size) → is_apart_from e (near_ones es) ≡ true
