-- Laws of the records that are not plain fields, and what opening knows of a file that it has read.
use Rattle.std.specs.Prelude.{◌≡◌, ◌↔◌, ℕ, ◌^◌, ◌<◌, true, List, [], take, All, Some, None, Ok}
use Rattle.overlay_terms.specs.Plane.{WholePoint}
use Rattle.overlay_terms.specs.InputLaws.{IsRing}
use Rattle.plane_base.specs.BaseLayer.{rings_fault}
use Rattle.std.specs.List.{AllByRecursion}
use Rattle.overlay_terms.specs.Trees.{Tree}
use Rattle.overlay_terms.specs.Layers.{Name}
use Rattle.overlay_terms.specs.Orderly.{IsOrderly}
use Rattle.overlay_terms.specs.Histories.{Tile}
use Rattle.layer_expr.specs.Spelling.{expression_text, IsExpression}
use Rattle.store_terms.specs.Fields.{AreBytes}
use Rattle.store_terms.specs.BaseRecord.{rings, base_of_record}
use Rattle.store_terms.specs.DefinitionRecord.{definition_of_record}
use Rattle.store_terms.specs.TileRecord.{tile_of_record, IsTileRecord}
use Rattle.store_terms.specs.Places.{is_placed}
use Rattle.store_terms.specs.declared.root.Root.{Root}
use Rattle.store_terms.specs.Roots.{body_read, body_text, body_in, ours}
use Rattle.store_terms.specs.Image.{Held, held_of}
use Rattle.store_terms.specs.Frame.{extents_of}

-- a definition record is the text of its expression, and no other spelling
abbrev pub DefinitionIsItsText : Type 0
DefinitionIsItsText =
    (bytes : List ℕ) (tree : Tree Name)
    → (definition_of_record bytes ≡ Some tree) ↔ (IsExpression tree × (bytes ≡ expression_text tree))

-- a tile record spells a tile by some names of its ends
abbrev pub TileIsNamed : Type 0
TileIsNamed =
    (k : ℕ) (bytes : List ℕ) (tile : Tile) → AreBytes bytes
    → (tile_of_record k bytes ≡ Some tile) ↔ IsTileRecord k tile bytes

-- where a root holds something, each of its extents is placed
abbrev pub HeldIsPlaced : Type 0
HeldIsPlaced =
    (file : List ℕ) (r : Root) (x : Held) → held_of file r ≡ Ok x
    → AllByRecursion (λ e. is_placed file e ≡ true) (extents_of file r)

-- the record of rings that a base layer has is read again
abbrev pub BaseReadsBack : Type 0
BaseReadsBack =
    (rs : List (List WholePoint)) → rings_fault rs ≡ None → All IsRing rs → base_of_record (rings.text rs) ≡ Some rs

-- a body that is written is read again
abbrev pub BodyReadsBack : Type 0
BodyReadsBack =
    (r : Root) → r.sequence < 256 ^ 8 → r.version < 256 ^ 8 → r.catalog.block < 256 ^ 8 → r.catalog.size < 256 ^ 4
    → body_in (take body_read (body_text r)) ≡ ours r

-- what a root holds are layers in order: no name twice, and each definition over earlier layers
abbrev pub HeldIsOrderly : Type 0
HeldIsOrderly = (file : List ℕ) (r : Root) (x : Held) → held_of file r ≡ Ok x → IsOrderly x.layers

-- what an old root holds has no tiles: those that it names are of other columns
abbrev pub OldHasNoTiles : Type 0
OldHasNoTiles = (file : List ℕ) (r : Root) (x : Held) → r.is_old ≡ true → held_of file r ≡ Ok x → x.tiles ≡ []
