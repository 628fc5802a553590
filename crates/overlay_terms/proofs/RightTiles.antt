-- What a tile must be, and that a command leaves it so.
use Rattle.std.specs.Prelude.{◌≡◌, ℕ, ◌<◌, Bool, true, false, IsTrue, List, Option, Some, None, if◌then◌else◌}
use Rattle.std.proofs.Common.{sym, subst}
use Rattle.overlay_terms.specs.Column.{column_count}
use Rattle.overlay_terms.specs.Layers.{Name, Layer}
use Rattle.overlay_terms.specs.Tiles.{input_of}
use Rattle.overlay_terms.specs.Commands.{Command, applied, stands_as_derived}
use Rattle.overlay_terms.specs.Touched.{is_touched}
use Rattle.overlay_terms.specs.Histories.{Tile, Finished, pieces_max, IsTileAt, tile_at, Version}
use Rattle.overlay_terms.specs.KeptLaws.{TilesFit, TilesAreExact}
use Rattle.overlay_terms.proofs.KeptCommands.{untouched_input_stays}

-- what a tile of a layer and column must be: its layer is derived, its column is there, and it is that of its input
pub record IsRight (layers : List Layer) (name : Name) (k : ℕ) (tile : Tile) : Type 0 where
  pub derived_layer : IsTrue (stands_as_derived layers name)
  pub known_column : k < column_count
  pub exact : IsTileAt pieces_max (input_of layers name k) tile

-- each tile of some is as it must be
abbrev pub AreRight : List Layer → List Finished → Type 0
AreRight layers tiles = (name : Name) (k : ℕ) (tile : Tile) → tile_at tiles name k ≡ Some tile → IsRight layers name k tile

-- tiles that have their place and are exact are as they must be
pub are_right : (version : Version) → TilesFit version → TilesAreExact version → AreRight version.layers version.tiles
are_right version fit exact name k tile e =
    record { derived_layer = (fit name k tile e).0; known_column = (fit name k tile e).1; exact = exact name k tile e }

-- a tile after a command was there before it, and is untouched
pub right_after_command : (layers : List Layer) (command : Command) (name : Name) (k : ℕ) (tile : Tile) (b : Bool) (before : Option Tile) → is_touched layers command name k ≡ b → (before ≡ Some tile → IsRight layers name k tile) → (if b then None else before) ≡ Some tile → IsRight (applied layers command) name k tile
right_after_command layers command name k tile true before touched right there = absurd (cc)
right_after_command layers command name k tile false before untouched right there =
    let old = right there in
    let stays = (untouched_input_stays layers command name k old.derived_layer).0 untouched in
    record {
      derived_layer = stays.still_derived;
      known_column = old.known_column;
      exact = subst (λ input. IsTileAt pieces_max input tile) (sym stays.same_input) old.exact;
    }
