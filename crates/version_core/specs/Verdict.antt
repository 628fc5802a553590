-- What a finished tile is found to be.
use Rattle.std.specs.Prelude.{◌≡◌, ◌↔◌, ℕ, Option, Some}
use Rattle.overlay_terms.specs.Layers.{Name}
use Rattle.overlay_terms.specs.Tiles.{input_of}
use Rattle.overlay_terms.specs.Histories.{Tile, Version, tile_at, IsTileAt, pieces_max}
use Rattle.version_core.specs.declared.verifying.Verdict.{Verdict}
use Rattle.version_core.specs.declared.verifying.Verdict.TheVariants.{Same}

-- the verdict on the finished tile of a layer and column says whether it is the tile of their present input
abbrev pub IsVerdict : Version → Name → Option ℕ → Verdict → Type 0
IsVerdict version name column verdict =
    (k : ℕ) (tile : Tile) → column ≡ Some k → tile_at version.tiles name k ≡ Some tile → (verdict ≡ Same) ↔ IsTileAt pieces_max (input_of version.layers name k) tile
