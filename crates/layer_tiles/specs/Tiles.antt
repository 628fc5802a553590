-- What is true of finished tiles.
use Rattle.std.specs.Prelude.{◌≡◌, ℕ, ◌==◌, Bool, false, ◌&&◌, IsTrue, List, Some, bytes_eq}
use Rattle.std.specs.List.{AllPairs}
use Rattle.overlay_terms.specs.Layers.{Name}
use Rattle.overlay_terms.specs.Histories.{Finished, tile_at, is_formed}
use Rattle.overlay_terms.specs.Histories as terms

-- whether a finished tile is that of a layer and column
abbrev pub is_of : Name → ℕ → Finished → Bool
is_of name column f = bytes_eq f.name name && (f.column == column)

-- no layer and column has two tiles
abbrev pub AreDistinct : List Finished → Type 0
AreDistinct tiles = AllPairs (λ a b. is_of b.name b.column a ≡ false) tiles

-- each tile has its form
abbrev pub AreFormed : List Finished → Type 0
AreFormed tiles =
    (name : Name) (k : ℕ) (tile : terms.Tile) → tile_at tiles name k ≡ Some tile → IsTrue (is_formed tile k)
