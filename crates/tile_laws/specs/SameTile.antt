-- When two tiles are alike: the same places, whatever the denominators.
use Rattle.std.specs.Prelude.{pos, ◌<ℤ◌, Bool, true, false, ◌&&◌, IsTrue, List, All, ◌↔◌}
use Rattle.std.specs.Cmp.Lexicographic.{pointwise}
use Rattle.overlay_terms.specs.Plane.{Point, same_place}
use Rattle.overlay_terms.specs.Tiles.{Input}
use Rattle.overlay_terms.specs.Histories.{Tile, pieces, oversize, pieces_max, IsTileAt}

-- both ends are at the same places
abbrev pub same_pair : Point × Point → Point × Point → Bool
same_pair a b = same_place a.0 b.0 && same_place a.1 b.1

-- as many pairs of ends, and one after the other at the same places
abbrev pub same_ends : List (Point × Point) → List (Point × Point) → Bool
same_ends held built = pointwise same_pair held built

-- both have too many pieces, or the same ones
abbrev pub same_tile : Tile → Tile → Bool
same_tile (pieces held) (pieces built) = same_ends held built
same_tile (pieces held) oversize = false
same_tile oversize (pieces built) = false
same_tile oversize oversize = true

-- both denominators are positive
abbrev pub IsPositivePair : Point × Point → Type 0
IsPositivePair a = (pos 0 <ℤ a.0.w) × (pos 0 <ℤ a.1.w)

-- the denominators of all ends are positive
abbrev pub HasPositiveEnds : Tile → Type 0
HasPositiveEnds (pieces ends) = All IsPositivePair ends
HasPositiveEnds oversize = Unit {0}

-- beside a tile of the input, a held tile is that of the input exactly where the two are alike
abbrev pub HeldTile : Type 0
HeldTile =
    (input : Input) (held built : Tile) → (IsTrue (same_tile held built) → HasPositiveEnds held)
    → IsTileAt pieces_max input built →
    IsTrue (same_tile held built) ↔ IsTileAt pieces_max input held
