-- Each input has its tile, and pieces of the boundary in order are no more than the tile's.
use Rattle.std.specs.Prelude.{◌≡◌, ℕ, ◌<◌, ◌≤◌, List, length, All, AllPairs}
use Rattle.std.specs.declared.cmp.Ordering.TheVariants.{Less}
use Rattle.overlay_terms.specs.Plane.{Point}
use Rattle.overlay_terms.specs.Tiles.{Input, IsBoundary, pair_cmp, IsTileOf}
use Rattle.overlay_terms.specs.TileLaws.{IsInput}
use Rattle.overlay_terms.specs.Histories.{oversize, IsTileAt}

-- some pieces of an input's boundary in its column, in order and each once
pub record AreSome (input : Input) (some : List (Point × Point)) : Type 0 where
  pub ordered : AllPairs (λ a b. pair_cmp a b ≡ Less) some
  pub sound : All (λ a. IsBoundary input.marked input.steps input.column a.0 a.1) some

-- each input has its tile
abbrev pub EachHasItsTile : Type 0
EachHasItsTile =
    (input : Input) → IsInput input
    → (tile : List (Point × Point)) × IsTileOf input.marked input.steps input.column tile

-- pieces of the boundary, in order, are no more than the tile's
abbrev pub SomeAreNoMore : Type 0
SomeAreNoMore =
    (input : Input) (some tile : List (Point × Point)) → AreSome input some
    → IsTileOf input.marked input.steps input.column tile →
    length some ≤ length tile

-- where more pieces of the boundary than a cap are there, the tile has too many
abbrev pub MoreIsOversize : Type 0
MoreIsOversize =
    (input : Input) (cap : ℕ) (some : List (Point × Point)) → IsInput input → AreSome input some → cap < length some
    → IsTileAt cap input oversize
