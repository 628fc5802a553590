-- The edges of a tile as text.
use Rattle.std.specs.Prelude.{◌≡◌, ℕ, ◌+◌, ◌≤◌, ◌<ℤ◌, [], ◌∷◌, ◌++◌}
use Rattle.std.specs.Prelude.{pos, IsTrue, List, length, flat_map, codes, decimal, Option, Some, None}
use Rattle.std.specs.Option.{option_map, option_or}
use Rattle.std.specs.Fmt.{signed_decimal}
use Rattle.overlay_terms.specs.Plane.{Point, same_place}
use Rattle.overlay_terms.specs.Layers.{Name}
use Rattle.overlay_terms.specs.Histories.{Tile, pieces, oversize, Version, tile_at}
use Rattle.exact_point.specs.Reduced.{IsLowest}
use Rattle.layer_book.specs.TileRefusal.{tile_refusal}
use Rattle.versions.specs.declared.fault.VersionFault.{VersionFault}
use Rattle.versions.specs.declared.fault.VersionFault.TheVariants.{Layer, Pending, Oversize}

-- why a tile cannot be had: it is not finished
abbrev pub tile_absence : Option Tile → Option VersionFault
tile_absence None = Some Pending
tile_absence (Some tile) = None

-- the finished tile of a layer in a column, if there are both
abbrev pub tile_in : Version → Name → Option ℕ → Option Tile
tile_in version name None = None
tile_in version name (Some k) = tile_at version.tiles name k

-- why there is no finished tile of a layer and column: there is no such tile; it is pending
abbrev pub finished_refusal : Version → Name → Option ℕ → Option VersionFault
finished_refusal version name column =
    option_or (option_map Layer (tile_refusal version.layers name column)) (tile_absence (tile_in version name column))

-- why a finished tile cannot be written: it has too many pieces
abbrev pub size_refusal : Option Tile → Option VersionFault
size_refusal (Some oversize) = Some Oversize
size_refusal tile = None

-- why the edges of a tile are refused: there is no such tile; it is pending; it has too many pieces
abbrev pub edges_refusal : Version → Name → Option ℕ → Option VersionFault
edges_refusal version name column = option_or (finished_refusal version name column) (size_refusal (tile_in version name column))

-- a point as `x y w`
abbrev pub point_text : Point → List ℕ
point_text p = signed_decimal p.x ++ (codes " " ++ (signed_decimal p.y ++ (codes " " ++ signed_decimal p.w)))

-- a piece as a line: its left end, then its right end
abbrev pub edge_line : Point × Point → List ℕ
edge_line ends = point_text ends.0 ++ (codes " " ++ (point_text ends.1 ++ 10 ∷ []))

-- the same place in lowest terms, with a positive denominator
pub record IsLowestOf (p lowest : Point) : Type 0 where
  pub same : IsTrue (same_place lowest p)
  pub positive : pos 0 <ℤ lowest.w
  pub lowest_terms : IsLowest lowest

-- a text with one place before it, in lowest terms, of at most 64 bytes
pub record HasEndBefore (before after : List ℕ) (p : Point) : Type 0 where
  pub low : Point
  pub lowest : IsLowestOf p low
  pub is : after ≡ point_text low ++ before
  pub short : length after ≤ length before + 64

-- the text is the line of one piece, each end in lowest terms
pub record IsLineOf (ends : Point × Point) (text : List ℕ) : Type 0 where
  pub low : Point × Point
  pub from : IsLowestOf ends.0 low.0
  pub to : IsLowestOf ends.1 low.1
  pub is : text ≡ edge_line low

-- the same ends in lowest terms, in order
abbrev pub AreLowest : List (Point × Point) → List (Point × Point) → Type 0
AreLowest [] [] = Unit {0}
AreLowest (a ∷ ends) (low ∷ lows) = IsLowestOf a.0 low.0 × IsLowestOf a.1 low.1 × AreLowest ends lows
AreLowest ends lows = ⊥

-- the text is that of some pieces, each end in lowest terms: how many there are, then a line for each
pub record IsTextOf (ends : List (Point × Point)) (text : List ℕ) : Type 0 where
  pub lows : List (Point × Point)
  pub lowest : AreLowest ends lows
  pub is : text ≡ codes "edges " ++ (decimal (length lows) ++ (10 ∷ flat_map edge_line lows))

-- the text is that of the pieces of a finished tile
pub record AreEdges (version : Version) (name : Name) (column : Option ℕ) (text : List ℕ) : Type 0 where
  pub ends : List (Point × Point)
  pub finished : tile_in version name column ≡ Some (pieces ends)
  pub written : IsTextOf ends text
