-- How a finished tile is spelled: its column, and its pieces by the names of their ends, or that they are too many.
use Rattle.std.specs.Prelude.{◌≡◌, ℕ, ◌==◌, ◌&&◌, ◌⊎◌, if◌then◌else◌}
use Rattle.std.specs.Prelude.{pos, nat_lt, int_lt, Bool, true, not, List, map, Option, Some, None}
use Rattle.std.proofs.Common.{inl, inr}
use Rattle.std.specs.Ordering.{is_lt}
use Rattle.overlay_terms.specs.Plane.{Segment, whole_cmp, point_cmp, is_on}
use Rattle.overlay_terms.specs.Column.{column_count, border}
use Rattle.overlay_terms.specs.Tiles.{is_parallel}
use Rattle.overlay_terms.specs.Histories.{Tile, pieces, oversize, is_formed}
use Rattle.exact_point.specs.PlaceOf.{place_of, crossing_place}
use Rattle.exact_point.specs.NamedPiece.{NamedPiece, ends_of}
use Rattle.exact_point.specs.NameCode.{name_parts, name_from}
use Rattle.exact_point.specs.declared.point_name.PointName.{PointName}
use Rattle.exact_point.specs.declared.point_name.PointName.TheVariants.{Vertex, Cross, Border}
use Rattle.store_terms.specs.Fields.{◌>>?◌, Field, number, both, made, sieved, counted, all_read}
use Rattle.store_terms.specs.Choices.{either, one_of_three}
use Rattle.store_terms.specs.BaseRecord.{whole_point}

-- the left end, then the right end
abbrev pub segment : Field Segment
segment = sieved (λ s. is_lt (whole_cmp s.left s.right)) (made (λ p. record { left = p.0; right = p.1 }) (λ s. (s.left, s.right)) (both whole_point whole_point))

-- the name of a place: its kind, and what makes it
abbrev pub point_name : Field PointName
point_name = made name_from name_parts (one_of_three whole_point (both segment segment) (both segment (number 1)))

-- whether a name has a place
abbrev pub has_place : PointName → Bool
has_place (Vertex v) = true
has_place (Cross a b) = not (is_parallel a b) && int_lt (pos 0) (crossing_place a b).w && is_on a (crossing_place a b) && is_on b (crossing_place a b)
has_place (Border s k) = nat_lt k column_count && int_lt s.left.x (border k) && int_lt (border k) s.right.x

-- whether both ends have places on the support, the left one first
abbrev pub is_piece : NamedPiece → Bool
is_piece p =
    has_place p.from && has_place p.to && int_lt (pos 0) (place_of p.from).w && int_lt (pos 0) (place_of p.to).w
    && is_on p.support (place_of p.from) && is_on p.support (place_of p.to) && is_lt (point_cmp (place_of p.from) (place_of p.to))

-- the support, then the names of the ends
abbrev pub piece : Field NamedPiece
piece = sieved is_piece (made (λ t. record { support = t.0; from = t.1.0; to = t.1.1 }) (λ p. (p.support, (p.from, p.to))) (both segment (both point_name point_name)))

-- a column, and the pieces, or that they are too many
abbrev pub NamedTile : Type 0
NamedTile = ℕ × List NamedPiece ⊎ ℕ

-- the column of which a tile's record says that it is
abbrev pub column_of_tile : NamedTile → ℕ
column_of_tile (inl t) = t.0
column_of_tile (inr k) = k

-- the tile, by the places of its ends
abbrev pub tile_by_places : NamedTile → Tile
tile_by_places (inl t) = pieces (map ends_of t.1)
tile_by_places (inr k) = oversize

-- tiles of their form
abbrev pub named_tile : Field NamedTile
named_tile = sieved (λ t. nat_lt (column_of_tile t) column_count && is_formed (tile_by_places t) (column_of_tile t)) (either (both (number 1) (counted 4 piece)) (number 1))

-- the tile that a tile record of this column spells
abbrev pub tile_of_record : ℕ → List ℕ → Option Tile
tile_of_record k bytes = all_read named_tile bytes >>? λ t. if column_of_tile t == k then Some (tile_by_places t) else None

-- the bytes are a record of a tile and its column, whatever the names of its ends
pub record IsTileRecord (k : ℕ) (tile : Tile) (bytes : List ℕ) : Type 0 where
  pub named : NamedTile
  pub fits : named_tile.fits named ≡ true
  pub column : column_of_tile named ≡ k
  pub is : tile_by_places named ≡ tile
  pub spelled : bytes ≡ named_tile.text named
