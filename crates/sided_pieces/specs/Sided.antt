-- The boundary pieces of a strip, each with what the layer is over it.
use Rattle.std.specs.Prelude.{◌≡◌, ℕ, ℤ, ◌<◌, ◌≤◌, IsTrue, List, map, length, All}
use Rattle.overlay_terms.specs.Plane.{Point, is_on}
use Rattle.overlay_terms.specs.Layers.{Marked}
use Rattle.overlay_terms.specs.Trees.{Steps}
use Rattle.overlay_terms.specs.Tiles.{over_of}
use Rattle.exact_point.specs.Place.{place}
use Rattle.exact_point.specs.PlaceOf.{place_of}
use Rattle.crossing_sweep.specs.StripInput.{StripInput, AreStripSome, IsStripTile}
use Rattle.crossing_sweep.specs.NodeNames.{name_at}
use Rattle.crossing_sweep.specs.declared.node_name.NodeName.{NodeName}
use Rattle.crossing_sweep.specs.declared.row.Row.{Row}
use Rattle.swept_area.specs.Swept.{Sided}
use Rattle.swept_area.specs.SweptLaws.{exact_area, slack_sum, IsNear, IsSegment}
use Rattle.swept_area.specs.declared.piece.SidedPiece.{SidedPiece}
use Rattle.sided_pieces.specs.declared.tile.SidedTile.{SidedTile}
use Rattle.sided_pieces.specs.declared.tile.SidedTile.TheVariants.{Pieces, Oversize}

-- a piece of the code as one of the definitions
abbrev pub sided_of : SidedPiece → Sided
sided_of p = record { support = p.support; from = place p.from; to = place p.to; over = p.over }

-- the row of a pass as one, where these are the names of its ends
abbrev pub named : List NodeName → Row → Sided
named names row =
    record { support = row.support; from = place_of (name_at names row.first); to = place_of (name_at names row.last); over = row.over }

-- the ends of a piece
abbrev pub ends_of : Sided → Point × Point
ends_of a = (a.from, a.to)

-- the support is a segment, on which both ends lie
pub record IsOnItsSupport (a : Sided) : Type 0 where
  pub first : IsSegment a.support
  pub from_on : IsTrue (is_on a.support a.from)
  pub to_on : IsTrue (is_on a.support a.to)

-- a piece says what the layer is just over it, or left of a vertical one
abbrev pub HasSide : List Marked → Steps → Sided → Type 0
HasSide marked steps a = a.over ≡ over_of marked steps a.from a.to

-- all boundary pieces of a strip, in order and each once, each on its support and with its side
pub record AreSided (input : StripInput) (pieces : List Sided) : Type 0 where
  pub tile : IsStripTile input (map ends_of pieces)
  pub supports : All IsOnItsSupport pieces
  pub sides : All (HasSide input.marked input.steps) pieces

-- more boundary pieces than so many begin in a strip: some of them are more, and so are all
pub record AreMoreThan (cap : ℕ) (input : StripInput) : Type 0 where
  pub some : List (Point × Point)
  pub are_some : AreStripSome input some
  pub more : cap < length some
  pub all : (tile : List (Point × Point)) → IsStripTile input tile → cap < length tile

-- all of them, at most so many, or that they are more
abbrev pub IsSidedTile : ℕ → StripInput → SidedTile → Type 0
IsSidedTile cap input (Pieces list) = (length list.items ≤ cap) × AreSided input (map sided_of list.items)
IsSidedTile cap input Oversize = AreMoreThan cap input

-- a whole number of parts is as near to the exact area that pieces enclose as what each of them may be off
abbrev pub IsNearArea : List Sided → ℤ → Type 0
IsNearArea pieces total = IsNear (slack_sum pieces) total (exact_area pieces)
