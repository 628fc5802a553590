-- Two laws of counting: a ray to the left gives the same parity as one down, and what lies over an upright piece.
use Rattle.std.specs.Prelude.{◌≡◌, ℕ, ◌%◌, ◌==◌, ◌<ℤ◌, ◌*ℤ◌, ◌&&◌, ◌||◌}
use Rattle.std.specs.Prelude.{pos, int_le, int_lt, Bool, false, IsTrue, List, map, count_by, All}
use Rattle.overlay_terms.specs.Plane.{WholePoint, Point, Segment, segments_of, height_over, is_inside}
use Rattle.overlay_terms.specs.Column.{is_in_column}
use Rattle.overlay_terms.specs.Layers.{Marked}
use Rattle.overlay_terms.specs.Tiles.{Input, IsPiece, midpoint, over_bits, is_vertical}
use Rattle.overlay_terms.specs.TileLaws.{IsInput}
use Rattle.overlay_terms.specs.InputLaws.{IsRing}
use Rattle.overlay_terms.specs.Laws.{is_on_any}

-- an upright piece of an input that begins in the column
pub record IsUpright (input : Input) (p r : Point) : Type 0 where
  pub piece : IsPiece (map (λ m. m.segment) input.marked) p r
  pub begins : IsTrue (is_in_column input.column p)
  pub upright : IsTrue (is_vertical piece.support)

-- the segment passes strictly under the point, from right of its left end to its right end
abbrev pub is_left_below : Segment → Point → Bool
is_left_below s p = int_lt (s.left.x *ℤ p.w) p.x && int_le p.x (s.right.x *ℤ p.w) && int_lt (pos 0) (height_over s p)

-- which base layers have an odd number of such segments
abbrev pub left_bits : List Marked → Point → ℕ → Bool
left_bits marked p k = count_by (λ m. (m.layer == k) && is_left_below m.segment p) marked % 2 == 1

-- the over side of an upright piece is what the segments say that pass under its middle and reach it from the left
abbrev pub LeftSide : Type 0
LeftSide =
    (input : Input) (p r : Point) (k : ℕ) → IsInput input → IsUpright input p r
    → over_bits input.marked (midpoint p r) k ≡ left_bits input.marked (midpoint p r) k

-- the segment passes the height of the point, its lower end counted and its upper end not, and the
-- point lies strictly right of it
abbrev pub is_left_of : Segment → Point → Bool
is_left_of s p =
    ((int_le (s.left.y *ℤ p.w) p.y && int_lt p.y (s.right.y *ℤ p.w)) && int_lt (height_over s p) (pos 0))
    || ((int_le (s.right.y *ℤ p.w) p.y && int_lt p.y (s.left.y *ℤ p.w)) && int_lt (pos 0) (height_over s p))

-- off the edges of a base layer, an odd number of its segments is left of a point exactly
-- where an odd number is below it
abbrev pub RayLaw : Type 0
RayLaw =
    (rings : List (List WholePoint)) (p : Point) → All IsRing rings → pos 0 <ℤ p.w
    → is_on_any (segments_of rings) p ≡ false →
    is_inside (segments_of rings) p ≡ (count_by (λ s. is_left_of s p) (segments_of rings) % 2 == 1)
