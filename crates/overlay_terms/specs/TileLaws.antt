-- Laws over tiles.
use Rattle.std.specs.Prelude.{◌≡◌, ℕ, ◌+◌, ◌%◌, ◌==◌, ◌<◌, ◌≤◌, ◌*ℤ◌, ◌-ℤ◌, ◌<ℤ◌, ◌&&◌, ◌↔◌}
use Rattle.std.specs.Prelude.{pos, int_le, int_lt, Bool, not, IsTrue, List, filter, count_by, All}
use Rattle.std.specs.List.{list_any}
use Rattle.std.specs.declared.cmp.Ordering.TheVariants.{Less}
use Rattle.overlay_terms.specs.Plane.{WholePoint, Point, Segment, whole, whole_cmp, same_whole, is_on, InRange}
use Rattle.overlay_terms.specs.Column.{column_count, is_in_column, touches}
use Rattle.overlay_terms.specs.Trees.{Steps, steps_value}
use Rattle.overlay_terms.specs.Layers.{layers_max, Marked}
use Rattle.overlay_terms.specs.Tiles.{below_bits, IsTileOf, Input}

-- the line between two points passes under a third: from the left one's x on, before the
-- right one's, and strictly below
abbrev pub is_pair_below : Point → (Point × Point) → Bool
is_pair_below q (p, r) =
    int_le (p.x *ℤ q.w) (q.x *ℤ p.w) && int_lt (q.x *ℤ r.w) (r.x *ℤ q.w)
    && int_lt (pos 0) ((((r.x *ℤ p.w) -ℤ (p.x *ℤ r.w)) *ℤ ((q.y *ℤ p.w) -ℤ (p.y *ℤ q.w)))
    -ℤ (((r.y *ℤ p.w) -ℤ (p.y *ℤ r.w)) *ℤ ((q.x *ℤ p.w) -ℤ (p.x *ℤ q.w))))

-- how many ends of a base layer's segments are at a whole point
abbrev pub ends_at : List Marked → ℕ → WholePoint → ℕ
ends_at marked k v =
    count_by (λ m. (m.layer == k) && same_whole m.segment.left v) marked
    + count_by (λ m. (m.layer == k) && same_whole m.segment.right v) marked

-- the left end of a segment is its first, and its coordinates are in range
pub record IsProper (s : Segment) : Type 0 where
  pub first : whole_cmp s.left s.right ≡ Less
  pub left_x : InRange s.left.x
  pub left_y : InRange s.left.y
  pub right_x : InRange s.right.x
  pub right_y : InRange s.right.y

-- segments as rings leave them: proper, and each whole point is an end of an even number of each layer's segments
pub record AreClosed (marked : List Marked) : Type 0 where
  pub proper : All (λ m. IsProper m.segment) marked
  pub even : (k : ℕ) (v : WholePoint) → ends_at marked k v % 2 ≡ 0

-- the input of a tile: segments with a point in its column, proper, of the base layers that the steps know, and each
-- whole point in the column is an end of an even number of each layer's segments
pub record IsInput (input : Input) : Type 0 where
  pub column : input.column < column_count
  pub few : input.steps.bases ≤ layers_max
  pub touch : All (λ m. IsTrue (touches input.column m.segment)) input.marked
  pub known_layers : All (λ m. m.layer < input.steps.bases) input.marked
  pub proper : All (λ m. IsProper m.segment) input.marked
  pub even : (k : ℕ) (v : WholePoint) → IsTrue (is_in_column input.column (whole v)) → ends_at input.marked k v % 2 ≡ 0

-- a point on no segment
abbrev pub is_off : List Marked → Point → Bool
is_off marked q = not (list_any (λ m. is_on m.segment q) marked)

-- off the segments, an odd number of a tile's pieces is below a point of its column exactly
-- where the steps are true there
abbrev pub ParityLaw : Type 0
ParityLaw =
    (input : Input) (tile : List (Point × Point)) (q : Point) → IsInput input
    → IsTileOf input.marked input.steps input.column tile →
    pos 0 <ℤ q.w → IsTrue (is_in_column input.column q) → IsTrue (is_off input.marked q) →
    (count_by (is_pair_below q) tile % 2 == 1) ≡ steps_value input.steps (below_bits input.marked q)

-- a tile depends on its input alone: the segments without a point in its column change nothing
abbrev pub InputLaw : Type 0
InputLaw =
    (marked : List Marked) (steps : Steps) (k : ℕ) (tile : List (Point × Point)) → k < column_count
    → All (λ m. IsProper m.segment) marked →
    IsTileOf marked steps k tile ↔ IsTileOf (filter (λ m. touches k m.segment) marked) steps k tile
