-- A piece is a stretch, and no segment of its list crosses it or ends on it strictly inside.
use Rattle.std.specs.Prelude.{◌≡◌, ℤ, pos, ◌-ℤ◌, ◌*ℤ◌, ◌<ℤ◌, IsTrue, List, Contains}
use Rattle.std.proofs.Common.{arith, inl, inr}
use Rattle.std.proofs.lemmas.Int.{ints}
use Rattle.std.proofs.lemmas.Bool.{cases_Bool}
use Rattle.overlay_terms.specs.Plane.{Point, Segment, whole, height_over, is_on}
use Rattle.overlay_terms.specs.Tiles.{is_parallel, is_node, IsPiece}
use Rattle.overlay_terms.proofs.InputNumbers.{between_from_on, in_order_by_x}
use Rattle.exact_point.proofs.OnSegment.{reached}
use Rattle.exact_point.proofs.PlaceOrder.{one_positive}
use Rattle.exact_point.proofs.ByX.{Left, AtMost, left_after, left_before, at_most_through, left_most, from_whole, to_whole}
use Rattle.exact_point.proofs.Lines.{width}
use Rattle.exact_point.specs.Crossing.{turn_of}
use Rattle.exact_point.proofs.Nodes.{left_node, right_node, crossing_is_node}
use Rattle.exact_point.proofs.OnLine.{no_turn_back, turn_from_parallel}
use Rattle.tile_laws.proofs.SideMeeting.{Stretch, Apart, on_from_level}

-- ---- over opaque numbers
wide_by : (l r : ℤ) → (l *ℤ pos 1) <ℤ (r *ℤ pos 1) → pos 0 <ℤ (r -ℤ l)
wide_by l r h = omega (arith, ints)

module _ (xs : List Segment) (p r : Point) (piece : IsPiece xs p r) (ordered : Left p r) where
  from_left : AtMost (whole piece.support.left) p
  from_left = from_whole (piece.support.left.x *ℤ p.w) p.x (between_from_on piece.support p piece.from_on).from_left

  to_right : AtMost r (whole piece.support.right)
  to_right = to_whole (piece.support.right.x *ℤ r.w) r.x (between_from_on piece.support r piece.to_on).to_right

  -- its segment is not vertical
  wide : pos 0 <ℤ width piece.support
  wide =
      let s : Segment = piece.support in
      wide_by s.left.x s.right.x
      (left_before (whole s.left) r (whole s.right) one_positive piece.to_positive one_positive
      (left_after (whole s.left) p r one_positive piece.from_positive piece.to_positive from_left ordered) to_right)

  -- the piece is a stretch
  pub stretch_of : Stretch piece.support p r
  stretch_of = record {
    wide = wide;
    from_positive = piece.from_positive;
    to_positive = piece.to_positive;
    in_order = ordered;
    from_left = from_left;
    to_right = to_right;
    from_level = (reached piece.support p piece.from_on).level;
    to_level = (reached piece.support r piece.to_on).level;
  }

  -- no node lies on its line strictly inside
  pub no_node : (z : Point) → pos 0 <ℤ z.w → Left p z → Left z r → height_over piece.support z ≡ pos 0 → IsTrue (is_node xs z) → ⊥
  no_node z positive after before level =
      let s : Segment = piece.support in
      let low : AtMost (whole s.left) z = at_most_through (whole s.left) p z one_positive piece.from_positive positive from_left (left_most p z after) in
      let high : AtMost z (whole s.right) = at_most_through z r (whole s.right) positive piece.to_positive one_positive (left_most z r before) to_right in
      piece.none_between z positive (on_from_level s z wide level low high) (in_order_by_x p z after) (in_order_by_x z r before)

  -- a place of its line strictly inside is on its segment
  pub on_support : (z : Point) → pos 0 <ℤ z.w → Left p z → Left z r → height_over piece.support z ≡ pos 0 → IsTrue (is_on piece.support z)
  on_support z positive after before level =
      let s : Segment = piece.support in
      let low : AtMost (whole s.left) z = at_most_through (whole s.left) p z one_positive piece.from_positive positive from_left (left_most p z after) in
      let high : AtMost z (whole s.right) = at_most_through z r (whole s.right) positive piece.to_positive one_positive (left_most z r before) to_right in
      on_from_level s z wide level low high

  module _ (t : Segment) (among : Contains xs t) where
    -- a common point strictly inside is on a parallel
    no_crossing : (z : Point) → pos 0 <ℤ z.w → Left p z → Left z r → height_over piece.support z ≡ pos 0 → IsTrue (is_on t z) → turn_of t piece.support ≡ pos 0
    no_crossing z positive after before level on =
        elim (cases_Bool (is_parallel piece.support t)) [
          | inl parallel ↦ no_turn_back piece.support t (turn_from_parallel piece.support t parallel)
          | inr crossed ↦ absurd (no_node z positive after before level
              (crossing_is_node xs piece.support t z piece.among among (on_support z positive after before level) on crossed))
        ]

    -- nothing of it crosses the piece or ends on it strictly inside
    pub apart_of : Apart piece.support t p r
    apart_of = record {
      no_crossing = no_crossing;
      no_left = λ after before level.
          no_node (whole t.left) one_positive after before level (left_node xs t among);
      no_right = λ after before level.
          no_node (whole t.right) one_positive after before level (right_node xs t among);
    }
