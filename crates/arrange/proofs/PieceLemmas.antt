-- What the middle of a piece says of the segments that hold it, and when two pieces are one.
use Rattle.std.proofs.Common.{◌≡◌, pos, ◌<ℤ◌, Bool, true, false, ◌&&◌, List, refl, sym, ◌∙◌}
use Rattle.std.specs.Prelude.{IsTrue, Contains}
use Rattle.std.proofs.lemmas.Bool.{and_parts, and_from}
use Rattle.std.specs.declared.cmp.Ordering.TheVariants.{Less}
use Rattle.std.specs.Cmp.{both_ways}
use Rattle.overlay_terms.specs.Plane.{Point, Segment, whole, whole_cmp, point_cmp, same_place, height_over, is_on}
use Rattle.overlay_terms.specs.Tiles.{is_node, is_parallel, midpoint}
use Rattle.overlay_terms.proofs.InputNumbers.{middle_positive}
use Rattle.exact_point.specs.Crossing.{turn_of}
use Rattle.exact_point.proofs.OnLine.{parallel_line, between_on, within_on, after_left, before_right, on_line, left_on_line, right_on_line, turn_from_parallel, middle_line, middle_after, middle_before, no_turn_back}
use Rattle.exact_point.proofs.PlaceOrder.{not_after_less, one_positive, alike_left, alike_right, less_through, Way, before, at, after, way_of, on_same}
use Rattle.exact_point.proofs.Nodes.{right_node, crossing_is_node, left_node}

module _ (s : Segment) (ahead : whole_cmp s.left s.right ≡ Less) (segments : List Segment) (among : Contains segments s) (p r : Point) (hp : pos 0 <ℤ p.w) (hr : pos 0 <ℤ r.w)
    (on_p : IsTrue (is_on s p)) (on_r : IsTrue (is_on s r)) (in_order : point_cmp p r ≡ Less)
    (none : (q : Point) → pos 0 <ℤ q.w → IsTrue (is_on s q) → point_cmp p q ≡ Less → point_cmp q r ≡ Less → IsTrue (is_node segments q) → ⊥) where
  hm : pos 0 <ℤ (midpoint p r).w
  hm = middle_positive p r hp hr

  -- the middle of two points of a segment lies on it
  pub middle_on : (t : Segment) → IsTrue (is_on t p) → IsTrue (is_on t r) → IsTrue (is_on t (midpoint p r))
  middle_on t u v =
      between_on t p (midpoint p r) r hp hm hr u v (middle_line t p r (on_line t p u) (on_line t r v))
      (not_after_less p (midpoint p r) hp hm (middle_after p r hp in_order)) (not_after_less (midpoint p r) r hm hr (middle_before p r hr in_order))

  -- a segment that holds the middle of a piece has its direction
  along : (t : Segment) → Contains segments t → IsTrue (is_on t (midpoint p r)) → turn_of s t ≡ pos 0
  along t c on_t = by (is_parallel s t) refl where
    by : (b : Bool) → is_parallel s t ≡ b → turn_of s t ≡ pos 0
    by true e = turn_from_parallel s t e
    by false e =
        absurd (none (midpoint p r) hm (middle_on s on_p on_r) (middle_after p r hp in_order) (middle_before p r hr in_order)
        (crossing_is_node segments s t (midpoint p r) among c (middle_on s on_p on_r) on_t e))

  -- a point of the segment's line between the two ends of the piece that is an end of a segment lies at one of them
  no_end_between : (q : Point) → pos 0 <ℤ q.w → height_over s q ≡ pos 0 → IsTrue (is_node segments q) → point_cmp p q ≡ Less → point_cmp q r ≡ Less → ⊥
  no_end_between q hq level node low high =
      none q hq (between_on s p q r hp hq hr on_p on_r level (not_after_less p q hp hq low) (not_after_less q r hq hr high)) low high node

  -- the line of the one is the line of the other
  other_line : (t : Segment) → whole_cmp t.left t.right ≡ Less → IsTrue (is_on t (midpoint p r)) → turn_of s t ≡ pos 0 → (q : Point) → height_over t q ≡ pos 0 → height_over s q ≡ pos 0
  other_line t forward on_t turn q level =
      parallel_line t s (midpoint p r) q forward (no_turn_back s t turn) hm (on_line t (midpoint p r) on_t) (on_line s (midpoint p r) (middle_on s on_p on_r)) level

  -- the left end of a segment that holds the middle is not after the left end of the piece
  left_end_first : (t : Segment) → Contains segments t → whole_cmp t.left t.right ≡ Less → IsTrue (is_on t (midpoint p r)) → point_cmp p (whole t.left) ≡ Less → ⊥
  left_end_first t c forward on_t low =
      no_end_between (whole t.left) one_positive (other_line t forward on_t (along t c on_t) (whole t.left) (left_on_line t))
      (left_node segments t c) low
      (by (way_of (whole t.left) r one_positive hr))
    where
      by : Way (whole t.left) r → point_cmp (whole t.left) r ≡ Less
      by (before e) = e
      by (at e) = absurd (after_left t (midpoint p r) on_t (alike_right (midpoint p r) (whole t.left) r hm one_positive hr e ∙ middle_before p r hr in_order))
      by (after e) = absurd (after_left t (midpoint p r) on_t (less_through (midpoint p r) r (whole t.left) hm hr one_positive (middle_before p r hr in_order) e))

  -- its right end is not before the right end of the piece
  right_end_last : (t : Segment) → Contains segments t → whole_cmp t.left t.right ≡ Less → IsTrue (is_on t (midpoint p r)) → point_cmp (whole t.right) r ≡ Less → ⊥
  right_end_last t c forward on_t high =
      no_end_between (whole t.right) one_positive (other_line t forward on_t (along t c on_t) (whole t.right) (right_on_line t))
      (right_node segments t c)
      (by (way_of p (whole t.right) hp one_positive)) high
    where
      by : Way p (whole t.right) → point_cmp p (whole t.right) ≡ Less
      by (before e) = e
      by (at e) = absurd (before_right t (midpoint p r) hm on_t (sym (alike_left p (whole t.right) (midpoint p r) hp one_positive hm e) ∙ middle_after p r hp in_order))
      by (after e) = absurd (before_right t (midpoint p r) hm on_t (less_through (whole t.right) p (midpoint p r) one_positive hp hm e (middle_after p r hp in_order)))

  -- a point of the segment lies on the line of one that holds the middle
  on_its_line : (t : Segment) → Contains segments t → IsTrue (is_on t (midpoint p r)) → (q : Point) → IsTrue (is_on s q) → height_over t q ≡ pos 0
  on_its_line t c on_t q on_q =
      parallel_line s t (midpoint p r) q ahead (along t c on_t) hm (on_line s (midpoint p r) (middle_on s on_p on_r)) (on_line t (midpoint p r) on_t) (on_line s q on_q)

  -- a segment that holds the middle of a piece holds its ends
  pub ends_on : (t : Segment) → Contains segments t → whole_cmp t.left t.right ≡ Less → IsTrue (is_on t (midpoint p r)) → IsTrue (is_on t p) × IsTrue (is_on t r)
  ends_on t c forward on_t = (
    within_on t p hp (on_its_line t c on_t p on_p) (left_end_first t c forward on_t)
        (λ e. right_end_last t c forward on_t (less_through (whole t.right) p r one_positive hp hr e in_order)),
    within_on t r hr (on_its_line t c on_t r on_r) (λ e. left_end_first t c forward on_t (less_through p r (whole t.left) hp hr one_positive in_order e))
        (right_end_last t c forward on_t),
  )

  -- on a segment in the same direction, no node that comes after the left end comes before the right one
  pub no_shorter : (t : Segment) → whole_cmp t.left t.right ≡ Less → turn_of t s ≡ pos 0 → (p' q : Point) → pos 0 <ℤ p'.w → pos 0 <ℤ q.w → IsTrue (same_place p p')
      → IsTrue (is_on t p') → IsTrue (is_on t q) → point_cmp p' q ≡ Less → point_cmp q r ≡ Less → IsTrue (is_node segments q) → ⊥
  no_shorter t forward turn p' q hp' hq e on_p' on_q low high node =
      no_end_between q hq (parallel_line t s p q forward turn hp (on_line t p (on_same t p p' hp hp' e ∙ on_p')) (on_line s p on_p) (on_line t q on_q)) node
      (alike_left p p' q hp hp' hq e ∙ low) high

  -- the segments that hold the two ends of a piece are those that hold its middle
  pub middle_held : (t : Segment) → Contains segments t → whole_cmp t.left t.right ≡ Less → (is_on t p && is_on t r) ≡ is_on t (midpoint p r)
  middle_held t c forward =
      both_ways (is_on t p && is_on t r) (is_on t (midpoint p r)) (λ e. let both = and_parts (is_on t p) (is_on t r) e in middle_on t both.0 both.1)
      (λ e. let both = ends_on t c forward e in and_from (is_on t p) (is_on t r) both.0 both.1)
