-- Stretches of segments: each lies on its segment, and where two of them cross is a node.
use Rattle.std.proofs.Common.{◌≡◌, ℤ, pos, ◌-ℤ◌, ◌*ℤ◌, ◌<ℤ◌, true, false, List, arith}
use Rattle.std.specs.Prelude.{IsTrue}
use Rattle.std.proofs.lemmas.Int.{ints}
use Rattle.std.proofs.lemmas.Bool.{both_ways, false_from_ne_true}
use Rattle.std.specs.declared.cmp.Ordering.TheVariants.{Less}
use Rattle.overlay_terms.specs.Plane.{Point, Segment, whole, whole_cmp, point_cmp, is_on}
use Rattle.overlay_terms.specs.Tiles.{is_parallel, is_node}
use Rattle.exact_point.specs.Crossing.{turn_of}
use Rattle.exact_point.proofs.OnSegment.{leads}
use Rattle.exact_point.proofs.OnLine.{after_left, before_right, between_on, on_line, left_on_line, right_on_line, parallel_line, one_direction, no_turn_back, less_from_forward, parallel_from_turn, parallel_through, turn_from_parallel}
use Rattle.exact_point.proofs.PlaceOrder.{one_positive}
use Rattle.exact_point.proofs.Nodes.{crossing_is_node}
use Rattle.crossing_sweep.specs.Status.{IsStretchOf}

-- the ends of a segment as places, in order
pub ends_in_order : (s : Segment) → whole_cmp s.left s.right ≡ Less → point_cmp (whole s.left) (whole s.right) ≡ Less
ends_in_order s h = less_from_forward (whole s.left) (whole s.right) (rw (once s.left.x s.right.x, once s.left.y s.right.y) (leads s h))
  where
    once : (a b : ℤ) → (b *ℤ pos 1) -ℤ (a *ℤ pos 1) ≡ b -ℤ a
    once a b = omega (arith, ints)

module _ (segments : List Segment) (u : Segment) (is : IsStretchOf segments u) where
  -- the stretch has the direction of its segment
  pub no_turn : turn_of u is.holder ≡ pos 0
  no_turn =
      one_direction u is.holder (whole u.left) (whole u.right) (left_on_line u) (right_on_line u) (on_line is.holder (whole u.left) is.on_left) (on_line is.holder (whole u.right) is.on_right)
      (ends_in_order u is.proper.first)

  pub same_way : is_parallel u is.holder ≡ true
  same_way = parallel_from_turn u is.holder no_turn

  -- the segment holds what the stretch holds
  pub holder_holds : (p : Point) → pos 0 <ℤ p.w → IsTrue (is_on u p) → IsTrue (is_on is.holder p)
  holder_holds p hp on =
      between_on is.holder (whole u.left) p (whole u.right) one_positive hp one_positive is.on_left is.on_right
      (parallel_line u is.holder (whole u.left) p is.proper.first no_turn one_positive (left_on_line u) (on_line is.holder (whole u.left) is.on_left) (on_line u p on))
      (after_left u p on) (before_right u p hp on)

-- where two stretches cross is a node of the segments
pub stretches_cross : (segments : List Segment) (a b : Segment) (p : Point) → IsStretchOf segments a → IsStretchOf segments b → pos 0 <ℤ p.w → IsTrue (is_on a p) → IsTrue (is_on b p) → is_parallel a b ≡ false → IsTrue (is_node segments p)
stretches_cross segments a b p is_a is_b hp on_a on_b np =
    crossing_is_node segments is_a.holder is_b.holder p is_a.among is_b.among (holder_holds segments a is_a p hp on_a) (holder_holds segments b is_b p hp on_b)
    (false_from_ne_true (is_parallel is_a.holder is_b.holder) (λ e. both_ways (is_parallel a b) np
    (parallel_through is_a.holder a b is_a.held_by.first (turned_back a is_a.holder (no_turn segments a is_a))
    (parallel_through is_b.holder is_a.holder b is_b.held_by.first (flipped is_a.holder is_b.holder e) (turned_back b is_b.holder (no_turn segments b is_b))))))
  where
    turned_back : (s t : Segment) → turn_of s t ≡ pos 0 → is_parallel t s ≡ true
    turned_back s t e = parallel_from_turn t s (no_turn_back s t e)

    flipped : (s t : Segment) → is_parallel s t ≡ true → is_parallel t s ≡ true
    flipped s t e = turned_back s t (turn_from_parallel s t e)
