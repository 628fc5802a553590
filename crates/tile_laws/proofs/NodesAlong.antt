-- The ends of a segment that is not vertical lie on it.
use Rattle.std.specs.Prelude.{◌≡◌, pos, ◌<ℤ◌, IsTrue}
use Rattle.std.specs.declared.cmp.Ordering.TheVariants.{Less}
use Rattle.overlay_terms.specs.Plane.{Segment, whole, point_cmp, is_on}
use Rattle.overlay_terms.proofs.InputNumbers.{less_times, in_order_by_x}
use Rattle.exact_point.proofs.OnLine.{within_on, left_on_line, right_on_line}
use Rattle.exact_point.proofs.PlaceOrder.{one_positive, same_self, not_before_self, not_after_less}

module _ (s : Segment) (wide : s.left.x <ℤ s.right.x) where
  -- the left end comes before the right one
  ends_in_order : point_cmp (whole s.left) (whole s.right) ≡ Less
  ends_in_order = in_order_by_x (whole s.left) (whole s.right) (less_times s.left.x s.right.x (pos 1) one_positive wide)

  -- the left end lies on the segment
  pub left_on : IsTrue (is_on s (whole s.left))
  left_on =
      within_on s (whole s.left) one_positive (left_on_line s) (not_before_self (whole s.left) (whole s.left) one_positive one_positive (same_self (whole s.left)))
      (not_after_less (whole s.left) (whole s.right) one_positive one_positive ends_in_order)

  -- the right end lies on the segment
  pub right_on : IsTrue (is_on s (whole s.right))
  right_on =
      within_on s (whole s.right) one_positive (right_on_line s) (not_after_less (whole s.left) (whole s.right) one_positive one_positive ends_in_order)
      (not_before_self (whole s.right) (whole s.right) one_positive one_positive (same_self (whole s.right)))
