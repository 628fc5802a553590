-- A leaned segment holds a leaned place exactly where the segment holds the place, and the order of places is that of the leaned ones.
use Rattle.std.proofs.Common.{◌≡◌, ℤ, pos, ◌+ℤ◌, ◌-ℤ◌, ◌*ℤ◌, ◌<ℤ◌, neg_ℤ, inl, inr, true, ap, sym, ◌∙◌, arith}
use Rattle.std.proofs.lemmas.Int.{ints}
use Rattle.std.proofs.Math.IntN.{*ℤ_comm, *ℤ-zero}
use Rattle.std.specs.declared.cmp.Ordering.TheVariants.{Less}
use Rattle.overlay_terms.specs.Plane.{Point, Segment, whole, point_cmp, height_over, is_on, is_below}
use Rattle.overlay_terms.specs.TileLaws.{IsProper}
use Rattle.overlay_terms.proofs.InputNumbers.{in_order_by_x}
use Rattle.overlay_terms.proofs.Tests.{same_tests}
use Rattle.overlay_terms.proofs.Whole.{less_by}
use Rattle.exact_point.proofs.Lexical.{Forward}
use Rattle.exact_point.proofs.OnSegment.{leads}
use Rattle.exact_point.proofs.OnLine.{after_left, before_right, within_on, on_line, less_from_forward, forward_from_less}
use Rattle.exact_point.proofs.Signs.{zero_factor}
use Rattle.crossing_sweep.specs.Leaning.{lean, lean_segment, across, up_to, IsNear, IsSteep, IsSmall}
use Rattle.crossing_sweep.proofs.Lean.{lean_left, lean_height, leaned_across}
use Rattle.crossing_sweep.proofs.Meeting.{before_from_lean}
use Rattle.crossing_sweep.proofs.AtNode.{no_more}
use Rattle.crossing_sweep.proofs.Below.{IsNearEnds, below_alike}
use Rattle.crossing_sweep.proofs.Inputs.{steep_positive, near, left_small, right_small}

-- ---- the order
module _ (n : ℤ) (p q : Point) (steep : IsSteep n) (sp : IsSmall p) (sq : IsSmall q) where
  hn : pos 0 <ℤ n
  hn = steep_positive n steep

  -- places in order are in order in the leaned plane
  pub leaned_less : point_cmp p q ≡ Less → point_cmp (lean n p) (lean n q) ≡ Less
  leaned_less h = in_order_by_x (lean n p) (lean n q) (lean_left n p q hn (near n p q steep sp sq) (forward_from_less p q h))

  -- and the other way round
  pub plain_less : point_cmp (lean n p) (lean n q) ≡ Less → point_cmp p q ≡ Less
  plain_less h = by (forward_from_less (lean n p) (lean n q) h)
    where
      is_near : IsNear n p q
      is_near = near n p q steep sp sq

      none : (d u z : ℤ) → z ≡ (n *ℤ d) +ℤ u → z ≡ pos 0 → neg_ℤ n <ℤ u → u <ℤ n → pos 0 <ℤ u → ⊥
      none d u z e zero low high up =
          let sum : (n *ℤ d) +ℤ u ≡ pos 0 = sym e ∙ zero in
          let level : d ≡ pos 0 = no_more n d u hn high low sum in
          omega (arith, ints, sum, up, ap (λ t. n *ℤ t) level, *ℤ-zero n)

      by : Forward (across (lean n p) (lean n q)) (up_to (lean n p) (lean n q)) → point_cmp p q ≡ Less
      by (inl k) = less_from_forward p q (before_from_lean n p q hn is_near (less_by ((lean n p).x *ℤ q.w) ((lean n q).x *ℤ p.w) k))
      by (inr (zero, up)) = absurd (none (across p q) (up_to p q) (across (lean n p) (lean n q)) (leaned_across n p.x p.y p.w q.x q.y q.w) zero is_near.low is_near.high up)

-- ---- on a segment
module _ (n : ℤ) (t : Segment) (p : Point) (steep : IsSteep n) (proper : IsProper t) (small : IsSmall p) where
  hn' : pos 0 <ℤ n
  hn' = steep_positive n steep

  pub on_alike : is_on (lean_segment n t) (lean n p) ≡ is_on t p
  on_alike = same_tests (is_on (lean_segment n t) (lean n p)) (is_on t p) plain leaned
    where
      plain : is_on (lean_segment n t) (lean n p) ≡ true → is_on t p ≡ true
      plain on =
          within_on t p small.positive (zero_factor (height_over t p) n hn' (*ℤ_comm (height_over t p) n ∙ sym (lean_height n t p) ∙ on_line (lean_segment n t) (lean n p) on))
          (λ h. after_left (lean_segment n t) (lean n p) on (leaned_less n p (whole t.left) steep small (left_small t proper) h))
          (λ h. before_right (lean_segment n t) (lean n p) small.positive on (leaned_less n (whole t.right) p steep (right_small t proper) small h))

      leaned : is_on t p ≡ true → is_on (lean_segment n t) (lean n p) ≡ true
      leaned on =
          within_on (lean_segment n t) (lean n p) small.positive (lean_height n t p ∙ ap (λ z. n *ℤ z) (on_line t p on) ∙ *ℤ-zero n)
          (λ h. after_left t p on (plain_less n p (whole t.left) steep small (left_small t proper) h))
          (λ h. before_right t p small.positive on (plain_less n (whole t.right) p steep (right_small t proper) small h))

  -- ---- below a place
  ends_near : IsNearEnds n t p
  ends_near =
      let l : IsNear n (whole t.left) p = near n (whole t.left) p steep (left_small t proper) small in
      let r : IsNear n p (whole t.right) = near n p (whole t.right) steep small (right_small t proper) in
      record {
        left_low = low_one p.y (t.left.y *ℤ p.w) l.low;
        left_high = high_one p.y (t.left.y *ℤ p.w) l.high;
        right_low = low_last (t.right.y *ℤ p.w) p.y r.low;
        right_high = high_last (t.right.y *ℤ p.w) p.y r.high;
      }
    where
      low_one : (y z : ℤ) → neg_ℤ n <ℤ ((y *ℤ pos 1) -ℤ z) → neg_ℤ n <ℤ (y -ℤ z)
      low_one y z h = omega (arith, ints, h)

      high_one : (y z : ℤ) → ((y *ℤ pos 1) -ℤ z) <ℤ n → (y -ℤ z) <ℤ n
      high_one y z h = omega (arith, ints, h)

      low_last : (z y : ℤ) → neg_ℤ n <ℤ (z -ℤ (y *ℤ pos 1)) → neg_ℤ n <ℤ (z -ℤ y)
      low_last z y h = omega (arith, ints, h)

      high_last : (z y : ℤ) → (z -ℤ (y *ℤ pos 1)) <ℤ n → (z -ℤ y) <ℤ n
      high_last z y h = omega (arith, ints, h)

  pub below_is_alike : is_below (lean_segment n t) (lean n p) ≡ is_below t p
  below_is_alike = below_alike n t p hn' (leads t proper.first) ends_near
