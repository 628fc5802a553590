-- The plane leaned to the right: to x, taken n times, y is added. Places in order then lie one right of the other, and no segment is vertical.
use Rattle.std.proofs.Common.{◌≡◌, ℤ, pos, ◌+ℤ◌, ◌-ℤ◌, ◌*ℤ◌, ◌<ℤ◌, ◌≤ℤ◌, neg_ℤ, inl, inr, ◌⊎◌, ap, sym, ◌∙◌, arith}
use Rattle.std.proofs.lemmas.Int.{ints, by_lt_z}
use Rattle.std.proofs.Math.IntN.{*ℤ-zero, zero-*ℤ}
use Rattle.overlay_terms.specs.Plane.{Point, Segment, height_over}
use Rattle.overlay_terms.proofs.Difference.{split, differences, same}
use Rattle.overlay_terms.proofs.InputNumbers.{times_one}
use Rattle.overlay_terms.proofs.Whole.{less_by, negated_positive, less_none}
use Rattle.crossing_sweep.specs.Leaning.{lean, lean_segment, across, up_to, IsNear, IsAfter, IsBefore}
use Rattle.exact_point.proofs.Lexical.{Forward}
use Rattle.exact_point.proofs.Lines.{width, rise, Under, falls, kept, zero_is, zero_after, offset, gap_form}
use Rattle.exact_point.specs.Crossing.{turn_of}
use Rattle.exact_point.proofs.Signs.{not_negative_times}
use Rattle.exact_point.proofs.ByX.{Left}

-- over opaque numbers
pub leaned_width : (n l m r o : ℤ) → ((n *ℤ r) +ℤ o) -ℤ ((n *ℤ l) +ℤ m) ≡ (n *ℤ (r -ℤ l)) +ℤ (o -ℤ m)
leaned_width n l m r o = rw (split n, split l, split m, split r, split o) (simp differences (same _ _ _ _ (omega arith)))

pub leaned_along : (n x y l m w : ℤ) → ((n *ℤ x) +ℤ y) -ℤ (((n *ℤ l) +ℤ m) *ℤ w) ≡ (n *ℤ (x -ℤ (l *ℤ w))) +ℤ (y -ℤ (m *ℤ w))
leaned_along n x y l m w = rw (split n, split x, split y, split l, split m, split w) (simp differences (same _ _ _ _ (omega arith)))

-- a gap of two heights of which both are 0
pub gap_none : (h k d e g : ℤ) → (h *ℤ e) -ℤ (k *ℤ d) ≡ g → h ≡ pos 0 → k ≡ pos 0 → g ≡ pos 0
gap_none h k d e g form eh ek = omega (arith, ints, form, ap (λ z. z *ℤ e) eh, ap (λ z. z *ℤ d) ek, zero-*ℤ e, zero-*ℤ d)

pub leaned_cross : (n a b u v : ℤ) → (((n *ℤ a) +ℤ b) *ℤ u) -ℤ (b *ℤ ((n *ℤ v) +ℤ u)) ≡ n *ℤ ((a *ℤ u) -ℤ (b *ℤ v))
leaned_cross n a b u v = rw (split n, split a, split b, split u, split v) (simp differences (same _ _ _ _ (omega arith)))

-- the side of a place stays
pub lean_height : (n : ℤ) (s : Segment) (p : Point) → height_over (lean_segment n s) (lean n p) ≡ n *ℤ height_over s p
lean_height n s p =
    ap (λ z. (z *ℤ (p.y -ℤ (s.left.y *ℤ p.w))) -ℤ ((s.right.y -ℤ s.left.y) *ℤ (((n *ℤ p.x) +ℤ p.y) -ℤ (((n *ℤ s.left.x) +ℤ s.left.y) *ℤ p.w)))) (leaned_width n s.left.x s.left.y s.right.x s.right.y)
    ∙ ap (λ z. (((n *ℤ (s.right.x -ℤ s.left.x)) +ℤ (s.right.y -ℤ s.left.y)) *ℤ (p.y -ℤ (s.left.y *ℤ p.w))) -ℤ ((s.right.y -ℤ s.left.y) *ℤ z)) (leaned_along n p.x p.y s.left.x s.left.y p.w)
    ∙ leaned_cross n (s.right.x -ℤ s.left.x) (s.right.y -ℤ s.left.y) (p.y -ℤ (s.left.y *ℤ p.w)) (p.x -ℤ (s.left.x *ℤ p.w))

-- and how far one segment turns from another
pub lean_turn : (n : ℤ) (s t : Segment) → turn_of (lean_segment n s) (lean_segment n t) ≡ n *ℤ turn_of s t
lean_turn n s t =
    ap (λ z. (z *ℤ rise t) -ℤ (rise s *ℤ (((n *ℤ t.right.x) +ℤ t.right.y) -ℤ ((n *ℤ t.left.x) +ℤ t.left.y)))) (leaned_width n s.left.x s.left.y s.right.x s.right.y)
    ∙ ap (λ z. (((n *ℤ width s) +ℤ rise s) *ℤ rise t) -ℤ (rise s *ℤ z)) (leaned_width n t.left.x t.left.y t.right.x t.right.y)
    ∙ leaned_cross n (width s) (rise s) (rise t) (width t)

-- ---- places in order
pub leaned_across : (n x y w u v z : ℤ) → (((n *ℤ u) +ℤ v) *ℤ w) -ℤ (((n *ℤ x) +ℤ y) *ℤ z) ≡ (n *ℤ ((u *ℤ w) -ℤ (x *ℤ z))) +ℤ ((v *ℤ w) -ℤ (y *ℤ z))
leaned_across n x y w u v z = rw (split n, split x, split y, split w, split u, split v, split z) (simp differences (same _ _ _ _ (omega arith)))

one_less : (n d e : ℤ) → (d -ℤ e) *ℤ n ≡ (n *ℤ d) -ℤ (n *ℤ e)
one_less n d e = rw (split n, split d, split e) (simp differences (same _ _ _ _ (omega arith)))

-- n times a number from 1 on is at least n
pub at_least_once : (n d : ℤ) → pos 0 <ℤ n → pos 0 <ℤ d → n ≤ℤ (n *ℤ d)
at_least_once n d h k =
    let more : pos 0 ≤ℤ ((d -ℤ pos 1) *ℤ n) = not_negative_times (d -ℤ pos 1) n (omega (arith, ints)) h in
    omega (arith, ints, less_one n d, more)
  where
    less_one : (n d : ℤ) → (d -ℤ pos 1) *ℤ n ≡ (n *ℤ d) -ℤ n
    less_one n d = one_less n d (pos 1) ∙ ap (λ z. (n *ℤ d) -ℤ z) (times_one n)

before_by_x : (n d e z : ℤ) → pos 0 <ℤ n → pos 0 <ℤ d → neg_ℤ n <ℤ e → z ≡ (n *ℤ d) +ℤ e → pos 0 <ℤ z
before_by_x n d e z h k l is = omega (arith, ints, is, at_least_once n d h k)

before_by_y : (n d e z : ℤ) → d ≡ pos 0 → pos 0 <ℤ e → z ≡ (n *ℤ d) +ℤ e → pos 0 <ℤ z
before_by_y n d e z none h is = omega (arith, ints, is, ap (λ t. n *ℤ t) none, *ℤ-zero n)

-- a place before another lies left of it in the leaned plane
pub lean_left : (n : ℤ) (p q : Point) → pos 0 <ℤ n → IsNear n p q → Forward (across p q) (up_to p q) → Left (lean n p) (lean n q)
lean_left n p q h near (inl k) =
    less_by (((n *ℤ p.x) +ℤ p.y) *ℤ q.w) (((n *ℤ q.x) +ℤ q.y) *ℤ p.w)
    (before_by_x n (across p q) (up_to p q) _ h k near.low (leaned_across n p.x p.y p.w q.x q.y q.w))
lean_left n p q h near (inr (z, k)) =
    less_by (((n *ℤ p.x) +ℤ p.y) *ℤ q.w) (((n *ℤ q.x) +ℤ q.y) *ℤ p.w)
    (before_by_y n (across p q) (up_to p q) _ z k (leaned_across n p.x p.y p.w q.x q.y q.w))

-- ---- no segment is vertical there
wide_by : (n a b z : ℤ) → pos 0 <ℤ n → neg_ℤ n <ℤ b → Forward a b → z ≡ (n *ℤ a) +ℤ b → pos 0 <ℤ z
wide_by n a b z h near (inl k) is = before_by_x n a b z h k near is
wide_by n a b z h near (inr (none, k)) is = before_by_y n a b z none k is

pub lean_wide : (n : ℤ) (s : Segment) → pos 0 <ℤ n → neg_ℤ n <ℤ rise s → Forward (width s) (rise s) → pos 0 <ℤ width (lean_segment n s)
lean_wide n s h near ahead = wide_by n (width s) (rise s) _ h near ahead (leaned_width n s.left.x s.left.y s.right.x s.right.y)

-- ---- travel: from just after one place to just before a later one
-- no x strictly between two places has no gap, unless the lines are parallel
abbrev pub NoMeeting : Segment → Segment → Point → Point → Type 0
NoMeeting a b u v = (z : Point) → pos 0 <ℤ z.w → Left u z → Left z v → (turn_of a b *ℤ z.x) +ℤ (offset a b *ℤ z.w) ≡ pos 0 → turn_of a b ≡ pos 0

-- the zero of a form that falls below 0 lies before the later place
zero_before : (a b y v : ℤ) → (a *ℤ y +ℤ b *ℤ v) <ℤ pos 0 → (b *ℤ v) <ℤ (y *ℤ neg_ℤ a)
zero_before a b y v h = omega (arith, ints, times_negated y a, h)
  where
    times_negated : (x a : ℤ) → x *ℤ neg_ℤ a ≡ neg_ℤ (a *ℤ x)
    times_negated x a = rw (split x, split a) (simp (differences) (same _ _ _ _ (omega arith)))

travel_numbers : (a b x w y v : ℤ) → pos 0 <ℤ w → pos 0 <ℤ v → pos 0 <ℤ (y *ℤ w -ℤ x *ℤ v)
    → (pos 0 <ℤ (a *ℤ x +ℤ b *ℤ w) → (a *ℤ y +ℤ b *ℤ v) <ℤ pos 0 → ⊥)
    → Under (a *ℤ x +ℤ b *ℤ w) a
    → (pos 0 <ℤ (a *ℤ y +ℤ b *ℤ v)) ⊎ (((a *ℤ y +ℤ b *ℤ v) ≡ pos 0) × (a <ℤ pos 0))
travel_numbers a b x w y v hw hv later crossed (inl h) =
    by_lt_z (pos 0) (a *ℤ y +ℤ b *ℤ v) (λ k. inl k)
    (λ k. by_lt_z (a *ℤ y +ℤ b *ℤ v) (pos 0) (λ l. absurd (crossed h l))
    (λ l. let z : (a *ℤ y +ℤ b *ℤ v) ≡ pos 0 = omega (arith, ints) in inr (z, falls a b x w y v hw hv later h k)))
travel_numbers a b x w y v hw hv later crossed (inr (z, k)) = inl (kept a b x w y v hw hv later (λ h l. absurd (omega (arith, ints, z, h))) (inr (z, k)))

module _ (a b : Segment) (u v : Point) (hu : pos 0 <ℤ u.w) (hv : pos 0 <ℤ v.w) (later : Left u v) (none : NoMeeting a b u v) where
  -- a gap does not change its sign between
  not_crossed : pos 0 <ℤ ((turn_of a b *ℤ u.x) +ℤ (offset a b *ℤ u.w)) → ((turn_of a b *ℤ v.x) +ℤ (offset a b *ℤ v.w)) <ℤ pos 0 → ⊥
  not_crossed above under =
      let down : turn_of a b <ℤ pos 0 = falls (turn_of a b) (offset a b) u.x u.w v.x v.w hu hv (difference (u.x *ℤ v.w) (v.x *ℤ u.w) later) above (most ((turn_of a b *ℤ v.x) +ℤ (offset a b *ℤ v.w)) under) in
      less_none (turn_of a b) down
      (none (record { x = offset a b; y = pos 0; w = neg_ℤ (turn_of a b) }) (negated_positive (turn_of a b) down)
      (zero_after (turn_of a b) (offset a b) u.x u.w above)
      (zero_before (turn_of a b) (offset a b) v.x v.w under)
      (zero_is (turn_of a b) (offset a b)))
    where
      difference : (x y : ℤ) → x <ℤ y → pos 0 <ℤ (y -ℤ x)
      difference x y h = omega (arith, ints)

      most : (x : ℤ) → x <ℤ pos 0 → x ≤ℤ pos 0
      most x h = omega (arith, ints)

  -- so what is under just after the first is under just before the second
  pub travel : IsAfter a b u → IsBefore a b v
  travel h = told (travel_numbers (turn_of a b) (offset a b) u.x u.w v.x v.w hu hv (difference (u.x *ℤ v.w) (v.x *ℤ u.w) later) not_crossed (as_form h))
    where
      difference : (x y : ℤ) → x <ℤ y → pos 0 <ℤ (y -ℤ x)
      difference x y h = omega (arith, ints)

      as_form : IsAfter a b u → Under ((turn_of a b *ℤ u.x) +ℤ (offset a b *ℤ u.w)) (turn_of a b)
      as_form (inl h) = inl (omega (arith, ints, h, gap_form a b u))
      as_form (inr (e, h)) = inr (sym (gap_form a b u) ∙ e, h)

      told : (pos 0 <ℤ ((turn_of a b *ℤ v.x) +ℤ (offset a b *ℤ v.w))) ⊎ ((((turn_of a b *ℤ v.x) +ℤ (offset a b *ℤ v.w)) ≡ pos 0) × (turn_of a b <ℤ pos 0)) → IsBefore a b v
      told (inl h) = inl (omega (arith, ints, h, gap_form a b v))
      told (inr (e, h)) = inr (gap_form a b v ∙ e, h)
