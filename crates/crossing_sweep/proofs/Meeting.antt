-- Where two leaned segments are equally high over an x that both reach, the segments themselves cross there. So a status keeps its order up to the next node.
use Rattle.std.proofs.Common.{◌≡◌, ℤ, pos, ◌+ℤ◌, ◌-ℤ◌, ◌*ℤ◌, ◌<ℤ◌, ◌≤ℤ◌, neg_ℤ, inl, inr, refl, ap, sym, ◌∙◌, arith}
use Rattle.std.proofs.lemmas.Int.{ints, by_lt_z}
use Rattle.std.proofs.Math.IntN.{zero-*ℤ, *ℤ-zero, *ℤ_comm}
use Rattle.overlay_terms.specs.Plane.{Point, Segment, whole}
use Rattle.overlay_terms.proofs.Difference.{split, differences, same, mul_pos, diff, diff-neg, whole_is}
use Rattle.overlay_terms.proofs.InputNumbers.{most_back}
use Rattle.overlay_terms.proofs.Whole.{negated_positive}
use Rattle.exact_point.specs.Crossing.{IsCrossingOf, turn_of, lead_of}
use Rattle.exact_point.specs.PlaceOf.{part_way}
use Rattle.exact_point.proofs.CrossingLemmas.{IsPart, crossing_at_part}
use Rattle.exact_point.proofs.Lexical.{Forward}
use Rattle.exact_point.proofs.Lines.{width, rise, offset}
use Rattle.exact_point.proofs.Signs.{not_negative_times, negative_times, zero_factor}
use Rattle.exact_point.proofs.ByX.{Left, AtMost}
use Rattle.crossing_sweep.specs.Leaning.{lean, lean_segment, across, up_to, IsNear}
use Rattle.crossing_sweep.proofs.Lean.{lean_turn, leaned_width, leaned_cross, at_least_once, leaned_across}

-- the cross product of the way between two left ends with a direction, leaned
pub lean_lead : (n : ℤ) (s t d : Segment) → lead_of (lean_segment n s) (lean_segment n t) (lean_segment n d) ≡ n *ℤ lead_of s t d
lean_lead n s t d =
    ap (λ z. (z *ℤ (d.right.y -ℤ d.left.y)) -ℤ ((t.left.y -ℤ s.left.y) *ℤ (((n *ℤ d.right.x) +ℤ d.right.y) -ℤ ((n *ℤ d.left.x) +ℤ d.left.y)))) (leaned_width n s.left.x s.left.y t.left.x t.left.y)
    ∙ ap (λ z. (((n *ℤ (t.left.x -ℤ s.left.x)) +ℤ (t.left.y -ℤ s.left.y)) *ℤ (d.right.y -ℤ d.left.y)) -ℤ ((t.left.y -ℤ s.left.y) *ℤ z)) (leaned_width n d.left.x d.left.y d.right.x d.right.y)
    ∙ leaned_cross n (t.left.x -ℤ s.left.x) (t.left.y -ℤ s.left.y) (d.right.y -ℤ d.left.y) (d.right.x -ℤ d.left.x)

-- ---- over opaque numbers: widths a, c, rises b, d, left ends (l, m) and (x, y)
first_meets : (a b l m c d x y : ℤ) → ((((a *ℤ d) -ℤ (b *ℤ c)) *ℤ l) +ℤ ((((x -ℤ l) *ℤ d) -ℤ ((y -ℤ m) *ℤ c)) *ℤ a)) +ℤ ((a *ℤ ((c *ℤ y) -ℤ (d *ℤ x))) -ℤ (c *ℤ ((a *ℤ m) -ℤ (b *ℤ l)))) ≡ pos 0
first_meets a b l m c d x y = zero_of _ (rw (split a, split b, split l, split m, split c, split d, split x, split y) (simp differences (same _ _ 0 0 (omega arith))))
  where
    open_zero : pos 0 ≡ pos 0
    open_zero = refl

    zero_of : (z : ℤ) → z ≡ diff 0 0 → z ≡ pos 0
    zero_of z h = h ∙ sym (whole_is 0)

second_meets : (a b l m c d x y : ℤ) → ((((a *ℤ d) -ℤ (b *ℤ c)) *ℤ x) +ℤ ((((x -ℤ l) *ℤ b) -ℤ ((y -ℤ m) *ℤ a)) *ℤ c)) +ℤ ((a *ℤ ((c *ℤ y) -ℤ (d *ℤ x))) -ℤ (c *ℤ ((a *ℤ m) -ℤ (b *ℤ l)))) ≡ pos 0
second_meets a b l m c d x y = zero_of _ (rw (split a, split b, split l, split m, split c, split d, split x, split y) (simp differences (same _ _ 0 0 (omega arith))))
  where
    zero_of : (z : ℤ) → z ≡ diff 0 0 → z ≡ pos 0
    zero_of z h = h ∙ sym (whole_is 0)

spread : (t o l m d x w : ℤ) → (t *ℤ (x -ℤ (l *ℤ w))) -ℤ ((m *ℤ d) *ℤ w) ≡ ((t *ℤ x) +ℤ (o *ℤ w)) -ℤ ((((t *ℤ l) +ℤ (m *ℤ d)) +ℤ o) *ℤ w)
spread t o l m d x w = rw (split t, split o, split l, split m, split d, split x, split w) (simp differences (same _ _ _ _ (omega arith)))

-- how far along the first, as an equation
along_is : (t o l m d x w : ℤ) → ((t *ℤ l) +ℤ (m *ℤ d)) +ℤ o ≡ pos 0 → (t *ℤ x) +ℤ (o *ℤ w) ≡ pos 0 → t *ℤ (x -ℤ (l *ℤ w)) ≡ (m *ℤ d) *ℤ w
along_is t o l m d x w line zero = omega (arith, ints, spread t o l m d x w, zero, ap (λ z. z *ℤ w) line, zero-*ℤ w)

-- a part is not negative
not_back : (t k m d w : ℤ) → pos 0 <ℤ t → pos 0 <ℤ d → pos 0 <ℤ w → pos 0 ≤ℤ k → t *ℤ k ≡ (m *ℤ d) *ℤ w → pos 0 ≤ℤ m
not_back t k m d w ht hd hw hk e =
    by_lt_z m (pos 0)
    (λ l. absurd (omega (arith, ints, e, negative_times (m *ℤ d) w (negative_times m d l hd) hw, not_negative_times k t hk ht, *ℤ_comm k t)))
    (λ l. l)

rest_is : (t k m d w : ℤ) → t *ℤ ((d *ℤ w) -ℤ k) ≡ (((t -ℤ m) *ℤ d) *ℤ w) +ℤ (((m *ℤ d) *ℤ w) -ℤ (t *ℤ k))
rest_is t k m d w = rw (split t, split k, split m, split d, split w) (simp differences (same _ _ _ _ (omega arith)))

to_end : (l r w x : ℤ) → ((r -ℤ l) *ℤ w) -ℤ (x -ℤ (l *ℤ w)) ≡ (r *ℤ w) -ℤ x
to_end l r w x = rw (split l, split r, split w, split x) (simp differences (same _ _ _ _ (omega arith)))

-- between the ends by x is a part of the way
part_by : (t o l r m x w : ℤ) → pos 0 <ℤ t → pos 0 <ℤ (r -ℤ l) → pos 0 <ℤ w → (l *ℤ w) ≤ℤ (x *ℤ pos 1) → (x *ℤ pos 1) ≤ℤ (r *ℤ w) → ((t *ℤ l) +ℤ (m *ℤ (r -ℤ l))) +ℤ o ≡ pos 0 → (t *ℤ x) +ℤ (o *ℤ w) ≡ pos 0 → IsPart m t
part_by t o l r m x w ht hd hw low high line zero =
    let d : ℤ = r -ℤ l in
    let k : ℤ = x -ℤ (l *ℤ w) in
    let e : t *ℤ k ≡ (m *ℤ d) *ℤ w = along_is t o l m d x w line zero in
    let rest : t *ℤ ((d *ℤ w) -ℤ k) ≡ ((t -ℤ m) *ℤ d) *ℤ w = left_over (t *ℤ ((d *ℤ w) -ℤ k)) (((t -ℤ m) *ℤ d) *ℤ w) ((m *ℤ d) *ℤ w) (t *ℤ k) (rest_is t k m d w) e in
    let after : pos 0 ≤ℤ (t -ℤ m) = not_back t ((d *ℤ w) -ℤ k) (t -ℤ m) d w ht hd hw (ahead ((d *ℤ w) -ℤ k) (r *ℤ w) x (to_end l r w x) high) rest in
    record { low = not_back t k m d w ht hd hw (behind x (l *ℤ w) low) e; high = least m t after }
  where
    left_over : (a b c e : ℤ) → a ≡ b +ℤ (c -ℤ e) → e ≡ c → a ≡ b
    left_over a b c e h k = omega (arith, ints, h, k)

    behind : (x l : ℤ) → l ≤ℤ (x *ℤ pos 1) → pos 0 ≤ℤ (x -ℤ l)
    behind x l h = omega (arith, ints, h)

    ahead : (z r x : ℤ) → z ≡ r -ℤ x → (x *ℤ pos 1) ≤ℤ r → pos 0 ≤ℤ z
    ahead z r x e h = omega (arith, ints, e, h)

    least : (m t : ℤ) → pos 0 ≤ℤ (t -ℤ m) → m ≤ℤ t
    least m t h = omega (arith, ints, h)

-- the same without the lean
part_back : (n m t : ℤ) → pos 0 <ℤ n → IsPart (n *ℤ m) (n *ℤ t) → IsPart m t
part_back n m t h part = record {
  low = most_back (pos 0) m n h (omega (arith, ints, part.low, *ℤ_comm m n, zero-*ℤ n));
  high = most_back m t n h (omega (arith, ints, part.high, *ℤ_comm m n, *ℤ_comm t n));
}

-- ---- the place where they cross
-- part of the way along the first, over how far the second turns left from it: the place that cross_of gives
abbrev pub meeting : Segment → Segment → Point
meeting s t = part_way s (lead_of s t t) (turn_of s t)

-- the segments cross there, part of the way along the first
pub record IsMeeting (s t : Segment) : Type 0 where
  pub at : IsCrossingOf s t (meeting s t)
  pub part : IsPart (lead_of s t t) (turn_of s t)

-- they do, and over the x of z in the leaned plane
pub record Crosses (n : ℤ) (s t : Segment) (z : Point) : Type 0 where
  pub crossing : IsMeeting s t
  pub over : (lean n (meeting s t)).x *ℤ z.w ≡ z.x *ℤ turn_of s t

-- the place part of the way along the first, leaned
leaned_place : (n l m a b t w : ℤ) → (n *ℤ ((l *ℤ w) +ℤ (a *ℤ t))) +ℤ ((m *ℤ w) +ℤ (b *ℤ t)) ≡ (((n *ℤ l) +ℤ m) *ℤ w) +ℤ (((n *ℤ a) +ℤ b) *ℤ t)
leaned_place n l m a b t w = rw (split n, split l, split m, split a, split b, split t, split w) (simp differences (same _ _ _ _ (omega arith)))

-- it is over the same x
over_by : (n w t d l x v : ℤ) → pos 0 <ℤ n → (n *ℤ w) *ℤ (x -ℤ (l *ℤ v)) ≡ ((n *ℤ t) *ℤ d) *ℤ v → ((l *ℤ w) +ℤ (d *ℤ t)) *ℤ v ≡ x *ℤ w
over_by n w t d l x v h e =
    close (((l *ℤ w) +ℤ (d *ℤ t)) *ℤ v) (x *ℤ w)
    (zero_factor ((((l *ℤ w) +ℤ (d *ℤ t)) *ℤ v) -ℤ (x *ℤ w)) n h (gathered n w t d l x v ∙ none (((n *ℤ t) *ℤ d) *ℤ v) ((n *ℤ w) *ℤ (x -ℤ (l *ℤ v))) (sym e)))
  where
    gathered : (n w t d l x v : ℤ) → ((((l *ℤ w) +ℤ (d *ℤ t)) *ℤ v) -ℤ (x *ℤ w)) *ℤ n ≡ (((n *ℤ t) *ℤ d) *ℤ v) -ℤ ((n *ℤ w) *ℤ (x -ℤ (l *ℤ v)))
    gathered n w t d l x v = rw (split n, split w, split t, split d, split l, split x, split v) (simp differences (same _ _ _ _ (omega arith)))

    none : (a b : ℤ) → a ≡ b → a -ℤ b ≡ pos 0
    none a b h = omega (arith, ints, h)

    close : (a b : ℤ) → a -ℤ b ≡ pos 0 → a ≡ b
    close a b h = omega (arith, ints, h)

module _ (n : ℤ) (s t : Segment) (z : Point) (hn : pos 0 <ℤ n) (hz : pos 0 <ℤ z.w)
    (wide_s : pos 0 <ℤ width (lean_segment n s)) (wide_t : pos 0 <ℤ width (lean_segment n t))
    (ahead_s : Forward (width s) (rise s)) (ahead_t : Forward (width t) (rise t)) (left : pos 0 <ℤ turn_of s t)
    (from_s : AtMost (whole (lean_segment n s).left) z) (to_s : AtMost z (whole (lean_segment n s).right))
    (from_t : AtMost (whole (lean_segment n t).left) z) (to_t : AtMost z (whole (lean_segment n t).right))
    (zero : (turn_of (lean_segment n s) (lean_segment n t) *ℤ z.x) +ℤ (offset (lean_segment n s) (lean_segment n t) *ℤ z.w) ≡ pos 0) where
  a : Segment
  a = lean_segment n s

  b : Segment
  b = lean_segment n t

  turns : pos 0 <ℤ turn_of (lean_segment n s) (lean_segment n t)
  turns = more (turn_of (lean_segment n s) (lean_segment n t)) (n *ℤ turn_of s t) (lean_turn n s t) (mul_pos n (turn_of s t) hn left)
    where
      more : (x y : ℤ) → x ≡ y → pos 0 <ℤ y → pos 0 <ℤ x
      more x y e h = omega (arith, ints, e, h)

  abbrev s' : Segment
  s' = lean_segment n s

  abbrev t' : Segment
  t' = lean_segment n t

  first_line : ((turn_of s' t' *ℤ s'.left.x) +ℤ (lead_of s' t' t' *ℤ (s'.right.x -ℤ s'.left.x))) +ℤ offset s' t' ≡ pos 0
  first_line = first_meets (width s') (rise s') s'.left.x s'.left.y (width t') (rise t') t'.left.x t'.left.y

  second_line : ((turn_of s' t' *ℤ t'.left.x) +ℤ (lead_of s' t' s' *ℤ (t'.right.x -ℤ t'.left.x))) +ℤ offset s' t' ≡ pos 0
  second_line = second_meets (width s') (rise s') s'.left.x s'.left.y (width t') (rise t') t'.left.x t'.left.y

  part_first : IsPart (lead_of s t t) (turn_of s t)
  part_first =
      part_back n (lead_of s t t) (turn_of s t) hn
      (rw (sym (lean_lead n s t t), sym (lean_turn n s t)) (part_by (turn_of s' t') (offset s' t') s'.left.x s'.right.x (lead_of s' t' t') z.x z.w turns wide_s hz from_s to_s first_line zero))

  part_second : IsPart (lead_of s t s) (turn_of s t)
  part_second =
      part_back n (lead_of s t s) (turn_of s t) hn
      (rw (sym (lean_lead n s t s), sym (lean_turn n s t)) (part_by (turn_of s' t') (offset s' t') t'.left.x t'.right.x (lead_of s' t' s') z.x z.w turns wide_t hz from_t to_t second_line zero))

  -- the segments cross over that x
  pub crosses : Crosses n s t z
  crosses = record {
    crossing = record {
      at = crossing_at_part s t (meeting s t) left ahead_s ahead_t part_first part_second (record { over = refl; across = refl; along = refl });
      part = part_first;
    };
    over =
        ap (λ x. x *ℤ z.w) (leaned_place n s.left.x s.left.y (width s) (rise s) (lead_of s t t) (turn_of s t))
        ∙ ap (λ d. ((s'.left.x *ℤ turn_of s t) +ℤ (d *ℤ lead_of s t t)) *ℤ z.w) (sym (leaned_width n s.left.x s.left.y s.right.x s.right.y))
        ∙ over_by n (turn_of s t) (lead_of s t t) (width s') s'.left.x z.x z.w hn
        (ap (λ w. w *ℤ (z.x -ℤ (s'.left.x *ℤ z.w))) (sym (lean_turn n s t)) ∙ along_is (turn_of s' t') (offset s' t') s'.left.x (lead_of s' t' t') (width s') z.x z.w first_line zero ∙ ap (λ m. (m *ℤ width s') *ℤ z.w) (lean_lead n s t t));
  }

-- ---- back to the order of places
-- where n times d and e are together positive and e is less than n, d is positive, or none and e positive
back_by : (n d e : ℤ) → pos 0 <ℤ n → e <ℤ n → pos 0 <ℤ ((n *ℤ d) +ℤ e) → Forward d e
back_by n d e h near sum =
    by_lt_z (pos 0) d (λ k. inl k)
    (λ k. by_lt_z d (pos 0)
    (λ l. absurd (omega (arith, ints, sum, near, at_least_once n (neg_ℤ d) h (negated_positive d l), negated n d)))
    (λ l. let none : d ≡ pos 0 = omega (arith, ints, k, l) in inr (none, omega (arith, ints, sum, ap (λ t. n *ℤ t) none, *ℤ-zero n))))
  where
    negated : (n d : ℤ) → n *ℤ neg_ℤ d ≡ neg_ℤ (n *ℤ d)
    negated n d = rw (split n, split d) (simp (diff-neg, differences) (same _ _ _ _ (omega arith)))

-- a place left of another in the leaned plane is before it
pub before_from_lean : (n : ℤ) (p q : Point) → pos 0 <ℤ n → IsNear n p q → Left (lean n p) (lean n q) → Forward (across p q) (up_to p q)
before_from_lean n p q h near left =
    back_by n (across p q) (up_to p q) h near.high
    (sum (((n *ℤ p.x) +ℤ p.y) *ℤ q.w) (((n *ℤ q.x) +ℤ q.y) *ℤ p.w) _ (leaned_across n p.x p.y p.w q.x q.y q.w) left)
  where
    sum : (a b z : ℤ) → b -ℤ a ≡ z → a <ℤ b → pos 0 <ℤ z
    sum a b z e h = omega (arith, ints, e, h)
