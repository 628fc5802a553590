-- A status keeps its order from just after one place to just before the next node; and of two of its members that hold this node the one after the lower holds it too.
use Rattle.std.proofs.Common.{◌≡◌, ℕ, ℤ, pos, ◌+◌, ◌<◌, ◌+ℤ◌, ◌-ℤ◌, ◌*ℤ◌, ◌<ℤ◌, ◌≤ℤ◌, neg_ℤ, inl, inr, ◌⊎◌, List, get_or, length, zero, suc, ap, sym, ◌∙◌, arith}
use Rattle.std.specs.List.{AllPairs}
use Rattle.std.proofs.lemmas.Int.{ints, by_lt_z}
use Rattle.std.proofs.Math.IntN.{zero-*ℤ, *ℤ_comm}
use Rattle.overlay_terms.specs.Plane.{Point, Segment, whole, height_over}
use Rattle.overlay_terms.proofs.Difference.{split, differences, same, diff-neg, mul_pos}
use Rattle.overlay_terms.proofs.Whole.{turn_back, most_same, negated_more}
use Rattle.exact_point.specs.Crossing.{turn_of}
use Rattle.exact_point.proofs.Lexical.{Forward}
use Rattle.exact_point.proofs.Lines.{width, rise, gap, offset, heights_give_gap}
use Rattle.exact_point.proofs.Signs.{positive_factor, negative_times}
use Rattle.exact_point.proofs.ByX.{Left, AtMost, left_after, left_before, at_most_through, left_most}
use Rattle.crossing_sweep.specs.Leaning.{lean, lean_segment, IsAfter, IsBefore}
use Rattle.crossing_sweep.proofs.Lean.{lean_turn, NoMeeting, travel}
use Rattle.crossing_sweep.proofs.Meeting.{IsMeeting, Crosses, crosses, meeting}

-- a segment that leads forward, and its leaned one right
pub record IsFit (n : ℤ) (s : Segment) : Type 0 where
  pub wide : pos 0 <ℤ width (lean_segment n s)
  pub ahead : Forward (width s) (rise s)

-- it reaches from one place to a later one in the leaned plane
pub record Reaches (n : ℤ) (s : Segment) (q r : Point) : Type 0 where
  pub from : AtMost (whole (lean_segment n s).left) (lean n q)
  pub to : AtMost (lean n r) (whole (lean_segment n s).right)

-- where the second turns left from the first, they do not cross strictly between the places
abbrev pub CrossNotBetween : ℤ → Segment → Segment → Point → Point → Type 0
CrossNotBetween n a b q r = pos 0 <ℤ turn_of a b → IsMeeting a b → Left (lean n q) (lean n (meeting a b)) → Left (lean n (meeting a b)) (lean n r) → ⊥

one : pos 0 <ℤ pos 1
one = omega (arith, ints)

offset_back : (a m c y : ℤ) → (c *ℤ m) -ℤ (a *ℤ y) ≡ neg_ℤ ((a *ℤ y) -ℤ (c *ℤ m))
offset_back a m c y = rw (split a, split m, split c, split y) (simp (diff-neg, differences) (same _ _ _ _ (omega arith)))

form_back : (t o x w : ℤ) → (neg_ℤ t *ℤ x) +ℤ (neg_ℤ o *ℤ w) ≡ neg_ℤ ((t *ℤ x) +ℤ (o *ℤ w))
form_back t o x w = rw (split t, split o, split x, split w) (simp (diff-neg, differences) (same _ _ _ _ (omega arith)))

negated_none : (a : ℤ) → a ≡ pos 0 → neg_ℤ a ≡ pos 0
negated_none a e = omega (arith, ints, e)

module _ (n : ℤ) (hn : pos 0 <ℤ n) (q r : Point) (hq : pos 0 <ℤ q.w) (hr : pos 0 <ℤ r.w) (later : Left (lean n q) (lean n r)) where
  -- where the second turns left from the first, no zero of their gap lies between
  module _ (a b : Segment) (fit_a : IsFit n a) (fit_b : IsFit n b) (on_a : Reaches n a q r) (on_b : Reaches n b q r) (none : CrossNotBetween n a b q r) where
    no_left_meeting : (z : Point) → pos 0 <ℤ z.w → Left (lean n q) z → Left z (lean n r) → (turn_of (lean_segment n a) (lean_segment n b) *ℤ z.x) +ℤ (offset (lean_segment n a) (lean_segment n b) *ℤ z.w) ≡ pos 0 → pos 0 <ℤ turn_of (lean_segment n a) (lean_segment n b) → ⊥
    no_left_meeting z hz after before level left =
        let up : pos 0 <ℤ turn_of a b = plain (turn_of (lean_segment n a) (lean_segment n b)) (turn_of a b) (lean_turn n a b) left in
        let met : Crosses n a b z =
        crosses n a b z hn hz fit_a.wide fit_b.wide fit_a.ahead fit_b.ahead up
        (at_most_through (whole (lean_segment n a).left) (lean n q) z one hq hz on_a.from (left_most (lean n q) z after))
        (at_most_through z (lean n r) (whole (lean_segment n a).right) hz hr one (left_most z (lean n r) before) on_a.to)
        (at_most_through (whole (lean_segment n b).left) (lean n q) z one hq hz on_b.from (left_most (lean n q) z after))
        (at_most_through z (lean n r) (whole (lean_segment n b).right) hz hr one (left_most z (lean n r) before) on_b.to)
        level in
        none up met.crossing
        (left_before (lean n q) z (lean n (meeting a b)) hq hz up after (most_same (z.x *ℤ turn_of a b) ((lean n (meeting a b)).x *ℤ z.w) (sym met.over)))
        (left_after (lean n (meeting a b)) z (lean n r) up hz hr (most_same ((lean n (meeting a b)).x *ℤ z.w) (z.x *ℤ turn_of a b) met.over) before)
      where
        plain : (x y : ℤ) → x ≡ n *ℤ y → pos 0 <ℤ x → pos 0 <ℤ y
        plain x y e h = positive_factor y n hn (omega (arith, ints, e, h, *ℤ_comm y n))

  module _ (a b : Segment) (fit_a : IsFit n a) (fit_b : IsFit n b) (on_a : Reaches n a q r) (on_b : Reaches n b q r) (none : CrossNotBetween n a b q r) (none_back : CrossNotBetween n b a q r) where
    abbrev a' : Segment
    a' = lean_segment n a

    abbrev b' : Segment
    b' = lean_segment n b

    no_meeting : NoMeeting a' b' (lean n q) (lean n r)
    no_meeting z hz after before level =
        by_lt_z (pos 0) (turn_of a' b') (λ h. absurd (no_left_meeting a b fit_a fit_b on_a on_b none z hz after before level h))
        (λ h. by_lt_z (turn_of a' b') (pos 0)
        (λ l. absurd (no_left_meeting b a fit_b fit_a on_b on_a none_back z hz after before
        (ap (λ t. (t *ℤ z.x) +ℤ (offset b' a' *ℤ z.w)) (turn_back (width a') (rise a') (width b') (rise b'))
        ∙ ap (λ o. (neg_ℤ (turn_of a' b') *ℤ z.x) +ℤ (o *ℤ z.w)) (offset_back (width a') ((width a' *ℤ a'.left.y) -ℤ (rise a' *ℤ a'.left.x)) (width b') ((width b' *ℤ b'.left.y) -ℤ (rise b' *ℤ b'.left.x)))
        ∙ form_back (turn_of a' b') (offset a' b') z.x z.w ∙ negated_none _ level)
        (negated_more (turn_of b' a') (turn_of a' b') (turn_back (width a') (rise a') (width b') (rise b')) l)))
        (λ l. none_of (turn_of a' b') h l))
      where
        none_of : (t : ℤ) → t ≤ℤ pos 0 → pos 0 ≤ℤ t → t ≡ pos 0
        none_of t h k = omega (arith, ints, h, k)

    -- what is under just after the first place is under just before the second
    pub kept : IsAfter a' b' (lean n q) → IsBefore a' b' (lean n r)
    kept = travel a' b' (lean n q) (lean n r) hq hr later no_meeting

  -- ---- a whole status
  -- each member leads forward and reaches from the one place to the other; no two of them cross strictly between
  pub record IsStatusBetween (status : List Segment) : Type 0 where
    pub fit : (i : ℕ) (d : Segment) → i < length status → IsFit n (get_or status i d)
    pub reach : (i : ℕ) (d : Segment) → i < length status → Reaches n (get_or status i d) q r
    pub apart : (i j : ℕ) (d : Segment) → i < length status → j < length status → CrossNotBetween n (get_or status i d) (get_or status j d) q r

  -- the order is kept
  pub order_kept : (status : List Segment) → IsStatusBetween status → AllPairs (λ a b. IsAfter (lean_segment n a) (lean_segment n b) (lean n q)) status
      → AllPairs (λ a b. IsBefore (lean_segment n a) (lean_segment n b) (lean n r)) status
  order_kept status is h i j d l m =
      kept (get_or status i d) (get_or status j d) (is.fit i d (omega arith)) (is.fit j d m) (is.reach i d (omega arith)) (is.reach j d m) (is.apart i j d (omega arith) m) (is.apart j i d m (omega arith)) (h i j d l m)

-- ---- at the next place
-- heights h and k over lines of widths d and e, one under the other
not_over : (h k d e g : ℤ) → pos 0 <ℤ d → pos 0 <ℤ e → (h *ℤ e) -ℤ (k *ℤ d) ≡ g → pos 0 ≤ℤ g → h ≡ pos 0 → k ≤ℤ pos 0
not_over h k d e g hd he form more none =
    by_lt_z (pos 0) k
    (λ l. absurd (omega (arith, ints, form, more, ap (λ z. z *ℤ e) none, zero-*ℤ e, mul_pos k d l hd)))
    (λ l. l)

not_under : (h k d e g : ℤ) → pos 0 <ℤ d → pos 0 <ℤ e → (h *ℤ e) -ℤ (k *ℤ d) ≡ g → pos 0 ≤ℤ g → k ≡ pos 0 → pos 0 ≤ℤ h
not_under h k d e g hd he form more none =
    by_lt_z h (pos 0)
    (λ l. absurd (omega (arith, ints, form, more, ap (λ z. z *ℤ d) none, zero-*ℤ d, negative_times h e l he)))
    (λ l. l)

pub gap_most : (a b : Segment) (r : Point) → IsBefore a b r → pos 0 ≤ℤ gap a b r
gap_most a b r (inl h) = omega (arith, ints, h)
gap_most a b r (inr (e, h)) = omega (arith, ints, e)

-- of two members of an ordered status that hold a place, the one after the lower holds it too
pub neighbour_holds : (view : Segment → Segment) (status : List Segment) (r : Point) → ((i : ℕ) (d : Segment) → i < length status → pos 0 <ℤ width (view (get_or status i d))) → AllPairs (λ a b. IsBefore (view a) (view b) r) status
    → (i j : ℕ) (d : Segment) → i < j → j < length status → height_over (view (get_or status i d)) r ≡ pos 0 → height_over (view (get_or status j d)) r ≡ pos 0 → height_over (view (get_or status (i + 1) d)) r ≡ pos 0
neighbour_holds view status r wide order i j d l m low high =
    by_order (i + 1) j
    (λ k. let a : Segment = view (get_or status i d) in
    let b : Segment = view (get_or status (i + 1) d) in
    let c : Segment = view (get_or status j d) in
    let up : height_over b r ≤ℤ pos 0 = not_over (height_over a r) (height_over b r) (width a) (width b) (gap a b r) (wide i d (omega arith)) (wide (i + 1) d (omega arith)) (heights_give_gap a b r) (gap_most a b r (order i (i + 1) d (omega arith) (omega arith))) low in
    let down : pos 0 ≤ℤ height_over b r = not_under (height_over b r) (height_over c r) (width b) (width c) (gap b c r) (wide (i + 1) d (omega arith)) (wide j d m) (heights_give_gap b c r) (gap_most b c r (order (i + 1) j d k m)) high in
    both (height_over b r) up down)
    (λ k. ap (λ t. height_over (view (get_or status t d)) r) (omega arith) ∙ high)
  where
    both : (z : ℤ) → z ≤ℤ pos 0 → pos 0 ≤ℤ z → z ≡ pos 0
    both z h k = omega (arith, ints, h, k)

    by_order : {P : Type 0} (a b : ℕ) → (a < b → P) → (b < a + 1 → P) → P
    by_order {P} a b f g = by_cases (order_of a b)
      where
        order_of : (a b : ℕ) → (a < b) ⊎ (b < a + 1)
        order_of zero zero = inr (omega arith)
        order_of zero (suc b) = inl (omega arith)
        order_of (suc a) zero = inr (omega arith)
        order_of (suc a) (suc b) = up (order_of a b)
          where
            up : (a < b) ⊎ (b < a + 1) → (suc a < suc b) ⊎ (suc b < suc a + 1)
            up (inl h) = inl (omega arith)
            up (inr h) = inr (omega arith)

        by_cases : (a < b) ⊎ (b < a + 1) → P
        by_cases (inl h) = f h
        by_cases (inr h) = g h
