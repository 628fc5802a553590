-- Of an upright piece: what is below its middle is what passes over its x at its lower end or under it.
use Rattle.std.specs.Prelude.{◌≡◌, ℕ, ℤ, pos, ◌==◌, ◌+ℤ◌, ◌-ℤ◌, ◌*ℤ◌, ◌<ℤ◌, ◌≤ℤ◌, neg_ℤ, int_le, int_lt, Bool, true, false, ◌&&◌, IsTrue, Contains}
use Rattle.std.specs.Cmp.{int_cmp_is}
use Rattle.std.specs.Ordering.{ordering_then, int_cmp}
use Rattle.std.specs.declared.cmp.Ordering.TheVariants.{Less, Equal}
use Rattle.std.proofs.Common.{inl, inr, ap, sym, ◌∙◌, arith}
use Rattle.std.proofs.lemmas.Int.{ints, by_lt_z}
use Rattle.std.proofs.lemmas.Bool.{not-true, both_ways, false_from_ne_true}
use Rattle.std.proofs.lemmas.List.Elements.{All-weaker}
use Rattle.std.proofs.Math.IntN.{zero-*ℤ, *ℤ_comm}
use Rattle.overlay_terms.specs.Plane.{Point, Segment, whole, point_cmp, height_over, is_below, is_on}
use Rattle.overlay_terms.specs.Layers.{Marked}
use Rattle.overlay_terms.specs.Tiles.{Input, IsPiece, midpoint, below_bits, is_parallel, is_vertical}
use Rattle.overlay_terms.proofs.Difference.{split, whole_is, differences, same, diff-neg, mul_pos}
use Rattle.overlay_terms.proofs.InputNumbers.{last_turned, most_times, less_times, most_back, less_back, le_true, lt_true, true_le, true_lt, false_eq, middle_positive}
use Rattle.overlay_terms.proofs.Tests.{same_tests, same_behind}
use Rattle.overlay_terms.proofs.Whole.{less_by, no_product, negated_more}
use Rattle.exact_point.proofs.Lexical.{Forward, forward}
use Rattle.tile_laws.proofs.JustRight.{is_over_x, bits_where}
use Rattle.tile_laws.proofs.Statements.{segments_in}
use Rattle.tile_laws.proofs.UnderLemmas.{IsOverX, over_x_told, over_wide}
use Rattle.tile_laws.proofs.SideMeeting.{on_from_level, over_least, over_most}
use Rattle.tile_laws.proofs.SideUpright.{upright_level}
use Rattle.tile_laws.proofs.SideMidpoint.{height_of_mean, as_form}
use Rattle.tile_laws.proofs.SideBits.{all_in_map, bits_agree}
use Rattle.exact_point.proofs.Lines.{width, rise, base, place_over, over_on_line}
use Rattle.exact_point.proofs.OnLine.{between_on, on_line}
use Rattle.exact_point.proofs.PlaceOrder.{level_from, level_test, not_after_less}
use Rattle.exact_point.proofs.Signs.{negative_times, not_negative_times, zero_factor}
use Rattle.exact_point.proofs.ByX.{at_most_through}
use Rattle.exact_point.proofs.Nodes.{crossing_is_node}

-- the line of a segment does not pass over a place: it is at the place or under it
abbrev pub is_not_over : Segment → Point → Bool
is_not_over t q = int_le (pos 0) (height_over t q)

-- ---- over opaque numbers
-- the height of one place over a line, by that of another: d and e are the width and the rise, b where it begins
pub height_moves : (d e b x y w u v z : ℤ) → ((d *ℤ v) -ℤ ((e *ℤ u) +ℤ (b *ℤ z))) *ℤ w ≡ ((((d *ℤ y) -ℤ ((e *ℤ x) +ℤ (b *ℤ w))) *ℤ z) +ℤ (d *ℤ ((v *ℤ w) -ℤ (y *ℤ z)))) -ℤ (e *ℤ ((u *ℤ w) -ℤ (x *ℤ z)))
height_moves d e b x y w u v z = rw (split d, split e, split b, split x, split y, split w, split u, split v, split z) (simp differences (same _ _ _ _ (omega arith)))

-- a place of the line over the x, above one place
rise_from : (d e b x y w : ℤ) → (((e *ℤ x) +ℤ (b *ℤ w)) *ℤ w) -ℤ (y *ℤ (w *ℤ d)) ≡ neg_ℤ (((d *ℤ y) -ℤ ((e *ℤ x) +ℤ (b *ℤ w))) *ℤ w)
rise_from d e b x y w = rw (split d, split e, split b, split x, split y, split w) (simp (diff-neg, differences) (same _ _ _ _ (omega arith)))

-- and below another
rise_to : (d e b x w u v z : ℤ) → (v *ℤ (w *ℤ d)) -ℤ (((e *ℤ x) +ℤ (b *ℤ w)) *ℤ z) ≡ (((d *ℤ v) -ℤ ((e *ℤ u) +ℤ (b *ℤ z))) *ℤ w) +ℤ (e *ℤ ((u *ℤ w) -ℤ (x *ℤ z)))
rise_to d e b x w u v z = rw (split d, split e, split b, split x, split w, split u, split v, split z) (simp differences (same _ _ _ _ (omega arith)))

-- over the same x
same_across : (x w d : ℤ) → (x *ℤ d) *ℤ w ≡ x *ℤ (w *ℤ d)
same_across x w d = rw (split x, split w, split d) (simp differences (same _ _ _ _ (omega arith)))

across_other : (x w d u z : ℤ) → u *ℤ w ≡ x *ℤ z → u *ℤ (w *ℤ d) ≡ (x *ℤ d) *ℤ z
across_other x w d u z e = first u w d ∙ ap (λ n. n *ℤ d) e ∙ last_turned x z d
  where
    first : (u w d : ℤ) → u *ℤ (w *ℤ d) ≡ (u *ℤ w) *ℤ d
    first u w d = rw (split u, split w, split d) (simp differences (same _ _ _ _ (omega arith)))

-- a place over the x of another and above it comes after it
pub below_less : (p q : Point) → p.x *ℤ q.w ≡ q.x *ℤ p.w → (p.y *ℤ q.w) <ℤ (q.y *ℤ p.w) → point_cmp p q ≡ Less
below_less p q e h =
    ap (λ o. ordering_then o (int_cmp (p.y *ℤ q.w) (q.y *ℤ p.w))) (sym (int_cmp_is (p.x *ℤ q.w) (q.x *ℤ p.w) Equal e))
    ∙ sym (int_cmp_is (p.y *ℤ q.w) (q.y *ℤ p.w) Less h)

-- an upright segment is not parallel to one that is not
pub upright_crosses : (s t : Segment) → width s ≡ pos 0 → pos 0 <ℤ rise s → is_vertical t ≡ false → is_parallel s t ≡ false
upright_crosses s t none up slanted =
    false_from_ne_true (is_parallel s t) (λ h. both_ways (is_vertical t) slanted (level_test t.left.x t.right.x (flat (width s) (rise s) (rise t) none up (level_from _ _ h))))
  where
    flat : (a b d : ℤ) → a ≡ pos 0 → pos 0 <ℤ b → a *ℤ d ≡ b *ℤ width t → t.left.x ≡ t.right.x
    flat a b d none up e =
        let zero : width t ≡ pos 0 = zero_factor (width t) b up (*ℤ_comm (width t) b ∙ sym e ∙ ap (λ z. z *ℤ d) none ∙ zero-*ℤ d) in
        omega (arith, ints)

-- ---- a segment over a whole x
-- a segment passes over the x of a place where it passes over the whole number that this x is
pub over_by_whole : (t : Segment) (q : Point) (l : ℤ) → pos 0 <ℤ q.w → q.x ≡ l *ℤ q.w → is_over_x t q ≡ (int_le t.left.x l && int_lt l t.right.x)
over_by_whole t q l hq e =
    ap (λ x. int_le (t.left.x *ℤ q.w) x && int_lt x (t.right.x *ℤ q.w)) e
    ∙ ap (λ b. b && int_lt (l *ℤ q.w) (t.right.x *ℤ q.w)) (same_tests _ _ (λ h. true_le t.left.x l (most_back t.left.x l q.w hq (le_true _ _ h))) (λ h. true_le _ _ (most_times t.left.x l q.w hq (le_true t.left.x l h))))
    ∙ ap (λ b. int_le t.left.x l && b) (same_tests _ _ (λ h. true_lt l t.right.x (less_back l t.right.x q.w hq (lt_true _ _ h))) (λ h. true_lt _ _ (less_times l t.right.x q.w hq (lt_true l t.right.x h))))

-- the x of the middle of two places over a whole x
middle_x : (l w v : ℤ) → ((l *ℤ w) *ℤ v) +ℤ ((l *ℤ v) *ℤ w) ≡ l *ℤ (pos 2 *ℤ (w *ℤ v))
middle_x l w v = rw (split l, split w, split v, whole_is 2) (simp differences (same _ _ _ _ (omega arith)))

-- the x of a place on an upright segment
upright_x : (d e x y : ℤ) → d ≡ pos 0 → pos 0 <ℤ e → (d *ℤ y) -ℤ (e *ℤ x) ≡ pos 0 → x ≡ pos 0
upright_x d e x y none up h = zero_factor x e up (*ℤ_comm x e ∙ flat (d *ℤ y) (e *ℤ x) h (ap (λ z. z *ℤ y) none ∙ zero-*ℤ y))
  where
    flat : (a b : ℤ) → a -ℤ b ≡ pos 0 → a ≡ pos 0 → b ≡ pos 0
    flat a b h k = omega (arith, ints)

-- a place on an upright line is over the x of its left end
pub x_on : (s : Segment) (q : Point) → width s ≡ pos 0 → pos 0 <ℤ rise s → height_over s q ≡ pos 0 → q.x ≡ s.left.x *ℤ q.w
x_on s q none up h = level q.x (s.left.x *ℤ q.w) (upright_x (width s) (rise s) (q.x -ℤ (s.left.x *ℤ q.w)) (q.y -ℤ (s.left.y *ℤ q.w)) none up h)
  where
    level : (a b : ℤ) → a -ℤ b ≡ pos 0 → a ≡ b
    level a b e = omega (arith, ints)

module _ (input : Input) (p r : Point) (piece : IsPiece (segments_in input) p r) (none : width piece.support ≡ pos 0) (up : pos 0 <ℤ rise piece.support) where
  abbrev s : Segment
  s = piece.support

  abbrev l : ℤ
  l = s.left.x

  pub from_x : p.x ≡ l *ℤ p.w
  from_x = x_on s p none up (on_line s p piece.from_on)

  pub to_x : r.x ≡ l *ℤ r.w
  to_x = x_on s r none up (on_line s r piece.to_on)

  -- both ends and the middle have one x
  one_x : r.x *ℤ p.w ≡ p.x *ℤ r.w
  one_x = ap (λ z. z *ℤ p.w) to_x ∙ last_turned l r.w p.w ∙ ap (λ z. z *ℤ r.w) (sym from_x)

  pub mid_x : (midpoint p r).x ≡ l *ℤ (midpoint p r).w
  mid_x = ap (λ z. (z *ℤ r.w) +ℤ (r.x *ℤ p.w)) from_x ∙ ap (λ z. ((l *ℤ p.w) *ℤ r.w) +ℤ (z *ℤ p.w)) to_x ∙ middle_x l p.w r.w

  pub mid_positive : pos 0 <ℤ (midpoint p r).w
  mid_positive = middle_positive p r piece.from_positive piece.to_positive

  -- the right end stands above the left one
  pub above : pos 0 <ℤ ((r.y *ℤ p.w) -ℤ (p.y *ℤ r.w))
  above = by (forward (p.x *ℤ r.w) (r.x *ℤ p.w) (p.y *ℤ r.w) (r.y *ℤ p.w) piece.in_order) where
    by : Forward ((r.x *ℤ p.w) -ℤ (p.x *ℤ r.w)) ((r.y *ℤ p.w) -ℤ (p.y *ℤ r.w)) → pos 0 <ℤ ((r.y *ℤ p.w) -ℤ (p.y *ℤ r.w))
    by (inl h) = absurd (omega (arith, ints, h, one_x))
    by (inr h) = h.1

  module _ (t : Segment) (among : Contains (segments_in input) t) (over : is_over_x t p ≡ true) where
    wide : pos 0 <ℤ width t
    wide = over_wide p piece.from_positive t over

    -- the heights of both ends and the middle over its line
    abbrev low : ℤ
    low = height_over t p

    abbrev high : ℤ
    high = height_over t r

    high_is : high *ℤ p.w ≡ (low *ℤ r.w) +ℤ (width t *ℤ ((r.y *ℤ p.w) -ℤ (p.y *ℤ r.w)))
    high_is =
        ap (λ z. z *ℤ p.w) (as_form t r)
        ∙ height_moves (width t) (rise t) (base t) p.x p.y p.w r.x r.y r.w
        ∙ ap (λ z. ((z *ℤ r.w) +ℤ (width t *ℤ ((r.y *ℤ p.w) -ℤ (p.y *ℤ r.w)))) -ℤ (rise t *ℤ ((r.x *ℤ p.w) -ℤ (p.x *ℤ r.w)))) (sym (as_form t p))
        ∙ less_none ((low *ℤ r.w) +ℤ (width t *ℤ ((r.y *ℤ p.w) -ℤ (p.y *ℤ r.w)))) (rise t *ℤ ((r.x *ℤ p.w) -ℤ (p.x *ℤ r.w))) (no_product (rise t) (r.x *ℤ p.w) (p.x *ℤ r.w) one_x)
      where
        less_none : (a b : ℤ) → b ≡ pos 0 → a -ℤ b ≡ a
        less_none a b h = omega (arith, ints)

    middle_is : height_over t (midpoint p r) ≡ (low *ℤ r.w) +ℤ (high *ℤ p.w)
    middle_is =
        as_form t (midpoint p r) ∙ height_of_mean (width t) (rise t) (base t) p.x p.y p.w r.x r.y r.w
        ∙ ap (λ z. (z *ℤ r.w) +ℤ (((width t *ℤ r.y) -ℤ ((rise t *ℤ r.x) +ℤ (base t *ℤ r.w))) *ℤ p.w)) (sym (as_form t p))
        ∙ ap (λ z. (low *ℤ r.w) +ℤ (z *ℤ p.w)) (sym (as_form t r))

    -- where it does not pass over the lower end, it is below the middle
    not_over_below : pos 0 ≤ℤ low → pos 0 <ℤ height_over t (midpoint p r)
    not_over_below h =
        more (low *ℤ r.w) (width t *ℤ ((r.y *ℤ p.w) -ℤ (p.y *ℤ r.w))) (high *ℤ p.w) (height_over t (midpoint p r)) (not_negative_times low r.w h piece.to_positive)
        (mul_pos (width t) ((r.y *ℤ p.w) -ℤ (p.y *ℤ r.w)) wide above) high_is middle_is
      where
        more : (a b c m : ℤ) → pos 0 ≤ℤ a → pos 0 <ℤ b → c ≡ a +ℤ b → m ≡ a +ℤ c → pos 0 <ℤ m
        more a b c m ha hb e f = omega (arith, ints)

    -- the place of its line over the x of the piece
    abbrev z : Point
    z = place_over t p.x p.w

    z_positive : pos 0 <ℤ (p.w *ℤ width t)
    z_positive = mul_pos p.w (width t) piece.from_positive wide

    z_from : low <ℤ pos 0 → point_cmp p z ≡ Less
    z_from h =
        below_less p z (sym (same_across p.x p.w (width t)))
        (less_by (p.y *ℤ (p.w *ℤ width t)) (((rise t *ℤ p.x) +ℤ (base t *ℤ p.w)) *ℤ p.w)
        (negated_more ((((rise t *ℤ p.x) +ℤ (base t *ℤ p.w)) *ℤ p.w) -ℤ (p.y *ℤ (p.w *ℤ width t))) (((width t *ℤ p.y) -ℤ ((rise t *ℤ p.x) +ℤ (base t *ℤ p.w))) *ℤ p.w) (rise_from (width t) (rise t) (base t) p.x p.y p.w)
        (negative_times ((width t *ℤ p.y) -ℤ ((rise t *ℤ p.x) +ℤ (base t *ℤ p.w))) p.w (carried low _ (as_form t p) h) piece.from_positive)))
      where
        carried : (a b : ℤ) → a ≡ b → a <ℤ pos 0 → b <ℤ pos 0
        carried a b e k = omega (arith, ints)

    z_to : pos 0 <ℤ (high *ℤ p.w) → point_cmp z r ≡ Less
    z_to h =
        below_less z r (sym (across_other p.x p.w (width t) r.x r.w one_x))
        (less_by (((rise t *ℤ p.x) +ℤ (base t *ℤ p.w)) *ℤ r.w) (r.y *ℤ (p.w *ℤ width t))
        (summed ((r.y *ℤ (p.w *ℤ width t)) -ℤ (((rise t *ℤ p.x) +ℤ (base t *ℤ p.w)) *ℤ r.w)) (((width t *ℤ r.y) -ℤ ((rise t *ℤ r.x) +ℤ (base t *ℤ r.w))) *ℤ p.w) (rise t *ℤ ((r.x *ℤ p.w) -ℤ (p.x *ℤ r.w))) (high *ℤ p.w)
        (rise_to (width t) (rise t) (base t) p.x p.w r.x r.y r.w) (ap (λ n. n *ℤ p.w) (sym (as_form t r))) (no_product (rise t) (r.x *ℤ p.w) (p.x *ℤ r.w) one_x) h))
      where
        summed : (a b c g : ℤ) → a ≡ b +ℤ c → b ≡ g → c ≡ pos 0 → pos 0 <ℤ g → pos 0 <ℤ a
        summed a b c g e f k h = omega (arith, ints)

    -- the line does not cross the piece strictly inside: that would be a node
    not_across : low <ℤ pos 0 → pos 0 <ℤ (high *ℤ p.w) → ⊥
    not_across h k =
        let told : IsOverX t p = over_x_told t p over in
        let flat : height_over s z ≡ pos 0 = upright_level (width s) (rise s) (z.x -ℤ (s.left.x *ℤ z.w)) (z.y -ℤ (s.left.y *ℤ z.w)) none (level z.x (s.left.x *ℤ z.w) (ap (λ x. x *ℤ width t) from_x ∙ regrouped l p.w (width t))) in
        let on_s : IsTrue (is_on s z) =
        between_on s p z r piece.from_positive z_positive piece.to_positive piece.from_on piece.to_on flat (not_after_less p z piece.from_positive z_positive (z_from h)) (not_after_less z r z_positive piece.to_positive (z_to k)) in
        let on_t : IsTrue (is_on t z) =
        on_from_level t z wide (over_on_line t p.x p.w)
        (at_most_through (whole t.left) p z one piece.from_positive z_positive (begin (t.left.x *ℤ p.w) p.x told.from_left) (over_least t p))
        (at_most_through z p (whole t.right) z_positive piece.from_positive one (over_most t p) (close (t.right.x *ℤ p.w) p.x told.before_right)) in
        piece.none_between z z_positive on_s (z_from h) (z_to k)
        (crossing_is_node (segments_in input) s t z piece.among among on_s on_t (upright_crosses s t none up (not-true _ (false_eq t.left.x t.right.x (less_by t.left.x t.right.x wide)))))
      where
        one : pos 0 <ℤ pos 1
        one = omega (arith, ints)

        level : (a b : ℤ) → a ≡ b → a -ℤ b ≡ pos 0
        level a b e = omega (arith, ints)

        regrouped : (l w d : ℤ) → (l *ℤ w) *ℤ d ≡ l *ℤ (w *ℤ d)
        regrouped l w d = rw (split l, split w, split d) (simp differences (same _ _ _ _ (omega arith)))

        begin : (a x : ℤ) → a ≤ℤ x → a ≤ℤ (x *ℤ pos 1)
        begin a x e = omega (arith, ints)

        close : (a x : ℤ) → x <ℤ a → (x *ℤ pos 1) ≤ℤ a
        close a x e = omega (arith, ints)

    -- where it is below the middle, it does not pass over the lower end
    below_not_over : pos 0 <ℤ height_over t (midpoint p r) → pos 0 ≤ℤ low
    below_not_over h =
        by_lt_z low (pos 0)
        (λ under. absurd (not_across under (rest (height_over t (midpoint p r)) (low *ℤ r.w) (high *ℤ p.w) middle_is (negative_times low r.w under piece.to_positive) h)))
        (λ k. k)
      where
        rest : (m a b : ℤ) → m ≡ a +ℤ b → a <ℤ pos 0 → pos 0 <ℤ m → pos 0 <ℤ b
        rest m a b e ha hm = omega (arith, ints)

    -- so both tests are one
    one_test : int_lt (pos 0) (height_over t (midpoint p r)) ≡ is_not_over t p
    one_test = same_tests _ _ (λ h. true_le (pos 0) low (below_not_over (lt_true (pos 0) (height_over t (midpoint p r)) h))) (λ h. true_lt (pos 0) (height_over t (midpoint p r)) (not_over_below (le_true (pos 0) low h)))

  -- a segment is below the middle where it passes over the x, not over the lower end
  below_there : (t : Segment) → Contains (segments_in input) t → is_below t (midpoint p r) ≡ (is_over_x t p && is_not_over t p)
  below_there t among =
      ap (λ b. b && int_lt (pos 0) (height_over t (midpoint p r))) (over_by_whole t (midpoint p r) l mid_positive mid_x ∙ sym (over_by_whole t p l piece.from_positive from_x))
      ∙ same_behind (is_over_x t p) (int_lt (pos 0) (height_over t (midpoint p r))) (is_not_over t p) (one_test t among)

  -- so the bits are one
  pub upright_sides : (k : ℕ) → below_bits input.marked (midpoint p r) k ≡ bits_where (λ t. is_not_over t p) input.marked p k
  upright_sides k =
      bits_agree (λ m. (m.layer == k) && is_below m.segment (midpoint p r)) (λ m. (m.layer == k) && (is_over_x m.segment p && is_not_over m.segment p)) input.marked
      (All-weaker (λ (m : Marked). Contains (segments_in input) m.segment) (λ m. ((m.layer == k) && is_below m.segment (midpoint p r)) ≡ ((m.layer == k) && (is_over_x m.segment p && is_not_over m.segment p)))
      (λ m among. ap (λ b. (m.layer == k) && b) (below_there m.segment among)) input.marked (all_in_map (λ m. m.segment) input.marked))
