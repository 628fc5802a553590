-- A ray to the left gives the parity of a base layer at a point off its edges: below and left of the point, both tests differ by the ends there.
use Rattle.std.specs.Prelude.{◌≡◌, ℕ, zero, suc, ℤ, pos, ◌<◌, ◌%◌, ◌==◌, ◌-ℤ◌, ◌*ℤ◌, ◌<ℤ◌, ◌≤ℤ◌, int_le, int_lt, Bool, true, false, not, ◌&&◌, ◌||◌, List, [], ◌∷◌, map, get_or, length, All, Contains}
use Rattle.std.specs.List.{list_any}
use Rattle.std.proofs.Common.{inl, inr, refl, ap, sym, subst, ◌∙◌, arith}
use Rattle.std.proofs.lemmas.Int.{ints, by_lt_z}
use Rattle.std.proofs.lemmas.Bool.{both_ways, false≢true, false_from_ne_true}
use Rattle.std.proofs.lemmas.List.{append-nil}
use Rattle.std.proofs.lemmas.List.Elements.{All-nil, All-cons}
use Rattle.std.proofs.Math.IntN.{zero-*ℤ, *ℤ_comm}
use Rattle.overlay_terms.specs.Plane.{WholePoint, Point, Segment, segments_of, height_over, is_below, is_on}
use Rattle.overlay_terms.specs.Layers.{Marked}
use Rattle.overlay_terms.specs.TileLaws.{AreClosed}
use Rattle.overlay_terms.specs.InputLaws.{IsRing}
use Rattle.overlay_terms.proofs.Difference.{split, whole_is, differences, same, mul_pos}
use Rattle.overlay_terms.proofs.InputNumbers.{le_true, lt_true, true_le, true_lt}
use Rattle.overlay_terms.proofs.InputLists.{any_from_Contains}
use Rattle.overlay_terms.proofs.ClosedLayers.{layers_are_closed, count-map}
use Rattle.exact_point.proofs.Lexical.{Forward}
use Rattle.exact_point.proofs.OnSegment.{leads, is_reached}
use Rattle.tile_laws.specs.Rays.{is_left_of, RayLaw}
use Rattle.tile_laws.proofs.EvenRegion.{differ}
use Rattle.tile_laws.proofs.SideMeeting.{on_from_level}
use Rattle.tile_laws.proofs.EndCounts.{IsEven, count_alike_by_ends}
use Rattle.tile_laws.proofs.LeftSide.{from_right}
use Rattle.exact_point.proofs.Lines.{width, rise}
use Rattle.exact_point.proofs.Signs.{negative_times, not_negative_times, not_positive_times}

-- ---- over tests: an end up to the point by x, by y; the point above the line, under it
twice : (p : Bool) → differ p (differ p false) ≡ false
twice true = refl
twice false = refl

one_of_two : (p n : Bool) → (p ≡ true → n ≡ false) → (p ≡ false → n ≡ true) → differ p (differ (n || false) true) ≡ false
one_of_two true n h k = rw (h refl) refl
one_of_two false n h k = rw (k refl) refl

record Signs (al ar bl br p n : Bool) : Type 0 where
  pub in_order : ar ≡ true → al ≡ true
  pub not_both : p ≡ true → n ≡ false
  pub right_rising : ar ≡ true → bl ≡ true → br ≡ false → n ≡ true
  pub right_falling : ar ≡ true → bl ≡ false → br ≡ true → p ≡ true
  pub left_rising : al ≡ false → bl ≡ true → br ≡ false → n ≡ false
  pub left_falling : al ≡ false → bl ≡ false → br ≡ true → p ≡ false
  pub across_low : al ≡ true → ar ≡ false → bl ≡ true → br ≡ true → p ≡ true
  pub across_high : al ≡ true → ar ≡ false → bl ≡ false → br ≡ false → p ≡ false
  pub across : al ≡ true → ar ≡ false → p ≡ false → n ≡ true

ray_signs : (al ar bl br p n : Bool) → Signs al ar bl br p n → differ ((al && not ar) && p) (differ (((bl && not br) && n) || ((br && not bl) && p)) (differ (al && bl) (ar && br))) ≡ false
ray_signs true true true true p n h = refl
ray_signs true true true false p n h = rw (h.right_rising refl refl refl) refl
ray_signs true true false true p n h = rw (h.right_falling refl refl refl) refl
ray_signs true true false false p n h = refl
ray_signs true false true true p n h = rw (h.across_low refl refl refl refl) refl
ray_signs true false true false p n h = one_of_two p n h.not_both (h.across refl refl)
ray_signs true false false true p n h = twice p
ray_signs true false false false p n h = rw (h.across_high refl refl refl refl) refl
ray_signs false true bl br p n h = absurd (false≢true (h.in_order refl))
ray_signs false false true true p n h = refl
ray_signs false false true false p n h = rw (h.left_rising refl refl refl) refl
ray_signs false false false true p n h = rw (h.left_falling refl refl refl) refl
ray_signs false false false false p n h = refl

-- ---- over opaque numbers: d and e are the width and the rise, u and v how far the point lies from the left end, x and y from the right end
turned_negative : (a b : ℤ) → pos 0 <ℤ b → a <ℤ pos 0 → (b *ℤ a) <ℤ pos 0
turned_negative a b h k = omega (arith, ints, *ℤ_comm a b, negative_times a b k h)

both_negative : (a b : ℤ) → a <ℤ pos 0 → b <ℤ pos 0 → pos 0 <ℤ (a *ℤ b)
both_negative a b h k = by (mul_pos (pos 0 -ℤ a) (pos 0 -ℤ b) (up a h) (up b k))
  where
    up : (a : ℤ) → a <ℤ pos 0 → pos 0 <ℤ (pos 0 -ℤ a)
    up a h = omega (arith, ints)

    turned : (a b : ℤ) → (pos 0 -ℤ a) *ℤ (pos 0 -ℤ b) ≡ a *ℤ b
    turned a b = rw (split a, split b, whole_is 0) (simp differences (same _ _ _ _ (omega arith)))

    by : pos 0 <ℤ ((pos 0 -ℤ a) *ℤ (pos 0 -ℤ b)) → pos 0 <ℤ (a *ℤ b)
    by h = omega (arith, ints, h, turned a b)

-- a product of a number that is not negative and one that is not positive, or not negative either
high_low : (a b : ℤ) → pos 0 ≤ℤ a → b ≤ℤ pos 0 → (a *ℤ b) ≤ℤ pos 0
high_low a b h k =
    by_lt_z (pos 0) a (λ l. turned (not_positive_times b a k l)) (λ l. none_left a b (flat a l h))
  where
    turned : (b *ℤ a) ≤ℤ pos 0 → (a *ℤ b) ≤ℤ pos 0
    turned h = omega (arith, ints, h, *ℤ_comm a b)

    flat : (z : ℤ) → z ≤ℤ pos 0 → pos 0 ≤ℤ z → z ≡ pos 0
    flat z h k = omega (arith, ints)

    none_left : (a b : ℤ) → a ≡ pos 0 → (a *ℤ b) ≤ℤ pos 0
    none_left a b e = omega (arith, ints, ap (λ z. z *ℤ b) e, zero-*ℤ b)

high_high : (a b : ℤ) → pos 0 ≤ℤ a → pos 0 ≤ℤ b → pos 0 ≤ℤ (a *ℤ b)
high_high a b h k = by_lt_z (pos 0) b (λ l. not_negative_times a b h l) (λ l. none_right a b (flat b l k))
  where
    flat : (z : ℤ) → z ≤ℤ pos 0 → pos 0 ≤ℤ z → z ≡ pos 0
    flat z h k = omega (arith, ints)

    none_right : (a b : ℤ) → b ≡ pos 0 → pos 0 ≤ℤ (a *ℤ b)
    none_right a b e = omega (arith, ints, ap (λ z. a *ℤ z) e, *ℤ_comm a (pos 0), zero-*ℤ a)

module _ (d e u v x y w h : ℤ) (hw : pos 0 <ℤ w) (left_form : h ≡ (d *ℤ v) -ℤ (e *ℤ u)) (right_form : h ≡ (d *ℤ y) -ℤ (e *ℤ x)) (up_way : v -ℤ y ≡ e *ℤ w) (across_way : u -ℤ x ≡ d *ℤ w) (ahead : Forward d e) where
  not_back : pos 0 ≤ℤ d
  not_back = by ahead where
    by : Forward d e → pos 0 ≤ℤ d
    by (inl k) = omega (arith, ints, k)
    by (inr k) = omega (arith, ints, k.0)

  rises : pos 0 ≤ℤ v → y <ℤ pos 0 → pos 0 <ℤ e
  rises k l = by_lt_z (pos 0) e (λ m. m) (λ m. absurd (omega (arith, ints, k, l, up_way, not_positive_times e w m hw)))

  sinks : v <ℤ pos 0 → pos 0 ≤ℤ y → e <ℤ pos 0
  sinks k l = by_lt_z e (pos 0) (λ m. m) (λ m. absurd (omega (arith, ints, k, l, up_way, not_negative_times e w m hw)))

  goes_on : pos 0 ≤ℤ u → x <ℤ pos 0 → pos 0 <ℤ d
  goes_on k l = by_lt_z (pos 0) d (λ m. m) (λ m. absurd (omega (arith, ints, k, l, across_way, not_positive_times d w m hw)))

  sinking_wide : e <ℤ pos 0 → pos 0 <ℤ d
  sinking_wide k = by ahead where
    by : Forward d e → pos 0 <ℤ d
    by (inl l) = l
    by (inr l) = absurd (omega (arith, ints, k, l.1))

  -- right of both ends, between them by y
  right_rising : pos 0 ≤ℤ x → pos 0 ≤ℤ v → y <ℤ pos 0 → (d ≡ pos 0 → x ≡ pos 0 → ⊥) → h <ℤ pos 0
  right_rising hx hv hy off = by ahead where
    up : pos 0 <ℤ e
    up = rises hv hy

    weak : pos 0 ≤ℤ e
    weak = omega (arith, ints, up)

    upright : d ≡ pos 0 → h <ℤ pos 0
    upright none =
        by_lt_z (pos 0) x
        (λ k. omega (arith, ints, right_form, ap (λ z. z *ℤ y) none, zero-*ℤ y, mul_pos e x up k))
        (λ k. absurd (off none (omega (arith, ints, k, hx))))

    by : Forward d e → h <ℤ pos 0
    by (inl k) = omega (arith, ints, right_form, turned_negative y d k hy, high_high e x weak hx)
    by (inr k) = upright k.0

  right_falling : pos 0 ≤ℤ x → v <ℤ pos 0 → pos 0 ≤ℤ y → (x ≡ pos 0 → y ≡ pos 0 → ⊥) → pos 0 <ℤ h
  right_falling hx hv hy off =
      by_lt_z (pos 0) y
      (λ k. omega (arith, ints, right_form, mul_pos d y wide k, high_low x e hx weak, *ℤ_comm x e))
      (λ k. by_lt_z (pos 0) x
      (λ l. omega (arith, ints, right_form, high_high d y not_back hy, negative_times e x down l))
      (λ l. absurd (off (omega (arith, ints, l, hx)) (omega (arith, ints, k, hy)))))
    where
      down : e <ℤ pos 0
      down = sinks hv hy

      weak : e ≤ℤ pos 0
      weak = omega (arith, ints, down)

      wide : pos 0 <ℤ d
      wide = sinking_wide down

  left_rising : u <ℤ pos 0 → pos 0 ≤ℤ v → y <ℤ pos 0 → pos 0 <ℤ h
  left_rising hu hv hy = omega (arith, ints, left_form, high_high d v not_back hv, turned_negative u e (rises hv hy) hu)

  left_falling : u <ℤ pos 0 → v <ℤ pos 0 → pos 0 ≤ℤ y → h <ℤ pos 0
  left_falling hu hv hy = omega (arith, ints, left_form, turned_negative v d (sinking_wide (sinks hv hy)) hv, both_negative e u (sinks hv hy) hu)

  -- over the x, above both ends by y, or below both
  across_low : pos 0 ≤ℤ u → x <ℤ pos 0 → pos 0 ≤ℤ v → pos 0 ≤ℤ y → (h ≡ pos 0 → ⊥) → pos 0 <ℤ h
  across_low hu hx hv hy off =
      by_lt_z (pos 0) e
      (λ k. omega (arith, ints, right_form, high_high d y not_back hy, turned_negative x e k hx))
      (λ k. by_lt_z (pos 0) h (λ l. l) (λ l. absurd (off (flat h l (at_least k)))))
    where
      at_least : e ≤ℤ pos 0 → pos 0 ≤ℤ h
      at_least k = omega (arith, ints, left_form, high_high d v not_back hv, high_low u e hu k, *ℤ_comm u e)

      flat : (z : ℤ) → z ≤ℤ pos 0 → pos 0 ≤ℤ z → z ≡ pos 0
      flat z h k = omega (arith, ints)

  across_high : pos 0 ≤ℤ u → x <ℤ pos 0 → v <ℤ pos 0 → y <ℤ pos 0 → h <ℤ pos 0
  across_high hu hx hv hy =
      by_lt_z e (pos 0)
      (λ k. omega (arith, ints, right_form, turned_negative y d wide hy, both_negative e x k hx))
      (λ k. omega (arith, ints, left_form, turned_negative v d wide hv, high_high e u k hu))
    where
      wide : pos 0 <ℤ d
      wide = goes_on hu hx

-- ---- what the tests say
le_far : (a b : ℤ) → int_le a b ≡ true → pos 0 ≤ℤ (b -ℤ a)
le_far a b h = past (le_true a b h)
  where
    past : a ≤ℤ b → pos 0 ≤ℤ (b -ℤ a)
    past k = omega (arith, ints)

not_le_far : (a b : ℤ) → int_le a b ≡ false → (b -ℤ a) <ℤ pos 0
not_le_far a b h = by_lt_z b a (λ k. before k) (λ k. absurd (both_ways (int_le a b) h (true_le a b k)))
  where
    before : b <ℤ a → (b -ℤ a) <ℤ pos 0
    before k = omega (arith, ints)

below_test : (h : ℤ) → h <ℤ pos 0 → int_lt (pos 0) h ≡ false
below_test h k = grind (arith, ints, k)

above_test : (h : ℤ) → pos 0 <ℤ h → int_lt h (pos 0) ≡ false
above_test h k = grind (arith, ints, k)

lt_not : (a b : ℤ) → int_lt a b ≡ not (int_le b a)
lt_not a b = grind (arith, ints)

way : (l r x w : ℤ) → (x -ℤ (l *ℤ w)) -ℤ (x -ℤ (r *ℤ w)) ≡ (r -ℤ l) *ℤ w
way l r x w = rw (split l, split r, split x, split w) (simp differences (same _ _ _ _ (omega arith)))

turned_round : (a b : ℤ) → (a -ℤ b) ≡ pos 0 → (b -ℤ a) ≡ pos 0
turned_round a b h = omega (arith, ints)

turned_positive : (a b : ℤ) → (a -ℤ b) <ℤ pos 0 → pos 0 <ℤ (b -ℤ a)
turned_positive a b h = omega (arith, ints)

least : (a : ℤ) → a ≡ pos 0 → pos 0 ≤ℤ a
least a h = omega (arith, ints)

weaker : (a : ℤ) → pos 0 <ℤ a → pos 0 ≤ℤ a
weaker a h = omega (arith, ints)

-- a segment and a point off it
module _ (p : Point) (hp : pos 0 <ℤ p.w) (t : Segment) (ahead : Forward (width t) (rise t)) (off : is_on t p ≡ false) where
  abbrev h : ℤ
  h = height_over t p

  abbrev u : ℤ
  u = p.x -ℤ (t.left.x *ℤ p.w)

  abbrev v : ℤ
  v = p.y -ℤ (t.left.y *ℤ p.w)

  abbrev x : ℤ
  x = p.x -ℤ (t.right.x *ℤ p.w)

  abbrev y : ℤ
  y = p.y -ℤ (t.right.y *ℤ p.w)

  right_form : height_over t p ≡ (width t *ℤ y) -ℤ (rise t *ℤ x)
  right_form = from_right t.left.x t.left.y t.right.x t.right.y p.x p.y p.w

  up_way : v -ℤ y ≡ rise t *ℤ p.w
  up_way = way t.left.y t.right.y p.y p.w

  across_way : u -ℤ x ≡ width t *ℤ p.w
  across_way = way t.left.x t.right.x p.x p.w

  -- an upright segment through the point
  not_upright : pos 0 ≤ℤ v → y <ℤ pos 0 → width t ≡ pos 0 → x ≡ pos 0 → ⊥
  not_upright hv hy none at =
      both_ways (is_on t p) off
      (is_reached t p (record {
        level = right_form ∙ flat (width t) y (rise t) x none at;
        from_left = inr (same_way u x (width t) p.w across_way none at, hv);
        to_right = inr (turned_round p.x (t.right.x *ℤ p.w) at, weaker ((t.right.y *ℤ p.w) -ℤ p.y) (turned_positive p.y (t.right.y *ℤ p.w) hy));
      }))
    where
      flat : (d y e x : ℤ) → d ≡ pos 0 → x ≡ pos 0 → (d *ℤ y) -ℤ (e *ℤ x) ≡ pos 0
      flat d y e x k l = omega (arith, ints, ap (λ z. z *ℤ y) k, zero-*ℤ y, ap (λ z. e *ℤ z) l, *ℤ_comm e (pos 0), zero-*ℤ e)

      same_way : (u x d w : ℤ) → u -ℤ x ≡ d *ℤ w → d ≡ pos 0 → x ≡ pos 0 → u ≡ pos 0
      same_way u x d w e k l = omega (arith, ints, e, ap (λ z. z *ℤ w) k, zero-*ℤ w, l)

  -- the right end at the point
  not_at_end : pos 0 <ℤ width t → x ≡ pos 0 → y ≡ pos 0 → ⊥
  not_at_end wide at level =
      both_ways (is_on t p) off
      (is_reached t p (record {
        level = right_form ∙ flat (width t) y (rise t) x level at;
        from_left = inl (before u x (width t *ℤ p.w) across_way at (mul_pos (width t) p.w wide hp));
        to_right = inr (turned_round p.x (t.right.x *ℤ p.w) at, least ((t.right.y *ℤ p.w) -ℤ p.y) (turned_round p.y (t.right.y *ℤ p.w) level));
      }))
    where
      flat : (d y e x : ℤ) → y ≡ pos 0 → x ≡ pos 0 → (d *ℤ y) -ℤ (e *ℤ x) ≡ pos 0
      flat d y e x k l = omega (arith, ints, ap (λ z. d *ℤ z) k, *ℤ_comm d (pos 0), zero-*ℤ d, ap (λ z. e *ℤ z) l, *ℤ_comm e (pos 0), zero-*ℤ e)

      before : (u x k : ℤ) → u -ℤ x ≡ k → x ≡ pos 0 → pos 0 <ℤ k → pos 0 <ℤ u
      before u x k e l m = omega (arith, ints)

  -- the line through the point, over its x
  not_level : pos 0 ≤ℤ u → x <ℤ pos 0 → height_over t p ≡ pos 0 → ⊥
  not_level hu hx level =
      both_ways (is_on t p) off
      (on_from_level t p (goes_on (width t) (rise t) u v x y p.w h hp refl right_form up_way across_way ahead hu hx) level (begin (t.left.x *ℤ p.w) p.x hu) (close (t.right.x *ℤ p.w) p.x hx))
    where
      begin : (a b : ℤ) → pos 0 ≤ℤ (b -ℤ a) → a ≤ℤ (b *ℤ pos 1)
      begin a b h = omega (arith, ints)

      close : (a b : ℤ) → (b -ℤ a) <ℤ pos 0 → (b *ℤ pos 1) ≤ℤ a
      close a b h = omega (arith, ints)

  signs : Signs (int_le (t.left.x *ℤ p.w) p.x) (int_le (t.right.x *ℤ p.w) p.x) (int_le (t.left.y *ℤ p.w) p.y) (int_le (t.right.y *ℤ p.w) p.y)
      (int_lt (pos 0) (height_over t p)) (int_lt (height_over t p) (pos 0))
  signs = record {
    in_order = λ k. in_order (le_far (t.right.x *ℤ p.w) p.x k);
    not_both = λ k. above_test h (lt_true (pos 0) h k);
    right_rising = λ ar bl br. true_lt h (pos 0) (right_rising (width t) (rise t) u v x y p.w h hp refl right_form up_way across_way ahead
        (le_far (t.right.x *ℤ p.w) p.x ar) (le_far (t.left.y *ℤ p.w) p.y bl) (not_le_far (t.right.y *ℤ p.w) p.y br)
        (not_upright (le_far (t.left.y *ℤ p.w) p.y bl) (not_le_far (t.right.y *ℤ p.w) p.y br)));
    right_falling = λ ar bl br. true_lt (pos 0) h (right_falling (width t) (rise t) u v x y p.w h hp refl right_form up_way across_way ahead
        (le_far (t.right.x *ℤ p.w) p.x ar) (not_le_far (t.left.y *ℤ p.w) p.y bl) (le_far (t.right.y *ℤ p.w) p.y br)
        (not_at_end (falling_wide (not_le_far (t.left.y *ℤ p.w) p.y bl) (le_far (t.right.y *ℤ p.w) p.y br))));
    left_rising = λ al bl br. above_test h (left_rising (width t) (rise t) u v x y p.w h hp refl right_form up_way across_way ahead
        (not_le_far (t.left.x *ℤ p.w) p.x al) (le_far (t.left.y *ℤ p.w) p.y bl) (not_le_far (t.right.y *ℤ p.w) p.y br));
    left_falling = λ al bl br. below_test h (left_falling (width t) (rise t) u v x y p.w h hp refl right_form up_way across_way ahead
        (not_le_far (t.left.x *ℤ p.w) p.x al) (not_le_far (t.left.y *ℤ p.w) p.y bl) (le_far (t.right.y *ℤ p.w) p.y br));
    across_low = λ al ar bl br. true_lt (pos 0) h (across_low (width t) (rise t) u v x y p.w h hp refl right_form up_way across_way ahead
        (le_far (t.left.x *ℤ p.w) p.x al) (not_le_far (t.right.x *ℤ p.w) p.x ar) (le_far (t.left.y *ℤ p.w) p.y bl) (le_far (t.right.y *ℤ p.w) p.y br)
        (not_level (le_far (t.left.x *ℤ p.w) p.x al) (not_le_far (t.right.x *ℤ p.w) p.x ar)));
    across_high = λ al ar bl br. below_test h (across_high (width t) (rise t) u v x y p.w h hp refl right_form up_way across_way ahead
        (le_far (t.left.x *ℤ p.w) p.x al) (not_le_far (t.right.x *ℤ p.w) p.x ar) (not_le_far (t.left.y *ℤ p.w) p.y bl)
        (not_le_far (t.right.y *ℤ p.w) p.y br));
    across = λ al ar k. true_lt h (pos 0) (under h (not_level (le_far (t.left.x *ℤ p.w) p.x al) (not_le_far (t.right.x *ℤ p.w) p.x ar)) k);
  }
    where
      falling_wide : v <ℤ pos 0 → pos 0 ≤ℤ y → pos 0 <ℤ width t
      falling_wide hv hy = sinking_wide (width t) (rise t) u v x y p.w h hp refl right_form up_way across_way ahead
          (sinks (width t) (rise t) u v x y p.w h hp refl right_form up_way across_way ahead hv hy)

      in_order : pos 0 ≤ℤ x → int_le (t.left.x *ℤ p.w) p.x ≡ true
      in_order hx = true_le (t.left.x *ℤ p.w) p.x (from_far (t.left.x *ℤ p.w) p.x
          (most u x (width t *ℤ p.w) across_way hx (not_negative_times (width t) p.w
          (not_back (width t) (rise t) u v x y p.w h hp refl right_form up_way across_way ahead) hp)))
        where
          most : (u x k : ℤ) → u -ℤ x ≡ k → pos 0 ≤ℤ x → pos 0 ≤ℤ k → pos 0 ≤ℤ u
          most u x k e l m = omega (arith, ints)

          from_far : (a b : ℤ) → pos 0 ≤ℤ (b -ℤ a) → a ≤ℤ b
          from_far a b h = omega (arith, ints)

      under : (h : ℤ) → (h ≡ pos 0 → ⊥) → int_lt (pos 0) h ≡ false → h <ℤ pos 0
      under h off k = by_lt_z h (pos 0) (λ l. l) (λ l. by_lt_z (pos 0) h (λ m. absurd (both_ways (int_lt (pos 0) h) k (true_lt (pos 0) h m))) (λ m. absurd (off (flat h l m))))
        where
          flat : (z : ℤ) → pos 0 ≤ℤ z → z ≤ℤ pos 0 → z ≡ pos 0
          flat z h k = omega (arith, ints)

  -- an end that is neither right of the point nor above it
  abbrev is_near : WholePoint → Bool
  is_near e = int_le (e.x *ℤ p.w) p.x && int_le (e.y *ℤ p.w) p.y

  pub ray_even : IsEven (λ t. is_below t p) (λ t. is_left_of t p) (λ e. int_le (e.x *ℤ p.w) p.x && int_le (e.y *ℤ p.w) p.y) t
  ray_even =
      ap (λ b. differ ((int_le (t.left.x *ℤ p.w) p.x && b) && int_lt (pos 0) (height_over t p)) (differ (is_left_of t p) (differ (is_near t.left) (is_near t.right)))) (lt_not p.x (t.right.x *ℤ p.w))
      ∙ ap (λ b. differ ((int_le (t.left.x *ℤ p.w) p.x && not (int_le (t.right.x *ℤ p.w) p.x)) && int_lt (pos 0) (height_over t p))
      (differ (((int_le (t.left.y *ℤ p.w) p.y && b) && int_lt (height_over t p) (pos 0)) ||
      ((int_le (t.right.y *ℤ p.w) p.y && int_lt p.y (t.left.y *ℤ p.w)) && int_lt (pos 0) (height_over t p)))
      (differ (is_near t.left) (is_near t.right)))) (lt_not p.y (t.right.y *ℤ p.w))
      ∙ ap (λ b. differ ((int_le (t.left.x *ℤ p.w) p.x && not (int_le (t.right.x *ℤ p.w) p.x)) && int_lt (pos 0) (height_over t p))
      (differ (((int_le (t.left.y *ℤ p.w) p.y && not (int_le (t.right.y *ℤ p.w) p.y)) && int_lt (height_over t p) (pos 0)) ||
      ((int_le (t.right.y *ℤ p.w) p.y && b) && int_lt (pos 0) (height_over t p))) (differ (is_near t.left) (is_near t.right))))
      (lt_not p.y (t.left.y *ℤ p.w))
      ∙ ray_signs (int_le (t.left.x *ℤ p.w) p.x) (int_le (t.right.x *ℤ p.w) p.x) (int_le (t.left.y *ℤ p.w) p.y) (int_le (t.right.y *ℤ p.w) p.y)
      (int_lt (pos 0) (height_over t p)) (int_lt (height_over t p) (pos 0)) signs

-- ---- a base layer's segments, with a number
abbrev numbered : List Segment → List Marked
numbered segments = map (λ s. record { layer = 0; segment = s }) segments

-- the ray law
pub ray_law : RayLaw
ray_law rings p are hp off =
    let segments : List Segment = segments_of rings in
    let closed : AreClosed (numbered segments) = subst AreClosed (append-nil (numbered segments)) (layers_are_closed (rings ∷ []) one_layer) in
    sym (ap (λ n. n % 2 == 1) (count-map (λ (m : Marked). (m.layer == 0) && is_below m.segment p) (λ s. record { layer = 0; segment = s }) segments))
    ∙ count_alike_by_ends (λ t. is_below t p) (λ t. is_left_of t p) (λ e. int_le (e.x *ℤ p.w) p.x && int_le (e.y *ℤ p.w) p.y) (numbered segments) 0
    (λ i d l. let m : Marked = get_or (numbered segments) i d in ray_even p hp m.segment (leads m.segment (closed.proper i d l).first) (not_held i d l))
    (λ e h. closed.even 0 e)
    ∙ ap (λ n. n % 2 == 1) (count-map (λ (m : Marked). (m.layer == 0) && is_left_of m.segment p) (λ s. record { layer = 0; segment = s }) segments)
  where
    one_layer : All (All IsRing) (rings ∷ [])
    one_layer = All-cons (All IsRing) rings [] are (All-nil (All IsRing))

    not_held : (i : ℕ) (d : Marked) → i < length (numbered (segments_of rings)) → is_on (get_or (numbered (segments_of rings)) i d).segment p ≡ false
    not_held i d l =
        false_from_ne_true (is_on (get_or (numbered (segments_of rings)) i d).segment p)
        (λ on. both_ways (list_any (λ s. is_on s p) (segments_of rings)) off
        (any_from_Contains (λ s. is_on s p) (segments_of rings) (get_or (numbered (segments_of rings)) i d).segment
        (held (segments_of rings) i d l) on))
      where
        held : (segments : List Segment) (i : ℕ) (d : Marked) → i < length (numbered segments) → Contains segments (get_or (numbered segments) i d).segment
        held [] i d l = absurd (omega (arith, l))
        held (s ∷ ss) zero d l = (0, omega arith, refl)
        held (s ∷ ss) (suc i) d l = next (held ss i d (omega (arith, l)))
          where
            next : Contains ss (get_or (numbered ss) i d).segment → Contains (s ∷ ss) (get_or (numbered ss) i d).segment
            next c = (suc c.0, omega (arith, c.1), c.2)
