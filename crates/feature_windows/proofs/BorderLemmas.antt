-- The border of a box has inside what the box has for its own.
use Rattle.std.proofs.Common.{◌≡◌, ℤ, pos, ◌-ℤ◌, ◌*ℤ◌, ◌<ℤ◌, ◌≤ℤ◌, ◌&&◌, refl, ap, sym, subst, ◌∙◌, arith, true, false, Bool, List, [], ◌∷◌}
use Rattle.std.specs.Prelude.{int_le, int_lt}
use Rattle.std.specs.Cmp.{int_ranked}
use Rattle.std.specs.Ordering.{int_cmp}
use Rattle.std.specs.declared.cmp.Ordering.{Ordering}
use Rattle.std.specs.declared.cmp.Ordering.TheVariants.{Less, Equal, Greater}
use Rattle.std.proofs.lemmas.Int.{ints, by_lt_z}
use Rattle.std.proofs.lemmas.List.{append-nil}
use Rattle.overlay_terms.specs.Plane.{WholePoint, Point, whole_cmp, height_over, is_below, is_inside, ring_segments, segments_of}
use Rattle.overlay_terms.proofs.Difference.{split, differences, same, mul_mono, mul_pos}
use Rattle.overlay_terms.proofs.InputNumbers.{turned, true_le, true_lt, most_times}
use Rattle.exact_point.proofs.Tests.{lt_no, le_no}
use Rattle.map_window.specs.Window.{Box}
use Rattle.map_window.proofs.Sides.{differ}
use Rattle.map_window.proofs.Steps.{step, ring_segments-cons, inside-append, one_inside}
use Rattle.map_window.proofs.Lines.{nowhere}
use Rattle.feature_windows.specs.Layers.{corners_of}
use Rattle.feature_windows.specs.Parts.{holds}

-- ---- a level step
less_by : (a b : ℤ) (o : Ordering) → int_cmp a b ≡ o → a <ℤ b → o ≡ Less
less_by a b Less e h = refl
less_by a b Equal e h = let same : a ≡ b = int_ranked a b Equal (sym e) in absurd (omega (arith, ints))
less_by a b Greater e h = let more : b <ℤ a = int_ranked a b Greater (sym e) in absurd (omega (arith, ints))

more_by : (a b : ℤ) (o : Ordering) → int_cmp a b ≡ o → b <ℤ a → o ≡ Greater
more_by a b Greater e h = refl
more_by a b Equal e h = let same : a ≡ b = int_ranked a b Equal (sym e) in absurd (omega (arith, ints))
more_by a b Less e h = let less : a <ℤ b = int_ranked a b Less (sym e) in absurd (omega (arith, ints))

less : (a b : ℤ) → a <ℤ b → int_cmp a b ≡ Less
less a b h = less_by a b (int_cmp a b) refl h

more : (a b : ℤ) → b <ℤ a → int_cmp a b ≡ Greater
more a b h = more_by a b (int_cmp a b) refl h

flat : (h l y d e : ℤ) → (h -ℤ l) *ℤ d -ℤ (y -ℤ y) *ℤ e ≡ (h -ℤ l) *ℤ d
flat h l y d e = rw (split h, split l, split y, split d, split e) (simp differences (same _ _ _ _ (omega arith)))

-- a product with a positive number has the sign of the other
as_sign : (a d u v : ℤ) → pos 0 <ℤ a → d ≡ u -ℤ v → int_lt (pos 0) (a *ℤ d) ≡ int_lt v u
as_sign a d u v h e =
    by_lt_z v u
    (λ k. let plus : pos 0 <ℤ d = omega (arith, ints, e, k) in rw (true_lt v u k, true_lt (pos 0) (a *ℤ d) (mul_pos a d h plus)) refl)
    (λ k.
    let minus : d ≤ℤ pos 0 = omega (arith, ints, e, k) in
    let product : (d *ℤ a) ≤ℤ (pos 0 *ℤ a) = mul_mono d (pos 0) a (omega (arith, ints, h)) minus in
    let none : pos 0 *ℤ a ≡ pos 0 = rw (split a) (simp differences (same _ _ _ _ (omega arith))) in
    let at_most : (a *ℤ d) ≤ℤ pos 0 = subst (λ (z : ℤ). z ≤ℤ pos 0) (turned d a) (subst (λ (z : ℤ). (d *ℤ a) ≤ℤ z) none product) in
    rw (lt_no v u k, lt_no (pos 0) (a *ℤ d) at_most) refl)

level_below : (l h y : ℤ) (q : Point) → l <ℤ h
    → is_below (record { left = record { x = l; y = y }; right = record { x = h; y = y } }) q ≡ ((int_le (l *ℤ q.w) q.x && int_lt q.x (h *ℤ q.w)) && int_lt (y *ℤ q.w) q.y)
level_below l h y q lt =
    let height : height_over (record { left = record { x = l; y = y }; right = record { x = h; y = y } }) q ≡ (h -ℤ l) *ℤ (q.y -ℤ y *ℤ q.w) = flat h l y (q.y -ℤ y *ℤ q.w) (q.x -ℤ l *ℤ q.w) in
    let wide : pos 0 <ℤ (h -ℤ l) = omega (arith, ints, lt) in
    let sign : int_lt (pos 0) (height_over (record { left = record { x = l; y = y }; right = record { x = h; y = y } }) q) ≡ int_lt (y *ℤ q.w) q.y =
    ap (λ (z : ℤ). int_lt (pos 0) z) height ∙ as_sign (h -ℤ l) (q.y -ℤ y *ℤ q.w) q.y (y *ℤ q.w) wide refl in
    grouped (int_le (l *ℤ q.w) q.x) (int_lt q.x (h *ℤ q.w)) _ _ sign where
      grouped : (a b c d : Bool) → c ≡ d → (a && b && c) ≡ ((a && b) && d)
      grouped true true c d e = e
      grouped true false c d e = refl
      grouped false b c d e = refl

no_width : (l h y : ℤ) (q : Point) → l ≡ h → ((int_le (l *ℤ q.w) q.x && int_lt q.x (h *ℤ q.w)) && int_lt (y *ℤ q.w) q.y) ≡ false
no_width l h y q e =
    subst (λ (z : ℤ). ((int_le (l *ℤ q.w) q.x && int_lt q.x (z *ℤ q.w)) && int_lt (y *ℤ q.w) q.y) ≡ false) e
    (by_lt_z q.x (l *ℤ q.w) (λ a. rw (le_no (l *ℤ q.w) q.x a) refl) (λ a. rw (true_le (l *ℤ q.w) q.x a, lt_no q.x (l *ℤ q.w) a) refl))

level_step : (l h y : ℤ) (q : Point) → l ≤ℤ h
    → is_inside (step (record { x = l; y = y }) (record { x = h; y = y })) q ≡ ((int_le (l *ℤ q.w) q.x && int_lt q.x (h *ℤ q.w)) && int_lt (y *ℤ q.w) q.y)
level_step l h y q le =
    by_lt_z l h
    (λ lt. rw (less l h lt) (one_inside (record { left = record { x = l; y = y }; right = record { x = h; y = y } }) q ∙ level_below l h y q lt))
    (λ ge.
    let same : l ≡ h = omega (arith, ints, le, ge) in
    ap (λ (z : ℤ). is_inside (step (record { x = l; y = y }) (record { x = z; y = y })) q) (sym same)
    ∙ ap (λ ss. is_inside ss q) (nowhere (record { x = l; y = y })) ∙ sym (no_width l h y q same))

level_back : (l h y : ℤ) (q : Point) → l ≤ℤ h
    → is_inside (step (record { x = h; y = y }) (record { x = l; y = y })) q ≡ ((int_le (l *ℤ q.w) q.x && int_lt q.x (h *ℤ q.w)) && int_lt (y *ℤ q.w) q.y)
level_back l h y q le =
    by_lt_z l h
    (λ lt. rw (more h l lt) (one_inside (record { left = record { x = l; y = y }; right = record { x = h; y = y } }) q ∙ level_below l h y q lt))
    (λ ge.
    let same : l ≡ h = omega (arith, ints, le, ge) in
    ap (λ (z : ℤ). is_inside (step (record { x = z; y = y }) (record { x = l; y = y })) q) (sym same)
    ∙ ap (λ ss. is_inside ss q) (nowhere (record { x = l; y = y })) ∙ sym (no_width l h y q same))

-- ---- an upright step
upright_below : (x : ℤ) (a b : ℤ) (q : Point) → is_below (record { left = record { x = x; y = a }; right = record { x = x; y = b } }) q ≡ false
upright_below x a b q =
    by_lt_z q.x (x *ℤ q.w) (λ k. rw (le_no (x *ℤ q.w) q.x k) refl) (λ k. rw (true_le (x *ℤ q.w) q.x k, lt_no q.x (x *ℤ q.w) k) refl)

upright_by : (x a b : ℤ) (q : Point) (o : Ordering) → whole_cmp (record { x = x; y = a }) (record { x = x; y = b }) ≡ o → is_inside (step (record { x = x; y = a }) (record { x = x; y = b })) q ≡ false
upright_by x a b q Less e = rw e (one_inside (record { left = record { x = x; y = a }; right = record { x = x; y = b } }) q ∙ upright_below x a b q)
upright_by x a b q Equal e = rw e refl
upright_by x a b q Greater e = rw e (one_inside (record { left = record { x = x; y = b }; right = record { x = x; y = a } }) q ∙ upright_below x b a q)

upright_step : (x a b : ℤ) (q : Point) → is_inside (step (record { x = x; y = a }) (record { x = x; y = b })) q ≡ false
upright_step x a b q = upright_by x a b q (whole_cmp (record { x = x; y = a }) (record { x = x; y = b })) refl

-- ---- all four
steps_of : (a b c d e : WholePoint) (q : Point)
    → is_inside (ring_segments (a ∷ b ∷ c ∷ d ∷ e ∷ [])) q ≡ differ (is_inside (step a b) q) (differ (is_inside (step b c) q) (differ (is_inside (step c d) q) (differ (is_inside (step d e) q) false)))
steps_of a b c d e q =
    part a b (c ∷ d ∷ e ∷ []) ∙ ap (differ (is_inside (step a b) q)) (part b c (d ∷ e ∷ []) ∙ ap (differ (is_inside (step b c) q)) (part c d (e ∷ []) ∙ ap (differ (is_inside (step c d) q)) (part d e []))) where
      part : (x y : WholePoint) (rest : List WholePoint) → is_inside (ring_segments (x ∷ y ∷ rest)) q ≡ differ (is_inside (step x y) q) (is_inside (ring_segments (y ∷ rest)) q)
      part x y rest = ap (λ ss. is_inside ss q) (ring_segments-cons x y rest) ∙ inside-append (step x y) (ring_segments (y ∷ rest)) q

between : (x : Bool) (u v t : ℤ) → u ≤ℤ v → differ (x && int_lt u t) (differ false (differ (x && int_lt v t) (differ false false))) ≡ (x && (int_lt u t && int_le t v))
between false u v t h = refl
between true u v t h =
    by_lt_z v t
    (λ a. rw (true_lt v t a, true_lt u t (omega (arith, ints, a, h)), le_no t v a) refl)
    (λ a. by_lt_z u t
    (λ b. rw (lt_no v t a, true_lt u t b, true_le t v a) refl)
    (λ b. rw (lt_no v t a, lt_no u t b) refl))

pub border_is : (core : Box) (q : Point) → core.low_x ≤ℤ core.high_x → core.low_y ≤ℤ core.high_y → pos 0 <ℤ q.w → is_inside (segments_of (corners_of core ∷ [])) q ≡ holds core q
border_is core q wide tall positive =
    let a : WholePoint = record { x = core.low_x; y = core.low_y } in
    let b : WholePoint = record { x = core.high_x; y = core.low_y } in
    let c : WholePoint = record { x = core.high_x; y = core.high_y } in
    let d : WholePoint = record { x = core.low_x; y = core.high_y } in
    let across : Bool = int_le (core.low_x *ℤ q.w) q.x && int_lt q.x (core.high_x *ℤ q.w) in
    ap (λ ss. is_inside ss q) (append-nil (ring_segments (corners_of core))) ∙ steps_of a b c d a q
    ∙ (λ i. differ (level_step core.low_x core.high_x core.low_y q wide i)
    (differ (upright_step core.high_x core.low_y core.high_y q i) (differ (level_back core.low_x core.high_x core.high_y q wide i) (differ (upright_step core.low_x core.high_y core.low_y q i) false))))
    ∙ between across (core.low_y *ℤ q.w) (core.high_y *ℤ q.w) q.y (most_times core.low_y core.high_y q.w positive tall)
