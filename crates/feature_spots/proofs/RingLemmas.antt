-- Closed rings: what is seen of their steps is what is seen of their segments.
use Rattle.std.proofs.Common.{◌≡◌, ◌⊎◌, inl, inr, ℕ, suc, ◌+◌, ◌-◌, ◌<◌, ◌%◌, ◌==◌, ℤ, pos, ◌-ℤ◌, ◌*ℤ◌, ◌<ℤ◌, ◌≤ℤ◌, refl, ap, sym, ◌∙◌, subst, arith, true, false, Bool, ◌||◌, List, [], ◌∷◌, ◌++◌, length, count_by, if◌then◌else◌}
use Rattle.std.specs.Prelude.{int_lt, Option, Some, None, All, slice_get}
use Rattle.std.specs.Bool.{IsTrue}
use Rattle.std.specs.List.{list_any, cons_option}
use Rattle.std.proofs.lemmas.Int.{ints, by_lt_z}
use Rattle.std.proofs.lemmas.List.Folds.{list_any-append}
use Rattle.std.proofs.lemmas.List.Elements.{All-head, All-tail}
use Rattle.std.proofs.Math.IntN.{*ℤ-zero}
use Rattle.overlay_terms.specs.Plane.{WholePoint, Point, Segment, whole, same_place, segment_between, ring_segments, segments_of, height_over, is_below, is_on, is_inside}
use Rattle.overlay_terms.specs.InputLaws.{IsClosed}
use Rattle.overlay_terms.specs.Laws.{is_on_any}
use Rattle.overlay_terms.proofs.Difference.{split, differences, same}
use Rattle.overlay_terms.proofs.PointOrder.{same_points}
use Rattle.overlay_terms.proofs.ClosedRings.{bit, count-cons, count-append}
use Rattle.exact_point.proofs.Lexical.{Forward, NotBack, stays_forward}
use Rattle.exact_point.proofs.OnSegment.{is_reached}
use Rattle.feature_spots.specs.Spots.{fine_max, is_on_way, is_on_step, is_way_below, is_step_below, steps_from, steps_after, loop_of, steps_of, is_within, is_on_steps, spot_of}
use Rattle.feature_spots.specs.Laws.{IsDrawn, SpotsAreOfSegments}
use Rattle.feature_spots.specs.declared.spot.Spot.TheVariants.{Outside, Inside, OnEdge, TooFine}
use Rattle.feature_spots.proofs.StepLemmas.{never, right_step, left_step, up_step, down_step, no_step, from_right, is_spot}

-- ---- tests
or_parts : (x y : Bool) → (x || y) ≡ true → (x ≡ true) ⊎ (y ≡ true)
or_parts true y e = inl refl
or_parts false y e = inr e

or_first : (x y : Bool) → x ≡ true → (x || y) ≡ true
or_first true y e = refl
or_first false y e = cc

or_second : (x y : Bool) → y ≡ true → (x || y) ≡ true
or_second true y e = refl
or_second false y e = e

either : {A B C : Type 0} → A ⊎ B → (A → C) → (B → C) → C
either (inl a) f g = f a
either (inr b) f g = g b

both_ways : (x y : Bool) → (x ≡ true → y ≡ true) → (y ≡ true → x ≡ true) → x ≡ y
both_ways true y f g = sym (f refl)
both_ways false true f g = g refl
both_ways false false f g = refl

-- ---- the ends of a segment lie on it
times_spread : (r l w : ℤ) → w *ℤ (r -ℤ l) ≡ r *ℤ w -ℤ l *ℤ w
times_spread r l w = rw (split r, split l, split w) (simp differences (same _ _ _ _ (omega arith)))

left_end : (s : Segment) (p : Point) → pos 0 <ℤ p.w → Forward (s.right.x -ℤ s.left.x) (s.right.y -ℤ s.left.y) → IsTrue (same_place (whole s.left) p) → IsTrue (is_on s p)
left_end s p wide leads t =
    let spot = is_spot s.left p t in
    let none_x : p.x -ℤ s.left.x *ℤ p.w ≡ pos 0 = omega (arith, ints, spot.0) in
    let none_y : p.y -ℤ s.left.y *ℤ p.w ≡ pos 0 = omega (arith, ints, spot.1) in
    let first : (s.right.x -ℤ s.left.x) *ℤ (p.y -ℤ s.left.y *ℤ p.w) ≡ pos 0 = ap (λ z. (s.right.x -ℤ s.left.x) *ℤ z) none_y ∙ *ℤ-zero (s.right.x -ℤ s.left.x) in
    let second : (s.right.y -ℤ s.left.y) *ℤ (p.x -ℤ s.left.x *ℤ p.w) ≡ pos 0 = ap (λ z. (s.right.y -ℤ s.left.y) *ℤ z) none_x ∙ *ℤ-zero (s.right.y -ℤ s.left.y) in
    let far_x : p.w *ℤ (s.right.x -ℤ s.left.x) ≡ s.right.x *ℤ p.w -ℤ p.x = times_spread s.right.x s.left.x p.w ∙ ap (λ z. s.right.x *ℤ p.w -ℤ z) spot.0 in
    let far_y : p.w *ℤ (s.right.y -ℤ s.left.y) ≡ s.right.y *ℤ p.w -ℤ p.y = times_spread s.right.y s.left.y p.w ∙ ap (λ z. s.right.y *ℤ p.w -ℤ z) spot.1 in
    is_reached s p (record {
      level = omega (arith, ints, first, second);
      from_left = inr (none_x, omega (arith, ints, none_y));
      to_right = subst (λ z. NotBack z (s.right.y *ℤ p.w -ℤ p.y)) far_x (subst (λ z. NotBack (p.w *ℤ (s.right.x -ℤ s.left.x)) z) far_y
          (stays_forward p.w (s.right.x -ℤ s.left.x) (s.right.y -ℤ s.left.y) (omega (arith, ints, wide)) leads));
    })

right_end : (s : Segment) (p : Point) → pos 0 <ℤ p.w → Forward (s.right.x -ℤ s.left.x) (s.right.y -ℤ s.left.y) → IsTrue (same_place (whole s.right) p) → IsTrue (is_on s p)
right_end s p wide leads t =
    let spot = is_spot s.right p t in
    let none_x : s.right.x *ℤ p.w -ℤ p.x ≡ pos 0 = omega (arith, ints, spot.0) in
    let none_y : s.right.y *ℤ p.w -ℤ p.y ≡ pos 0 = omega (arith, ints, spot.1) in
    let first : (s.right.y -ℤ s.left.y) *ℤ (s.right.x *ℤ p.w -ℤ p.x) ≡ pos 0 = ap (λ z. (s.right.y -ℤ s.left.y) *ℤ z) none_x ∙ *ℤ-zero (s.right.y -ℤ s.left.y) in
    let second : (s.right.x -ℤ s.left.x) *ℤ (s.right.y *ℤ p.w -ℤ p.y) ≡ pos 0 = ap (λ z. (s.right.x -ℤ s.left.x) *ℤ z) none_y ∙ *ℤ-zero (s.right.x -ℤ s.left.x) in
    let far_x : p.w *ℤ (s.right.x -ℤ s.left.x) ≡ p.x -ℤ s.left.x *ℤ p.w = times_spread s.right.x s.left.x p.w ∙ ap (λ z. z -ℤ s.left.x *ℤ p.w) spot.0 in
    let far_y : p.w *ℤ (s.right.y -ℤ s.left.y) ≡ p.y -ℤ s.left.y *ℤ p.w = times_spread s.right.y s.left.y p.w ∙ ap (λ z. z -ℤ s.left.y *ℤ p.w) spot.1 in
    let zero : (s.right.y -ℤ s.left.y) *ℤ (s.right.x *ℤ p.w -ℤ p.x) -ℤ (s.right.x -ℤ s.left.x) *ℤ (s.right.y *ℤ p.w -ℤ p.y) ≡ pos 0 = omega (arith, ints, first, second) in
    is_reached s p (record {
      level = from_right s.left.x s.left.y s.right.x s.right.y p.x p.y p.w ∙ zero;
      from_left = subst (λ z. NotBack z (p.y -ℤ s.left.y *ℤ p.w)) far_x (subst (λ z. NotBack (p.w *ℤ (s.right.x -ℤ s.left.x)) z) far_y
          (stays_forward p.w (s.right.x -ℤ s.left.x) (s.right.y -ℤ s.left.y) (omega (arith, ints, wide)) leads));
      to_right = inr (none_x, omega (arith, ints, none_y));
    })

-- ---- a step has a segment, on which both of its ends lie, or leads nowhere
data StepCase (p : Point) (a b : WholePoint) : Type 0 where
  joins : (s : Segment) → segment_between (a, b) ≡ Some s → (IsTrue (same_place (whole a) p) → IsTrue (is_on s p)) → (IsTrue (same_place (whole b) p) → IsTrue (is_on s p)) → StepCase p a b
  rests : a ≡ b → segment_between (a, b) ≡ None → StepCase p a b

ahead : (p : Point) (a b : WholePoint) → pos 0 <ℤ p.w → Forward (b.x -ℤ a.x) (b.y -ℤ a.y) → segment_between (a, b) ≡ Some (record { left = a; right = b }) → StepCase p a b
ahead p a b wide leads is = joins (record { left = a; right = b }) is (left_end (record { left = a; right = b }) p wide leads) (right_end (record { left = a; right = b }) p wide leads)

back : (p : Point) (a b : WholePoint) → pos 0 <ℤ p.w → Forward (a.x -ℤ b.x) (a.y -ℤ b.y) → segment_between (a, b) ≡ Some (record { left = b; right = a }) → StepCase p a b
back p a b wide leads is = joins (record { left = b; right = a }) is (right_end (record { left = b; right = a }) p wide leads) (left_end (record { left = b; right = a }) p wide leads)

step_case : (p : Point) (a b : WholePoint) → pos 0 <ℤ p.w → StepCase p a b
step_case p a b wide =
    by_lt_z a.x b.x
    (λ l. ahead p a b wide (inl (omega (arith, ints, l))) (right_step a b l))
    (λ h. by_lt_z b.x a.x
    (λ l. back p a b wide (inl (omega (arith, ints, l))) (left_step a b l))
    (λ k. let level : a.x ≡ b.x = omega (arith, ints, h, k) in
    by_lt_z a.y b.y
    (λ l. ahead p a b wide (inr (omega (arith, ints, level), omega (arith, ints, l))) (up_step a b level l))
    (λ m. by_lt_z b.y a.y
    (λ l. back p a b wide (inr (omega (arith, ints, level), omega (arith, ints, l))) (down_step a b level l))
    (λ n. let upright : a.y ≡ b.y = omega (arith, ints, m, n) in
    rests (λ i. record { x = level i; y = upright i }) (no_step a b level upright)))))

-- ---- points one after another: all are one place, or each lies on a segment
data Chain (p : Point) (from : WholePoint) (rest : List WholePoint) : Type 0 where
  bare : ring_segments (from ∷ rest) ≡ [] → (IsTrue (is_on_steps p (steps_from from rest)) → IsTrue (same_place (whole from) p)) → Chain p from rest
  full : 0 < length (ring_segments (from ∷ rest)) → (IsTrue (same_place (whole from) p) → IsTrue (is_on_any (ring_segments (from ∷ rest)) p))
      → (IsTrue (is_on_steps p (steps_from from rest)) → IsTrue (is_on_any (ring_segments (from ∷ rest)) p)) → Chain p from rest

module _ (p : Point) (from b : WholePoint) (rest : List WholePoint) where
  rested : segment_between (from, b) ≡ None → ring_segments (from ∷ b ∷ rest) ≡ ring_segments (b ∷ rest)
  rested none = ap (λ o. cons_option o (ring_segments (b ∷ rest))) none

  joined : (s : Segment) → segment_between (from, b) ≡ Some s → ring_segments (from ∷ b ∷ rest) ≡ s ∷ ring_segments (b ∷ rest)
  joined s is = ap (λ o. cons_option o (ring_segments (b ∷ rest))) is

  at_from : segment_between (from, b) ≡ None → IsTrue (is_on_step p (from, b)) → IsTrue (same_place (whole from) p)
  at_from none t = sym (ap (is_on_way p from) none) ∙ t

  on_it : (s : Segment) → segment_between (from, b) ≡ Some s → IsTrue (is_on_step p (from, b)) → IsTrue (is_on s p)
  on_it s is t = sym (ap (is_on_way p from) is) ∙ t

  there : from ≡ b → IsTrue (same_place (whole from) p) → IsTrue (same_place (whole b) p)
  there here t = ap (λ z. same_place (whole z) p) (sym here) ∙ t

  steps : IsTrue (is_on_steps p (steps_from from (b ∷ rest))) → IsTrue (is_on_step p (from, b)) ⊎ IsTrue (is_on_steps p (steps_from b rest))
  steps t = or_parts (is_on_step p (from, b)) (is_on_steps p (steps_from b rest)) t

  any_of : {ss : List Segment} → ring_segments (from ∷ b ∷ rest) ≡ ss → IsTrue (is_on_any ss p) → IsTrue (is_on_any (ring_segments (from ∷ b ∷ rest)) p)
  any_of is t = ap (λ ss. is_on_any ss p) is ∙ t

  longer : {ss : List Segment} → ring_segments (from ∷ b ∷ rest) ≡ ss → 0 < length ss → 0 < length (ring_segments (from ∷ b ∷ rest))
  longer is some = subst (λ ss. 0 < length ss) (sym is) some

  longer_by_one : StepCase p from b → Chain p b rest → Chain p from (b ∷ rest)
  longer_by_one (rests here none) (bare empty place) =
      bare (rested none ∙ empty) (λ t. either (steps t) (at_from none) (λ u. ap (λ z. same_place (whole z) p) here ∙ place u))
  longer_by_one (rests here none) (full some place on) =
      full (longer (rested none) some) (λ t. any_of (rested none) (place (there here t)))
      (λ t. any_of (rested none) (either (steps t) (λ u. place (there here (at_from none u))) on))
  longer_by_one (joins s is at_first at_second) (bare empty place) =
      full (longer (joined s is) (omega arith)) (λ t. any_of (joined s is) (or_first (is_on s p) (is_on_any (ring_segments (b ∷ rest)) p) (at_first t)))
      (λ t. any_of (joined s is) (or_first (is_on s p) (is_on_any (ring_segments (b ∷ rest)) p) (either (steps t) (on_it s is) (λ u. at_second (place u)))))
  longer_by_one (joins s is at_first at_second) (full some place on) =
      full (longer (joined s is) (omega arith)) (λ t. any_of (joined s is) (or_first (is_on s p) (is_on_any (ring_segments (b ∷ rest)) p) (at_first t)))
      (λ t. any_of (joined s is) (either (steps t) (λ u. or_first (is_on s p) (is_on_any (ring_segments (b ∷ rest)) p) (on_it s is u)) (λ u. or_second (is_on s p) (is_on_any (ring_segments (b ∷ rest)) p) (on u))))

chain : (p : Point) (from : WholePoint) (rest : List WholePoint) → pos 0 <ℤ p.w → Chain p from rest
chain p from [] wide = bare refl (λ t. never t)
chain p from (b ∷ rest) wide = longer_by_one p from b rest (step_case p from b wide) (chain p b rest wide)

-- what lies on a segment lies on its step
way_on : (p : Point) (from : WholePoint) (o w : Option Segment) (ss : List Segment) (on : Bool) → w ≡ o → (IsTrue (is_on_any ss p) → on ≡ true)
    → IsTrue (is_on_any (cons_option o ss) p) → (is_on_way p from w || on) ≡ true
way_on p from None w ss on is rest t = or_second (is_on_way p from w) on (rest t)
way_on p from (Some s) w ss on is rest t =
    either (or_parts (is_on s p) (is_on_any ss p) t) (λ u. or_first (is_on_way p from w) on (ap (is_on_way p from) is ∙ u)) (λ u. or_second (is_on_way p from w) on (rest u))

any_step : (p : Point) (from : WholePoint) (rest : List WholePoint) → IsTrue (is_on_any (ring_segments (from ∷ rest)) p) → IsTrue (is_on_steps p (steps_from from rest))
any_step p from [] t = t
any_step p from (b ∷ rest) t =
    way_on p from (segment_between (from, b)) (segment_between (from, b)) (ring_segments (b ∷ rest)) (is_on_steps p (steps_from b rest)) refl (any_step p b rest) t

none_more : (n : ℕ) → 0 + n ≡ n
none_more n = omega arith

-- as many steps are below a point as segments
way_below : (p : Point) (o : Option Segment) (ss : List Segment) (n : ℕ) → n ≡ count_by (λ s. is_below s p) ss → bit (is_way_below p o) + n ≡ count_by (λ s. is_below s p) (cons_option o ss)
way_below p None ss n is = none_more n ∙ is
way_below p (Some s) ss n is = ap (λ k. bit (is_below s p) + k) is ∙ sym (count-cons (λ t. is_below t p) s ss)

steps_below : (p : Point) (from : WholePoint) (rest : List WholePoint) → count_by (is_step_below p) (steps_from from rest) ≡ count_by (λ s. is_below s p) (ring_segments (from ∷ rest))
steps_below p from [] = refl
steps_below p from (b ∷ rest) =
    count-cons (is_step_below p) (from, b) (steps_from b rest)
    ∙ way_below p (segment_between (from, b)) (ring_segments (b ∷ rest)) (count_by (is_step_below p) (steps_from b rest)) (steps_below p b rest)

-- ---- a ring
last_of : WholePoint → List WholePoint → WholePoint
last_of a [] = a
last_of a (b ∷ rest) = last_of b rest

last_is : (a : WholePoint) (rest : List WholePoint) → slice_get (a ∷ rest) (length rest) ≡ Some (last_of a rest)
unfolding last_of
last_is a [] = refl
last_is a (b ∷ rest) = last_is b rest

one_less : (n : ℕ) → suc n - 1 ≡ n
one_less n = omega arith

loop_is : (a : WholePoint) (rest : List WholePoint) → IsClosed (a ∷ rest) → loop_of (a ∷ rest) ≡ (a, a) ∷ steps_from a rest
loop_is a rest closed =
    let home : a ≡ last_of a rest = same_points a (last_of a rest) (rw (one_less (length rest), last_is a rest) at closed) in
    ap (λ k. steps_after (slice_get (a ∷ rest) k) (a ∷ rest)) (one_less (length rest)) ∙ ap (λ o. steps_after o (a ∷ rest)) (last_is a rest)
    ∙ ap (λ z. (z, a) ∷ steps_from a rest) (sym home)

nowhere : (a : WholePoint) → segment_between (a, a) ≡ None
nowhere a = no_step a a refl refl

on_closed : (p : Point) (a : WholePoint) (rest : List WholePoint) → Chain p a rest → 0 < length (ring_segments (a ∷ rest))
    → IsTrue (is_on_steps p ((a, a) ∷ steps_from a rest)) → IsTrue (is_on_any (ring_segments (a ∷ rest)) p)
on_closed p a rest (bare empty place) some t = let none : 0 < 0 = subst (λ (ss : List Segment). 0 < length ss) empty some in absurd (omega (arith, none))
on_closed p a rest (full many place on) some t =
    either (or_parts (is_on_step p (a, a)) (is_on_steps p (steps_from a rest)) t) (λ u. place (sym (ap (is_on_way p a) (nowhere a)) ∙ u)) on

ring_on : (p : Point) (ring : List WholePoint) → pos 0 <ℤ p.w → IsDrawn ring → is_on_steps p (loop_of ring) ≡ is_on_any (ring_segments ring) p
ring_on p [] wide drawn = let none : 0 < 0 = drawn.some in absurd (omega (arith, none))
ring_on p (a ∷ rest) wide drawn =
    ap (is_on_steps p) (loop_is a rest drawn.closed)
    ∙ both_ways (is_on_steps p ((a, a) ∷ steps_from a rest)) (is_on_any (ring_segments (a ∷ rest)) p) (on_closed p a rest (chain p a rest wide) drawn.some)
    (λ t. or_second (is_on_step p (a, a)) (is_on_steps p (steps_from a rest)) (any_step p a rest t))

ring_below : (p : Point) (ring : List WholePoint) → IsDrawn ring → count_by (is_step_below p) (loop_of ring) ≡ count_by (λ s. is_below s p) (ring_segments ring)
ring_below p [] drawn = let none : 0 < 0 = drawn.some in absurd (omega (arith, none))
ring_below p (a ∷ rest) drawn =
    ap (count_by (is_step_below p)) (loop_is a rest drawn.closed) ∙ count-cons (is_step_below p) (a, a) (steps_from a rest)
    ∙ ap (λ o. bit (is_way_below p o) + count_by (is_step_below p) (steps_from a rest)) (nowhere a)
    ∙ none_more (count_by (is_step_below p) (steps_from a rest)) ∙ steps_below p a rest

-- ---- all rings
rings_on : (p : Point) (rings : List (List WholePoint)) → pos 0 <ℤ p.w → All IsDrawn rings → is_on_steps p (steps_of rings) ≡ is_on_any (segments_of rings) p
rings_on p [] wide drawn = refl
rings_on p (ring ∷ rings) wide drawn =
    let one = All-head IsDrawn ring rings drawn in
    let others = All-tail IsDrawn ring rings drawn in
    list_any-append (is_on_step p) (loop_of ring) (steps_of rings) ∙ (λ i. ring_on p ring wide one i || rings_on p rings wide others i)
    ∙ sym (list_any-append (λ s. is_on s p) (ring_segments ring) (segments_of rings))

rings_below : (p : Point) (rings : List (List WholePoint)) → All IsDrawn rings → count_by (is_step_below p) (steps_of rings) ≡ count_by (λ s. is_below s p) (segments_of rings)
rings_below p [] drawn = refl
rings_below p (ring ∷ rings) drawn =
    let one = All-head IsDrawn ring rings drawn in
    let others = All-tail IsDrawn ring rings drawn in
    count-append (is_step_below p) (loop_of ring) (steps_of rings) ∙ (λ i. ring_below p ring one i + rings_below p rings others i)
    ∙ sym (count-append (λ s. is_below s p) (ring_segments ring) (segments_of rings))

pub spots_are_of_segments : SpotsAreOfSegments
spots_are_of_segments rings p drawn wide =
    let within : is_within p (steps_of rings) ≡ is_inside (segments_of rings) p = ap (λ n. n % 2 == 1) (rings_below p rings drawn) in
    λ i. if int_lt (pos fine_max) p.w then TooFine
    else if rings_on p rings wide drawn i then OnEdge
    else if within i then Inside
    else Outside
