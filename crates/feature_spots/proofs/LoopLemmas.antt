-- Steps one after another.
use Rattle.std.proofs.Common.{◌≡◌, ℕ, zero, suc, ◌+◌, ◌<◌, ◌≤◌, ◌%◌, ◌==◌, refl, ap, sym, ◌∙◌, subst, arith, true, false, Bool, not, ◌||◌, List, [], ◌∷◌, ◌++◌, length, take, drop, count_by, if◌then◌else◌}
use Rattle.std.specs.Prelude.{get_or, All, Option, Some, None, slice_get}
use Rattle.std.proofs.lemmas.List.{drop_all, drop_more}
use Rattle.std.proofs.lemmas.List.Elements.{All-get_or, All-head, All-tail}
use Rattle.std.proofs.lemmas.List.Folds.{list_any-append}
use Rattle.overlay_terms.specs.Plane.{WholePoint, Point}
use Rattle.overlay_terms.proofs.ClosedRings.{bit, count-cons, count-append}
use Rattle.block_reading.specs.Block.{dealt}
use Rattle.feature_spots.specs.Spots.{is_on_step, is_step_below, steps_from, loop_of, steps_of, is_within, is_on_steps, IsNear}

parity : (a b : ℕ) (o t : Bool) → o ≡ (a % 2 == 1) → t ≡ (b % 2 == 1) → (if t then not o else o) ≡ ((a + b) % 2 == 1)
parity a b o t e f = grind (arith)

-- turned by one and then by the other
abbrev pub turn : Bool → Bool → Bool
turn odd by = if by then not odd else odd

pub turn_none : (b : Bool) → turn false b ≡ b
turn_none true = refl
turn_none false = refl

pub turn_twice : (o a b : Bool) → turn (turn o a) b ≡ turn o (turn a b)
turn_twice true true true = refl
turn_twice true true false = refl
turn_twice true false true = refl
turn_twice true false false = refl
turn_twice false true true = refl
turn_twice false true false = refl
turn_twice false false true = refl
turn_twice false false false = refl

one_bit : (b : Bool) → b ≡ (bit b % 2 == 1)
one_bit true = refl
one_bit false = refl

pub within-cons : (p : Point) (s : WholePoint × WholePoint) (ss : List (WholePoint × WholePoint)) → turn (is_step_below p s) (is_within p ss) ≡ is_within p (s ∷ ss)
within-cons p s ss =
    parity (bit (is_step_below p s)) (count_by (is_step_below p) ss) (is_step_below p s) (is_within p ss) (one_bit (is_step_below p s)) refl
    ∙ ap (λ n. n % 2 == 1) (sym (count-cons (is_step_below p) s ss))

pub within-append : (p : Point) (xs ys : List (WholePoint × WholePoint)) → turn (is_within p xs) (is_within p ys) ≡ is_within p (xs ++ ys)
within-append p xs ys =
    parity (count_by (is_step_below p) xs) (count_by (is_step_below p) ys) (is_within p xs) (is_within p ys) refl refl
    ∙ ap (λ n. n % 2 == 1) (sym (count-append (is_step_below p) xs ys))

-- ---- what holds of each point
some_or : WholePoint → Option WholePoint → WholePoint
some_or a (Some b) = b
some_or a None = a

-- of all of them, and so of one
pub all_at : (P : WholePoint → Type 0) (ring : List WholePoint) (i : ℕ) (a : WholePoint) → slice_get ring i ≡ Some a → All P ring → P a
unfolding some_or
all_at P [] i a e h = cc
all_at P (b ∷ rest) zero a e h = subst P (ap (some_or a) e) (All-head P b rest h)
all_at P (b ∷ rest) (suc i) a e h = all_at P rest i a e (All-tail P b rest h)

pub near_to : (ring : List WholePoint) (i : ℕ) (to : WholePoint) → i < length ring → to ≡ get_or ring i to → All IsNear ring → IsNear to
near_to ring i to lt is h = subst IsNear (sym is) (All-get_or IsNear ring i to lt h)

-- ---- one step more of a ring
ahead : (ring : List WholePoint) (i : ℕ) (to : WholePoint) → i < length ring → to ≡ get_or ring i to → drop i ring ≡ to ∷ drop (i + 1) ring
ahead ring i to lt is = drop_more ring i to lt ∙ ap (λ z. z ∷ drop (i + 1) ring) (sym is)

first_no : (a b : Bool) → a ≡ false → (a || b) ≡ b
first_no true b e = cc
first_no false b e = refl

first_yes : (a b : Bool) → a ≡ true → (a || b) ≡ true
first_yes true b e = refl
first_yes false b e = cc

module _ (p : Point) (ring : List WholePoint) (i : ℕ) (from to : WholePoint) (lt : i < length ring) (is : to ≡ get_or ring i to) where
  all_ahead : steps_from from (drop i ring) ≡ (from, to) ∷ steps_from to (drop (i + 1) ring)
  all_ahead = ap (steps_from from) (ahead ring i to lt is)

  pub on_more : (b w : Bool) → b ≡ is_on_step p (from, to) → b ≡ false → is_on_steps p (steps_from from (drop i ring)) ≡ w → is_on_steps p (steps_from to (drop (i + 1) ring)) ≡ w
  on_more b w e f so_far =
      sym (first_no (is_on_step p (from, to)) (is_on_steps p (steps_from to (drop (i + 1) ring))) (sym e ∙ f)) ∙ ap (is_on_steps p) (sym all_ahead) ∙ so_far

  pub on_here : (b w : Bool) → b ≡ is_on_step p (from, to) → b ≡ true → is_on_steps p (steps_from from (drop i ring)) ≡ w → b ≡ w
  on_here b w e f so_far =
      f ∙ sym (first_yes (is_on_step p (from, to)) (is_on_steps p (steps_from to (drop (i + 1) ring))) (sym e ∙ f)) ∙ ap (is_on_steps p) (sym all_ahead) ∙ so_far

  pub below_more : (odd c w : Bool) → c ≡ is_step_below p (from, to) → turn odd (is_within p (steps_from from (drop i ring))) ≡ w
      → turn (turn odd c) (is_within p (steps_from to (drop (i + 1) ring))) ≡ w
  below_more odd c w e so_far =
      turn_twice odd c (is_within p (steps_from to (drop (i + 1) ring)))
      ∙ ap (turn odd) (ap (λ z. turn z (is_within p (steps_from to (drop (i + 1) ring)))) e ∙ within-cons p (from, to) (steps_from to (drop (i + 1) ring)) ∙ ap (is_within p) (sym all_ahead))
      ∙ so_far

pub on_end : (p : Point) (ring : List WholePoint) (i : ℕ) (from : WholePoint) (w : Bool) → length ring ≤ i → is_on_steps p (steps_from from (drop i ring)) ≡ w → false ≡ w
on_end p ring i from w past so_far = ap (λ ps. is_on_steps p (steps_from from ps)) (sym (drop_all i ring past)) ∙ so_far

pub below_end : (p : Point) (ring : List WholePoint) (i : ℕ) (from : WholePoint) (odd w : Bool) → length ring ≤ i → turn odd (is_within p (steps_from from (drop i ring))) ≡ w → odd ≡ w
below_end p ring i from odd w past so_far = ap (λ ps. turn odd (is_within p (steps_from from ps))) (sym (drop_all i ring past)) ∙ so_far

-- ---- one ring more of a feature
module _ (p : Point) (counts : List ℕ) (i : ℕ) (rest ring after : List WholePoint) (lt : i < length counts) (first : ring ≡ take (get_or counts i 0) rest) (others : after ≡ drop (get_or counts i 0) rest) where
  rings_ahead : dealt (drop i counts) rest ≡ ring ∷ dealt (drop (i + 1) counts) after
  rings_ahead = ap (λ ns. dealt ns rest) (drop_more counts i 0 lt) ∙ (λ k. sym first k ∷ dealt (drop (i + 1) counts) (sym others k))

  pub ring_near : All (All IsNear) (dealt (drop i counts) rest) → All IsNear ring × All (All IsNear) (dealt (drop (i + 1) counts) after)
  ring_near h =
      let here : All (All IsNear) (ring ∷ dealt (drop (i + 1) counts) after) = subst (All (All IsNear)) rings_ahead h in
      (All-head (All IsNear) ring (dealt (drop (i + 1) counts) after) here, All-tail (All IsNear) ring (dealt (drop (i + 1) counts) after) here)

  pub ring_on_more : (b w : Bool) → b ≡ is_on_steps p (loop_of ring) → b ≡ false → is_on_steps p (steps_of (dealt (drop i counts) rest)) ≡ w
      → is_on_steps p (steps_of (dealt (drop (i + 1) counts) after)) ≡ w
  ring_on_more b w e f so_far =
      sym (first_no (is_on_steps p (loop_of ring)) (is_on_steps p (steps_of (dealt (drop (i + 1) counts) after))) (sym e ∙ f))
      ∙ sym (list_any-append (is_on_step p) (loop_of ring) (steps_of (dealt (drop (i + 1) counts) after))) ∙ ap (λ rs. is_on_steps p (steps_of rs)) (sym rings_ahead) ∙ so_far

  pub ring_on_here : (b w : Bool) → b ≡ is_on_steps p (loop_of ring) → b ≡ true → is_on_steps p (steps_of (dealt (drop i counts) rest)) ≡ w → b ≡ w
  ring_on_here b w e f so_far =
      f ∙ sym (first_yes (is_on_steps p (loop_of ring)) (is_on_steps p (steps_of (dealt (drop (i + 1) counts) after))) (sym e ∙ f))
      ∙ sym (list_any-append (is_on_step p) (loop_of ring) (steps_of (dealt (drop (i + 1) counts) after))) ∙ ap (λ rs. is_on_steps p (steps_of rs)) (sym rings_ahead) ∙ so_far

  pub ring_below_more : (odd c w : Bool) → c ≡ is_within p (loop_of ring) → turn odd (is_within p (steps_of (dealt (drop i counts) rest))) ≡ w
      → turn (turn odd c) (is_within p (steps_of (dealt (drop (i + 1) counts) after))) ≡ w
  ring_below_more odd c w e so_far =
      turn_twice odd c (is_within p (steps_of (dealt (drop (i + 1) counts) after)))
      ∙ ap (turn odd)
      (ap (λ z. turn z (is_within p (steps_of (dealt (drop (i + 1) counts) after)))) e
      ∙ within-append p (loop_of ring) (steps_of (dealt (drop (i + 1) counts) after)) ∙ ap (λ rs. is_within p (steps_of rs)) (sym rings_ahead))
      ∙ so_far

pub rings_on_end : (p : Point) (counts : List ℕ) (i : ℕ) (rest : List WholePoint) (w : Bool) → length counts ≤ i → is_on_steps p (steps_of (dealt (drop i counts) rest)) ≡ w → false ≡ w
rings_on_end p counts i rest w past so_far = ap (λ ns. is_on_steps p (steps_of (dealt ns rest))) (sym (drop_all i counts past)) ∙ so_far

pub rings_below_end : (p : Point) (counts : List ℕ) (i : ℕ) (rest : List WholePoint) (odd w : Bool) → length counts ≤ i → turn odd (is_within p (steps_of (dealt (drop i counts) rest))) ≡ w → odd ≡ w
rings_below_end p counts i rest odd w past so_far = ap (λ ns. turn odd (is_within p (steps_of (dealt ns rest)))) (sym (drop_all i counts past)) ∙ so_far
