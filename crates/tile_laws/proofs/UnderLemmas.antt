-- Segments over the x of a place are ordered by which is under which, up to those on one line.
use Rattle.std.specs.Prelude.{◌≡◌, ℤ, pos, ◌+ℤ◌, ◌-ℤ◌, ◌*ℤ◌, ◌<ℤ◌, ◌≤ℤ◌, int_le, int_lt, true, false, ◌&&◌, ◌||◌}
use Rattle.std.specs.Ordering.{int_eq}
use Rattle.std.proofs.Common.{ap, sym, ◌∙◌, arith, ◌⊎◌, inl, inr}
use Rattle.std.proofs.lemmas.Int.{ints, by_lt_z}
use Rattle.std.proofs.Math.IntN.{zero-*ℤ}
use Rattle.std.proofs.lemmas.Bool.{and_parts, and_from, or_cases, or_left, or_right, both_ways, false_from_ne_true}
use Rattle.std.proofs.lemmas.Bool.Decides.{Decides-int_eq}
use Rattle.overlay_terms.specs.Plane.{Point, Segment}
use Rattle.overlay_terms.proofs.Difference.{mul_pos}
use Rattle.overlay_terms.proofs.InputNumbers.{less_back, le_true, lt_true, true_lt}
use Rattle.exact_point.proofs.Lines.{width, rise, line_height, gap, forms_add, turns_add, turn_back}
use Rattle.exact_point.proofs.Signs.{not_positive_times, zero_factor}
use Rattle.exact_point.specs.Crossing.{turn_of}
use Rattle.tile_laws.proofs.JustRight.{is_over_x, is_under, is_level}
use Rattle.tile_laws.proofs.Ranks.{Orders}

-- a line stands over another just right of a place: it is higher there, or as high and turns up
data Over (g a : ℤ) : Type 0 where
  higher : pos 0 <ℤ g → Over g a
  turning : g ≡ pos 0 → pos 0 <ℤ a → Over g a

-- what the test says
over_told : (g a : ℤ) → (int_lt (pos 0) g || (int_eq g (pos 0) && int_lt (pos 0) a)) ≡ true → Over g a
over_told g a h =
    elim (or_cases (int_lt (pos 0) g) (int_eq g (pos 0) && int_lt (pos 0) a) h) [
      | inl up ↦ higher (lt_true (pos 0) g up)
      | inr level ↦
          let parts = and_parts (int_eq g (pos 0)) (int_lt (pos 0) a) level in
          turning ((Decides-int_eq g (pos 0)).0 parts.0) (lt_true (pos 0) a parts.1)
    ]

-- and when it holds
over_test : (g a : ℤ) → Over g a → (int_lt (pos 0) g || (int_eq g (pos 0) && int_lt (pos 0) a)) ≡ true
over_test g a (higher h) = or_left _ _ (true_lt (pos 0) g h)
over_test g a (turning e h) = or_right _ _ (and_from _ _ ((Decides-int_eq g (pos 0)).1 e) (true_lt (pos 0) a h))

-- two lines are not both over one another
not_both : (g a h b : ℤ) → g +ℤ h ≡ pos 0 → a +ℤ b ≡ pos 0 → Over g a → Over h b → ⊥
not_both g a h b sums turns (higher l) (higher m) = omega (arith, ints)
not_both g a h b sums turns (higher l) (turning e m) = omega (arith, ints)
not_both g a h b sums turns (turning e l) (higher m) = omega (arith, ints)
not_both g a h b sums turns (turning e l) (turning f m) = omega (arith, ints)

-- a sum of two products that are at most 0, and are both 0 where it is
both_zero : (g h d f : ℤ) → pos 0 <ℤ d → pos 0 <ℤ f → g ≤ℤ pos 0 → h ≤ℤ pos 0 → (g *ℤ f) +ℤ (h *ℤ d) ≡ pos 0 → (g ≡ pos 0) × (h ≡ pos 0)
both_zero g h d f hd hf lg lh sum =
    let one : (g *ℤ f) ≤ℤ pos 0 = not_positive_times g f lg hf in
    let two : (h *ℤ d) ≤ℤ pos 0 = not_positive_times h d lh hd in
    (zero_factor g f hf (omega (arith, ints)), zero_factor h d hd (omega (arith, ints)))

-- one of two summands is positive where a product of the sum is
one_positive : (g h k d e f : ℤ) → pos 0 <ℤ d → pos 0 <ℤ e → pos 0 <ℤ f → k *ℤ e ≡ (g *ℤ f) +ℤ (h *ℤ d) → pos 0 <ℤ k → g ≤ℤ pos 0 → h ≤ℤ pos 0 → ⊥
one_positive g h k d e f hd he hf sum l lg lh =
    let one : (g *ℤ f) ≤ℤ pos 0 = not_positive_times g f lg hf in
    let two : (h *ℤ d) ≤ℤ pos 0 = not_positive_times h d lh hd in
    let more : pos 0 <ℤ (k *ℤ e) = mul_pos k e l he in
    omega (arith, ints)

-- where the third line is over the first, and all three are as high, it turns up from the second or the second from the first
between_turns : (g12 a12 g23 a23 a13 d e f : ℤ) → pos 0 <ℤ d → pos 0 <ℤ e → pos 0 <ℤ f → a13 *ℤ e ≡ (a12 *ℤ f) +ℤ (a23 *ℤ d) →
    g12 ≡ pos 0 → g23 ≡ pos 0 → pos 0 <ℤ a13 → Over g12 a12 ⊎ Over g23 a23
between_turns g12 a12 g23 a23 a13 d e f hd he hf turns z12 z23 up =
    by_lt_z (pos 0) a12 (λ l. inl (turning z12 l))
    (λ l. by_lt_z (pos 0) a23 (λ m. inr (turning z23 m)) (λ m. absurd (one_positive a12 a23 a13 d e f hd he hf turns up (omega (arith, ints)) (omega (arith, ints)))))

-- where the third line is over the first, the second is over the first or the third over the second
between_lines : (g12 a12 g23 a23 g13 a13 d e f : ℤ) → pos 0 <ℤ d → pos 0 <ℤ e → pos 0 <ℤ f → g13 *ℤ e ≡ (g12 *ℤ f) +ℤ (g23 *ℤ d) → a13 *ℤ e ≡ (a12 *ℤ f) +ℤ (a23 *ℤ d) →
    Over g13 a13 → Over g12 a12 ⊎ Over g23 a23
between_lines g12 a12 g23 a23 g13 a13 d e f hd he hf sums turns h =
    by_lt_z (pos 0) g12 (λ l. inl (higher l)) (λ l. by_lt_z (pos 0) g23 (λ m. inr (higher m)) (λ m. by_height h (omega (arith, ints)) (omega (arith, ints))))
  where
    by_height : Over g13 a13 → g12 ≤ℤ pos 0 → g23 ≤ℤ pos 0 → Over g12 a12 ⊎ Over g23 a23
    by_height (higher up) l m = absurd (one_positive g12 g23 g13 d e f hd he hf sums up l m)
    by_height (turning level up) l m =
        let zeros = both_zero g12 g23 d f hd hf l m (sym sums ∙ ap (λ z. z *ℤ e) level ∙ zero-*ℤ e) in
        between_turns g12 a12 g23 a23 a13 d e f hd he hf turns zeros.0 zeros.1 up

-- lines of which neither is over the other are one
level_lines : (g a h b : ℤ) → g +ℤ h ≡ pos 0 → a +ℤ b ≡ pos 0 → (Over g a → ⊥) → (Over h b → ⊥) → (g ≡ pos 0) × (a ≡ pos 0)
level_lines g a h b sums turns no_g no_h =
    by_lt_z (pos 0) g (λ l. absurd (no_g (higher l)))
    (λ l. by_lt_z (pos 0) h (λ m. absurd (no_h (higher m)))
    (λ m.
    let z : g ≡ pos 0 = omega (arith, ints) in
    let y : h ≡ pos 0 = omega (arith, ints) in
    by_lt_z (pos 0) a (λ n. absurd (no_g (turning z n))) (λ n. by_lt_z (pos 0) b (λ o. absurd (no_h (turning y o))) (λ o. (z, omega (arith, ints))))))

-- a difference, and the other way round
difference_back : (x y : ℤ) → (x -ℤ y) +ℤ (y -ℤ x) ≡ pos 0
difference_back x y = omega (arith, ints)

-- a segment that passes over an x
pub record IsOverX (s : Segment) (q : Point) : Type 0 where
  pub from_left : (s.left.x *ℤ q.w) ≤ℤ q.x
  pub before_right : q.x <ℤ (s.right.x *ℤ q.w)

pub over_x_told : (s : Segment) (q : Point) → is_over_x s q ≡ true → IsOverX s q
over_x_told s q h =
    let parts = and_parts (int_le (s.left.x *ℤ q.w) q.x) (int_lt q.x (s.right.x *ℤ q.w)) h in
    record { from_left = le_true _ _ parts.0; before_right = lt_true _ _ parts.1 }

module _ (q : Point) (positive : pos 0 <ℤ q.w) where
  -- a segment over an x is not vertical
  pub over_wide : (s : Segment) → is_over_x s q ≡ true → pos 0 <ℤ width s
  over_wide s h =
      let over : IsOverX s q = over_x_told s q h in
      let from : (s.left.x *ℤ q.w) ≤ℤ q.x = over.from_left in
      let to : q.x <ℤ (s.right.x *ℤ q.w) = over.before_right in
      let ahead : s.left.x <ℤ s.right.x = less_back s.left.x s.right.x q.w positive (omega (arith, ints)) in
      omega (arith, ints)

  -- the two differences of two segments
  gaps : (s t : Segment) → gap s t q +ℤ gap t s q ≡ pos 0
  gaps s t = difference_back (width s *ℤ line_height t q) (width t *ℤ line_height s q)

  turns : (s t : Segment) → turn_of s t +ℤ turn_of t s ≡ pos 0
  turns s t = turn_back (width s) (rise s) (width t) (rise t)

  -- segments are ordered by which is under which
  pub under_orders : Orders (λ s. is_over_x s q) (λ s t. is_under s t q)
  under_orders = record {
    apart = λ a b oa ob h k. not_both (gap a b q) (turn_of a b) (gap b a q) (turn_of b a) (gaps a b) (turns a b) (over_told (gap a b q) (turn_of a b) h) (over_told (gap b a q) (turn_of b a) k);
    between = λ a b c oa ob oc h.
        split_told a b c
        (between_lines (gap a b q) (turn_of a b) (gap b c q) (turn_of b c) (gap a c q) (turn_of a c) (width a) (width b) (width c) (over_wide a oa) (over_wide b ob) (over_wide c oc)
        (forms_add (width a) (line_height a q) (width b) (line_height b q) (width c) (line_height c q))
        (turns_add (width a) (rise a) (width b) (rise b) (width c) (rise c))
        (over_told (gap a c q) (turn_of a c) h));
  }
    where
      split_told : (a b c : Segment) → Over (gap a b q) (turn_of a b) ⊎ Over (gap b c q) (turn_of b c) → (is_under a b q ≡ true) ⊎ (is_under b c q ≡ true)
      split_told a b c (inl h) = inl (over_test (gap a b q) (turn_of a b) h)
      split_told a b c (inr h) = inr (over_test (gap b c q) (turn_of b c) h)

  -- of two segments on one line neither is under the other
  pub level_under : (s t : Segment) → is_level s t q ≡ true → is_under s t q ≡ false
  level_under s t h =
      let parts = and_parts (int_eq (gap s t q) (pos 0)) (int_eq (turn_of s t) (pos 0)) h in
      false_from_ne_true (is_under s t q) (λ k. no_over (gap s t q) (turn_of s t) ((Decides-int_eq (gap s t q) (pos 0)).0 parts.0) ((Decides-int_eq (turn_of s t) (pos 0)).0 parts.1) (over_told (gap s t q) (turn_of s t) k))
    where
      no_over : (g a : ℤ) → g ≡ pos 0 → a ≡ pos 0 → Over g a → ⊥
      no_over g a e f (higher l) = omega (arith, ints)
      no_over g a e f (turning k l) = omega (arith, ints)

  -- the test for one line, by the two differences
  pub level_test : (s t : Segment) → gap s t q ≡ pos 0 → turn_of s t ≡ pos 0 → is_level s t q ≡ true
  level_test s t e f = and_from _ _ ((Decides-int_eq (gap s t q) (pos 0)).1 e) ((Decides-int_eq (turn_of s t) (pos 0)).1 f)

  -- one line, the other way round
  pub level_back : (s t : Segment) → is_level s t q ≡ true → is_level t s q ≡ true
  level_back s t h =
      let parts = and_parts (int_eq (gap s t q) (pos 0)) (int_eq (turn_of s t) (pos 0)) h in
      level_test t s (other (gap s t q) (gap t s q) (gaps s t) ((Decides-int_eq (gap s t q) (pos 0)).0 parts.0)) (other (turn_of s t) (turn_of t s) (turns s t) ((Decides-int_eq (turn_of s t) (pos 0)).0 parts.1))
    where
      other : (a b : ℤ) → a +ℤ b ≡ pos 0 → a ≡ pos 0 → b ≡ pos 0
      other a b e f = omega (arith, ints)

  -- segments of which neither is under the other are on one line
  pub none_under : (s t : Segment) → is_under s t q ≡ false → is_under t s q ≡ false → is_level s t q ≡ true
  none_under s t no_st no_ts =
      let zeros = level_lines (gap s t q) (turn_of s t) (gap t s q) (turn_of t s) (gaps s t) (turns s t)
      (λ h. both_ways (is_under s t q) no_st (over_test (gap s t q) (turn_of s t) h))
      (λ h. both_ways (is_under t s q) no_ts (over_test (gap t s q) (turn_of t s) h)) in
      level_test s t zeros.0 zeros.1

  -- a line that is under another is no higher
  pub gap_from_under : (s t : Segment) → is_under s t q ≡ true → pos 0 ≤ℤ gap s t q
  gap_from_under s t h = no_lower (gap s t q) (turn_of s t) (over_told (gap s t q) (turn_of s t) h)
    where
      no_lower : (g a : ℤ) → Over g a → pos 0 ≤ℤ g
      no_lower g a (higher l) = omega (arith, ints)
      no_lower g a (turning e l) = omega (arith, ints)

  -- a line that is lower is under another
  pub under_from_gap : (s t : Segment) → pos 0 <ℤ gap s t q → is_under s t q ≡ true
  under_from_gap s t h = over_test (gap s t q) (turn_of s t) (higher h)
