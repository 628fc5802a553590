-- The parities of what lies under a segment, on its line and under a place, by the ranks of the segments there.
use Rattle.std.specs.Prelude.{◌≡◌, ℕ, suc, ℤ, pos, ◌<◌, ◌-ℤ◌, ◌*ℤ◌, ◌<ℤ◌, ◌≤ℤ◌, ◌%◌, ◌==◌, int_lt, Bool, true, false, ◌&&◌, ◌||◌, ltb, List, [], ◌∷◌, map, get_or, All, Contains}
use Rattle.std.proofs.Common.{refl, ap, sym, ◌∙◌, arith, inl, inr}
use Rattle.std.proofs.lemmas.Int.{ints}
use Rattle.std.proofs.lemmas.Bool.{both_ways, and_right, or_cases, or_left, or_right, ltb-true, lt-ltb, false_from_ne_true}
use Rattle.std.proofs.lemmas.List.Elements.{All-nil, All-cons, All-weaker}
use Rattle.overlay_terms.specs.Plane.{Point, Segment, height_over}
use Rattle.overlay_terms.specs.Layers.{Marked}
use Rattle.overlay_terms.specs.Tiles.{Input, below_bits}
use Rattle.overlay_terms.proofs.Difference.{mul_pos}
use Rattle.overlay_terms.proofs.Functions.{fun_ext}
use Rattle.overlay_terms.proofs.InputNumbers.{lt_true, true_lt}
use Rattle.overlay_terms.proofs.Tests.{same_tests, same_behind}
use Rattle.overlay_terms.proofs.Lists.{contains_rest}
use Rattle.exact_point.proofs.Lines.{width, gap, heights_give_gap}
use Rattle.exact_point.proofs.Signs.{not_positive_times, positive_factor}
use Rattle.tile_laws.proofs.JustRight.{is_over_x, is_under, is_level, bits_where, under_bits, up_to_bits}
use Rattle.tile_laws.proofs.Statements.{segments_in}
use Rattle.tile_laws.proofs.Counts.{count_alike, count_none}
use Rattle.tile_laws.proofs.Ranks.{yes, no, told, IsLower, rank, rank_level, under_is, level_from_rank, bound, below_is}
use Rattle.tile_laws.proofs.UnderLemmas.{over_wide, under_orders, level_under, level_back, none_under, gap_from_under, under_from_gap}

-- each segment of marked ones is among them
all_among : (marked : List Marked) → All (λ m. Contains (map (λ m. m.segment) marked) m.segment) marked
all_among [] = All-nil (λ (m : Marked). Contains [] m.segment)
all_among (m ∷ marked) =
    All-cons (λ (n : Marked). Contains (m.segment ∷ map (λ m. m.segment) marked) n.segment) m marked (0, omega arith, refl)
    (All-weaker (λ (n : Marked). Contains (map (λ m. m.segment) marked) n.segment) (λ n. Contains (m.segment ∷ map (λ m. m.segment) marked) n.segment) (λ n. contains_rest m.segment (map (λ m. m.segment) marked) n.segment) marked (all_among marked))

-- a number below 0
pub below_none : (n : ℕ) → ltb n 0 ≡ false
below_none n = false_from_ne_true (ltb n 0) (λ h. let l : n < 0 = ltb-true n 0 h in omega arith)

-- a number is not positive where the test says so
not_positive : (a : ℤ) → int_lt (pos 0) a ≡ false → a ≤ℤ pos 0
not_positive a h = grind (arith, ints)

module _ (input : Input) (q : Point) (positive : pos 0 <ℤ q.w) where
  -- how many segments of the input are under a segment over the x
  abbrev pub rank_of : Segment → ℕ
  rank_of s = rank (λ t. is_over_x t q) (λ t u. is_under t u q) (segments_in input) s

  -- which base layers have an odd number of segments over the x with a rank below a number
  abbrev pub ranked_bits : ℕ → ℕ → Bool
  ranked_bits n = bits_where (λ t. ltb (rank_of t) n) input.marked q

  -- tests that agree on the segments over the x have the same parities
  pub bits_alike : (f g : Segment → Bool) → ((s : Segment) → Contains (segments_in input) s → is_over_x s q ≡ true → f s ≡ g s) → bits_where f input.marked q ≡ bits_where g input.marked q
  bits_alike f g h =
      fun_ext (λ k. ap (λ n. n % 2 == 1)
      (count_alike (λ (m : Marked). (m.layer == k) && (is_over_x m.segment q && f m.segment)) (λ m. (m.layer == k) && (is_over_x m.segment q && g m.segment)) input.marked
      (All-weaker (λ (m : Marked). Contains (segments_in input) m.segment) (λ m. ((m.layer == k) && (is_over_x m.segment q && f m.segment)) ≡ ((m.layer == k) && (is_over_x m.segment q && g m.segment)))
      (λ m among. ap (λ b. (m.layer == k) && b) (same_behind (is_over_x m.segment q) (f m.segment) (g m.segment) (h m.segment among))) input.marked (all_among input.marked))))

  -- no rank is below 0
  pub no_bits : ranked_bits 0 ≡ (λ k. false)
  no_bits =
      fun_ext (λ k. ap (λ n. n % 2 == 1)
      (count_none (λ (m : Marked). (m.layer == k) && (is_over_x m.segment q && ltb (rank_of m.segment) 0)) input.marked (λ i d l. let m : Marked = get_or input.marked i d in and_right (m.layer == k) _ (and_right (is_over_x m.segment q) (ltb (rank_of m.segment) 0) (below_none (rank_of m.segment))))))

  module _ (s : Segment) (among : Contains (segments_in input) s) (over : is_over_x s q ≡ true) where
    -- what is under a segment has a lower rank
    pub under_ranked : under_bits input.marked s q ≡ ranked_bits (rank_of s)
    under_ranked = bits_alike (λ t. is_under t s q) (λ t. ltb (rank_of t) (rank_of s)) (λ t among_t over_t. under_is (λ t. is_over_x t q) (λ t u. is_under t u q) (segments_in input) (under_orders q positive) t s among_t among over_t over)

    -- what is on one line with it has its rank
    pub level_ranked : (t : Segment) → is_over_x t q ≡ true → is_level t s q ≡ true → rank_of t ≡ rank_of s
    level_ranked t over_t h =
        rank_level (λ t. is_over_x t q) (λ t u. is_under t u q) (segments_in input) (under_orders q positive) t s over_t over (level_under q positive t s h) (level_under q positive s t (level_back q positive t s h))

    -- what has its rank is on one line with it
    pub ranked_level : (t : Segment) → Contains (segments_in input) t → is_over_x t q ≡ true → rank_of t ≡ rank_of s → is_level t s q ≡ true
    ranked_level t among_t over_t same =
        none_under q positive t s
        (level_from_rank (λ t. is_over_x t q) (λ t u. is_under t u q) (segments_in input) (under_orders q positive) t s among_t over_t over same)
        (level_from_rank (λ t. is_over_x t q) (λ t u. is_under t u q) (segments_in input) (under_orders q positive) s t among over over_t (sym same))

    -- under it or on its line, by ranks
    up_to_test : (t : Segment) → Contains (segments_in input) t → is_over_x t q ≡ true → (is_under t s q || is_level t s q) ≡ ltb (rank_of t) (suc (rank_of s))
    up_to_test t among_t over_t = same_tests _ _ forth back
      where
        test : is_under t s q ≡ ltb (rank_of t) (rank_of s)
        test = under_is (λ t. is_over_x t q) (λ t u. is_under t u q) (segments_in input) (under_orders q positive) t s among_t among over_t over

        forth : (is_under t s q || is_level t s q) ≡ true → ltb (rank_of t) (suc (rank_of s)) ≡ true
        forth h = elim (or_cases (is_under t s q) (is_level t s q) h) [
          | inl under ↦ let less : rank_of t < rank_of s = ltb-true _ _ (sym test ∙ under) in lt-ltb _ _ (omega arith)
          | inr level ↦ let same : rank_of t ≡ rank_of s = level_ranked t over_t level in lt-ltb _ _ (omega arith)
        ]

        back : ltb (rank_of t) (suc (rank_of s)) ≡ true → (is_under t s q || is_level t s q) ≡ true
        back h = elim (told (is_under t s q)) [
          | yes under ↦ or_left _ _ under
          | no out ↦ or_right (is_under t s q) _ (ranked_level t among_t over_t (equal (rank_of t) (rank_of s) (ltb-true _ _ h) (sym test ∙ out)))
        ]
          where
            equal : (a b : ℕ) → a < suc b → ltb a b ≡ false → a ≡ b
            equal a b l e = let f : (a < b → ⊥) = (λ m. both_ways (ltb a b) e (lt-ltb a b m)) in omega (arith, f)

    -- what is under a segment or on its line has no higher rank
    pub up_to_ranked : up_to_bits input.marked s q ≡ ranked_bits (suc (rank_of s))
    up_to_ranked = bits_alike (λ t. is_under t s q || is_level t s q) (λ t. ltb (rank_of t) (suc (rank_of s))) up_to_test

  -- whether the line of a segment is below the place
  abbrev pub is_lower : Segment → Bool
  is_lower s = int_lt (pos 0) (height_over s q)

  -- what is under a line below the place is below it, and what is not is over all that is
  pub lower_lines : IsLower (λ t. is_over_x t q) (λ t u. is_under t u q) is_lower
  lower_lines = record {
    down = λ a b over_a over_b h under.
        true_lt (pos 0) (height_over a q)
        (sinks (height_over a q) (width b) (height_over b q) (width a) (gap a b q) (over_wide q positive b over_b) (over_wide q positive a over_a) (heights_give_gap a b q) (lt_true (pos 0) (height_over b q) h) (gap_from_under q positive a b under));
    up = λ a b over_a over_b h out.
        under_from_gap q positive a b
        (parted (height_over a q) (width b) (height_over b q) (width a) (gap a b q) (over_wide q positive b over_b) (over_wide q positive a over_a) (heights_give_gap a b q) (lt_true (pos 0) (height_over a q) h) (not_positive (height_over b q) out));
  }
    where
      sinks : (h e k d g : ℤ) → pos 0 <ℤ e → pos 0 <ℤ d → (h *ℤ e) -ℤ (k *ℤ d) ≡ g → pos 0 <ℤ k → pos 0 ≤ℤ g → pos 0 <ℤ h
      sinks h e k d g he hd form hk hg = let more : pos 0 <ℤ (k *ℤ d) = mul_pos k d hk hd in positive_factor h e he (omega (arith, ints))

      parted : (h e k d g : ℤ) → pos 0 <ℤ e → pos 0 <ℤ d → (h *ℤ e) -ℤ (k *ℤ d) ≡ g → pos 0 <ℤ h → k ≤ℤ pos 0 → pos 0 <ℤ g
      parted h e k d g he hd form hh hk =
          let more : pos 0 <ℤ (h *ℤ e) = mul_pos h e hh he in
          let less : (k *ℤ d) ≤ℤ pos 0 = not_positive_times k d hk hd in
          omega (arith, ints)

  -- how many segments of the input are below the place
  abbrev pub place_rank : ℕ
  place_rank = bound (λ t. is_over_x t q) (λ t u. is_under t u q) (segments_in input) (under_orders q positive) is_lower lower_lines

  -- a line is below the place where its rank is below that number
  pub lower_ranked : (s : Segment) → Contains (segments_in input) s → is_over_x s q ≡ true → is_lower s ≡ ltb (rank_of s) place_rank
  lower_ranked = below_is (λ t. is_over_x t q) (λ t u. is_under t u q) (segments_in input) (under_orders q positive) is_lower lower_lines

  -- the parities below the place
  pub below_ranked : below_bits input.marked q ≡ ranked_bits place_rank
  below_ranked = bits_alike is_lower (λ t. ltb (rank_of t) place_rank) lower_ranked
