-- From the highest of some ordered segments to what lies above it: what is up to the one is what passes a lower test.
use Rattle.std.specs.Prelude.{◌≡◌, ℕ, ℤ, pos, suc, ◌<◌, ◌⊎◌, ◌-ℤ◌, ◌*ℤ◌, ◌<ℤ◌, ◌≤ℤ◌, int_le, Bool, true, false, ◌||◌, ltb, List, length, get_or, All, Any, Contains}
use Rattle.std.specs.List.{AllPairs}
use Rattle.std.proofs.Common.{inl, inr, ap, sym, ◌∙◌, arith}
use Rattle.std.proofs.lemmas.Int.{ints, by_lt_z}
use Rattle.std.proofs.lemmas.Bool.{both_ways, or_left, or_right, or_cases, false_from_ne_true}
use Rattle.std.proofs.lemmas.List.{get_or_default}
use Rattle.overlay_terms.specs.Plane.{Point, Segment, height_over}
use Rattle.overlay_terms.specs.Tiles.{Input}
use Rattle.overlay_terms.proofs.InputNumbers.{le_true, true_le}
use Rattle.overlay_terms.proofs.Tests.{same_tests}
use Rattle.tile_laws.proofs.JustRight.{is_over_x, is_under, is_level, bits_where, under_bits, up_to_bits}
use Rattle.tile_laws.proofs.Statements.{segments_in}
use Rattle.tile_laws.proofs.Ranks.{Told, yes, no, told, Orders, IsLower}
use Rattle.tile_laws.proofs.UnderLemmas.{over_wide, under_orders, level_under, level_back, none_under, gap_from_under, under_from_gap}
use Rattle.tile_laws.proofs.RankedBits.{bits_alike, below_none, no_bits, rank_of}
use Rattle.tile_laws.proofs.UprightSides.{is_not_over}
use Rattle.exact_point.proofs.Lines.{width, gap, heights_give_gap}
use Rattle.exact_point.proofs.Signs.{not_negative_times, negative_times}

-- ---- over opaque numbers
sinks : (h e k d g : ℤ) → pos 0 <ℤ e → pos 0 <ℤ d → (h *ℤ e) -ℤ (k *ℤ d) ≡ g → pos 0 ≤ℤ k → pos 0 ≤ℤ g → pos 0 ≤ℤ h
sinks h e k d g he hd form hk hg =
    by_lt_z h (pos 0) (λ l. absurd (omega (arith, ints, form, hg, negative_times h e l he, not_negative_times k d hk hd))) (λ l. l)

parted : (h e k d g : ℤ) → pos 0 <ℤ e → pos 0 <ℤ d → (h *ℤ e) -ℤ (k *ℤ d) ≡ g → pos 0 ≤ℤ h → k <ℤ pos 0 → pos 0 <ℤ g
parted h e k d g he hd form hh hk = omega (arith, ints, form, not_negative_times h e hh he, negative_times k d hk hd)

module _ (q : Point) (positive : pos 0 <ℤ q.w) where
  orders : Orders (λ s. is_over_x s q) (λ s t. is_under s t q)
  orders = under_orders q positive

  -- a test of segments over the x that what is under one that passes passes too
  abbrev pub IsLowerTest : (Segment → Bool) → Type 0
  IsLowerTest test = IsLower (λ s. is_over_x s q) (λ s t. is_under s t q) test

  -- what is under a segment
  pub under_is_lower : (e : Segment) → is_over_x e q ≡ true → IsLowerTest (λ t. is_under t e q)
  under_is_lower e over_e = record {
    down = λ a b over_a over_b h under. first a b over_a over_b h under (orders.between b a e over_b over_a over_e h);
    up = λ a b over_a over_b h out. second a b out (orders.between a b e over_a over_b over_e h);
  }
    where
      first : (a b : Segment) → is_over_x a q ≡ true → is_over_x b q ≡ true → is_under b e q ≡ true → is_under a b q ≡ true → (is_under b a q ≡ true) ⊎ (is_under a e q ≡ true) → is_under a e q ≡ true
      first a b over_a over_b h under (inl k) = absurd (orders.apart a b over_a over_b under k)
      first a b over_a over_b h under (inr k) = k

      second : (a b : Segment) → is_under b e q ≡ false → (is_under a b q ≡ true) ⊎ (is_under b e q ≡ true) → is_under a b q ≡ true
      second a b out (inl k) = k
      second a b out (inr k) = absurd (both_ways (is_under b e q) out k)

  -- what does not pass over the place
  pub not_over_is_lower : IsLowerTest (λ t. is_not_over t q)
  not_over_is_lower = record {
    down = λ a b over_a over_b h under.
        true_le (pos 0) (height_over a q)
        (sinks (height_over a q) (width b) (height_over b q) (width a) (gap a b q) (over_wide q positive b over_b) (over_wide q positive a over_a) (heights_give_gap a b q) (le_true (pos 0) (height_over b q) h) (gap_from_under q positive a b under));
    up = λ a b over_a over_b h out.
        under_from_gap q positive a b
        (parted (height_over a q) (width b) (height_over b q) (width a) (gap a b q) (over_wide q positive b over_b) (over_wide q positive a over_a) (heights_give_gap a b q) (le_true (pos 0) (height_over a q) h) (negative (height_over b q) out));
  }
    where
      negative : (k : ℤ) → int_le (pos 0) k ≡ false → k <ℤ pos 0
      negative k h = grind (arith, ints, h)

  -- ---- segments on one line
  pub level_through : (a b c : Segment) → is_over_x a q ≡ true → is_over_x b q ≡ true → is_over_x c q ≡ true → is_level a b q ≡ true → is_level b c q ≡ true → is_level a c q ≡ true
  level_through a b c over_a over_b over_c h k = none_under q positive a c (apart_by a b c over_a over_b over_c h k) (apart_by c b a over_c over_b over_a (level_back q positive b c k) (level_back q positive a b h))
    where
      apart_by : (a b c : Segment) → is_over_x a q ≡ true → is_over_x b q ≡ true → is_over_x c q ≡ true → is_level a b q ≡ true → is_level b c q ≡ true → is_under a c q ≡ false
      apart_by a b c over_a over_b over_c h k = false_from_ne_true (is_under a c q) (λ l. by (orders.between a b c over_a over_b over_c l)) where
        by : (is_under a b q ≡ true) ⊎ (is_under b c q ≡ true) → ⊥
        by (inl m) = both_ways (is_under a b q) (level_under q positive a b h) m
        by (inr m) = both_ways (is_under b c q) (level_under q positive b c k) m

  module _ (test : Segment → Bool) (lower : IsLowerTest test) where
    -- pass a lower test both or neither
    level_passes : (a b : Segment) → is_over_x a q ≡ true → is_over_x b q ≡ true → is_level a b q ≡ true → test a ≡ true → test b ≡ true
    level_passes a b over_a over_b h pass = by (told (test b)) where
      by : Told (test b) → test b ≡ true
      by (yes e) = e
      by (no e) = absurd (both_ways (is_under a b q) (level_under q positive a b h) (lower.up a b over_a over_b pass e))

    pub level_tests : (a b : Segment) → is_over_x a q ≡ true → is_over_x b q ≡ true → is_level a b q ≡ true → test a ≡ test b
    level_tests a b over_a over_b h = same_tests (test a) (test b) (level_passes a b over_a over_b h) (level_passes b a over_b over_a (level_back q positive a b h))

  -- what is under one is under the other
  pub level_under_alike : (s t u : Segment) → is_over_x s q ≡ true → is_over_x t q ≡ true → is_over_x u q ≡ true → is_level s t q ≡ true → is_under u s q ≡ is_under u t q
  level_under_alike s t u over_s over_t over_u h = same_tests (is_under u s q) (is_under u t q) (one s t over_s over_t h) (one t s over_t over_s (level_back q positive s t h))
    where
      one : (s t : Segment) → is_over_x s q ≡ true → is_over_x t q ≡ true → is_level s t q ≡ true → is_under u s q ≡ true → is_under u t q ≡ true
      one s t over_s over_t h k = by (orders.between u t s over_u over_t over_s k) where
        by : (is_under u t q ≡ true) ⊎ (is_under t s q ≡ true) → is_under u t q ≡ true
        by (inl m) = m
        by (inr m) = absurd (both_ways (is_under t s q) (level_under q positive t s (level_back q positive s t h)) m)

  -- the same, the other way round
  pub level_over_alike : (s t u : Segment) → is_over_x s q ≡ true → is_over_x t q ≡ true → is_over_x u q ≡ true → is_level s t q ≡ true → is_under s u q ≡ is_under t u q
  level_over_alike s t u over_s over_t over_u h = level_tests (λ v. is_under v u q) (under_is_lower u over_u) s t over_s over_t h

  -- what is on the line of one is on that of the other
  pub level_alike : (s t u : Segment) → is_over_x s q ≡ true → is_over_x t q ≡ true → is_over_x u q ≡ true → is_level s t q ≡ true → is_level u s q ≡ is_level u t q
  level_alike s t u over_s over_t over_u h =
      same_tests (is_level u s q) (is_level u t q) (λ k. level_through u s t over_u over_s over_t k h) (λ k. level_through u t s over_u over_t over_s k (level_back q positive s t h))

  module _ (input : Input) where
    -- so the bits under the one line are those under the other, and up to it
    pub under_bits_alike : (s t : Segment) → is_over_x s q ≡ true → is_over_x t q ≡ true → is_level s t q ≡ true → under_bits input.marked s q ≡ under_bits input.marked t q
    under_bits_alike s t over_s over_t h = bits_alike input q positive (λ u. is_under u s q) (λ u. is_under u t q) (λ u among over_u. level_under_alike s t u over_s over_t over_u h)

    pub up_to_bits_alike : (s t : Segment) → is_over_x s q ≡ true → is_over_x t q ≡ true → is_level s t q ≡ true → up_to_bits input.marked s q ≡ up_to_bits input.marked t q
    up_to_bits_alike s t over_s over_t h =
        bits_alike input q positive (λ u. is_under u s q || is_level u s q) (λ u. is_under u t q || is_level u t q)
        (λ u among over_u. ap (λ b. b || is_level u s q) (level_under_alike s t u over_s over_t over_u h) ∙ ap (λ b. is_under u t q || b) (level_alike s t u over_s over_t over_u h))

    -- ---- some segments that pass a lower test, in order, on whose lines lies all that passes it
    pub record AreBelow (test : Segment → Bool) (below : List Segment) : Type 0 where
      pub ordered : AllPairs (λ a b. is_under a b q ≡ true) below
      pub over : All (λ a. is_over_x a q ≡ true) below
      pub passes : All (λ a. test a ≡ true) below
      pub complete : (t : Segment) → Contains (segments_in input) t → is_over_x t q ≡ true → test t ≡ true → Any (λ a. is_level t a q ≡ true) below

    module _ (test : Segment → Bool) (lower : IsLowerTest test) (below : List Segment) (are : AreBelow test below) where
      module _ (k : ℕ) (last : length below ≡ suc k) (d : Segment) where
        abbrev a : Segment
        a = get_or below k d

        over_a : is_over_x (get_or below k d) q ≡ true
        over_a = are.over k d (omega (arith, last))

        order_of : (i k : ℕ) → i < suc k → (i < k) ⊎ (i ≡ k)
        order_of i k h = grind (arith, h)

        -- on the line of one of them is up to the highest
        up_to : (t : Segment) → is_over_x t q ≡ true → Any (λ b. is_level t b q ≡ true) below → (is_under t a q || is_level t a q) ≡ true
        up_to t over_t (i, b, l, at, level) = by (order_of i k (omega (arith, l, last)))
          where
            here : is_level t (get_or below i d) q ≡ true
            here = ap (λ c. is_level t c q) (get_or_default below i d b l ∙ at) ∙ level

            first : i < k → (is_under (get_or below i d) t q ≡ true) ⊎ (is_under t a q ≡ true) → is_under t a q ≡ true
            first m (inl h) = absurd (both_ways (is_under (get_or below i d) t q) (level_under q positive (get_or below i d) t (level_back q positive t (get_or below i d) here)) h)
            first m (inr h) = h

            by : (i < k) ⊎ (i ≡ k) → (is_under t a q || is_level t a q) ≡ true
            by (inl m) =
                or_left (is_under t a q) (is_level t a q)
                (first m (orders.between (get_or below i d) t a (are.over i d l) over_t over_a (are.ordered i k d m (omega (arith, last)))))
            by (inr m) = or_right (is_under t a q) (is_level t a q) (ap (λ j. is_level t (get_or below j d) q) (sym m) ∙ here)

        -- up to the highest passes
        passes_it : (t : Segment) → is_over_x t q ≡ true → (is_under t a q || is_level t a q) ≡ true → test t ≡ true
        passes_it t over_t h = by (or_cases (is_under t a q) (is_level t a q) h)
          where
            here : test a ≡ true
            here = are.passes k d (omega (arith, last))

            by : (is_under t a q ≡ true) ⊎ (is_level t a q ≡ true) → test t ≡ true
            by (inl m) = lower.down t a over_t over_a here m
            by (inr m) = level_tests test lower t a over_t over_a m ∙ here

        -- so the masks agree
        pub step_up : up_to_bits input.marked (get_or below k d) q ≡ bits_where test input.marked q
        step_up =
            bits_alike input q positive (λ t. is_under t a q || is_level t a q) test
            (λ t among over_t. same_tests (is_under t a q || is_level t a q) (test t) (passes_it t over_t) (λ h. up_to t over_t (are.complete t among over_t h)))

      -- where there are none of them, nothing passes
      pub none_below : length below ≡ 0 → bits_where test input.marked q ≡ (λ k. false)
      none_below none =
          bits_alike input q positive test (λ t. ltb (rank_of input q positive t) 0)
          (λ t among over_t. false_from_ne_true (test t) (λ h. no_one (are.complete t among over_t h)) ∙ sym (below_none (rank_of input q positive t)))
          ∙ no_bits input q positive
        where
          no_one : {P : Segment → Type 0} → Any P below → ⊥
          no_one c = omega (arith, c.2, none)
