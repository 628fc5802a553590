-- A mask with one bit turned, against a count that grows by one.
use Rattle.std.proofs.Common.{◌≡◌, ◌≢◌, ℕ, ◌+◌, ◌*◌, ◌%◌, ◌^◌, ◌<◌, ◌==◌, Bool, true, false, ◌&&◌, ◌⊎◌, inl, inr, List, [], ◌∷◌, map, fold, cond, length, get_or, take, bit_xor, refl, ap, sym, ◌∙◌, arith}
use Rattle.std.specs.Prelude.{Contains}
use Rattle.std.specs.Int.{bit_at}
use Rattle.std.proofs.lemmas.Bool.{cases_eq, eq-eqb, ne_eqb, and_from}
use Rattle.std.proofs.lemmas.Nat.Bits.{bit_at_xor, bit_at-pow_same, bit_at-pow_other, bit_at-lt}
use Rattle.std.proofs.lemmas.List.Sums.{count_by_more_no, count_by_more_yes}
use Rattle.std.proofs.lemmas.Bool.Decides.{nat_tests}
use Rattle.std.proofs.Math.Pow.{pow-lt}
use Rattle.overlay_terms.specs.Plane.{Point, is_on}
use Rattle.overlay_terms.specs.Trees.{mask_bits}
use Rattle.overlay_terms.specs.Layers.{Marked}
use Rattle.overlay_terms.specs.Tiles.{midpoint}
use Rattle.overlay_terms.proofs.BitLemmas.{bit_stays}
use Rattle.overlay_terms.proofs.Lists.{contains_first, contains_rest}
use Rattle.arrange.specs.Arrangement.{on_bits}
use Rattle.arrange.specs.Marked.{marked_of}
use Rattle.arrange.specs.Masks.{holding_count, holding_bits}
use Rattle.arrange.specs.declared.marked_seg.MarkedSeg.{MarkedSeg}

-- an odd number is one whose bit is 1
odd_flips : (b n : ℕ) → b < 2 → (b == 1) ≡ (n % 2 == 1) → ((b + 1) % 2 == 1) ≡ ((n + 1) % 2 == 1)
odd_flips b n h e = grind (arith, nat_tests)

-- a bit that is turned
pub turned_bit : (mask k n : ℕ) → mask_bits mask k ≡ (n % 2 == 1) → mask_bits (bit_xor mask (2 ^ k)) k ≡ ((n + 1) % 2 == 1)
turned_bit mask k n e =
    ap (λ b. b == 1) (bit_at_xor mask (2 ^ k) k ∙ ap (λ b. (bit_at mask k + b) % 2) (bit_at-pow_same k))
    ∙ odd_flips (bit_at mask k) n (bit_at-lt mask k) e

-- the other bits stay
pub other_bit : (mask j k : ℕ) → k ≢ j → mask_bits (bit_xor mask (2 ^ j)) k ≡ mask_bits mask k
other_bit mask j k n =
    ap (λ b. b == 1) (bit_at_xor mask (2 ^ j) k ∙ ap (λ b. (bit_at mask k + b) % 2) (bit_at-pow_other j k n) ∙ bit_stays (bit_at mask k) (bit_at-lt mask k))

module _ (marked : List MarkedSeg) (p r : Point) (k i : ℕ) (x : MarkedSeg) (within : i < length marked) (is : x ≡ get_or marked i x) (mask : ℕ)
    (so_far : mask_bits mask k ≡ holding_bits (take i marked) p r k) where
  abbrev Test : MarkedSeg → Bool
  Test m = (m.layer == k) && (is_on m.seg p && is_on m.seg r)

  at_item : (b : Bool) → Test x ≡ b → Test (get_or marked i x) ≡ b
  at_item b e = ap Test (sym is) ∙ e

  -- a segment that does not count leaves the mask as it is
  none_more : Test x ≡ false → mask_bits mask k ≡ holding_bits (take (i + 1) marked) p r k
  none_more e = so_far ∙ ap (λ n. n % 2 == 1) (sym (count_by_more_no Test marked i x within (at_item false e)))

  -- a segment that does not hold both
  pub skipped : (is_on x.seg p && is_on x.seg r) ≡ false → mask_bits mask k ≡ holding_bits (take (i + 1) marked) p r k
  skipped e = none_more (off (x.layer == k) (is_on x.seg p && is_on x.seg r) e) where
    off : (a b : Bool) → b ≡ false → (a && b) ≡ false
    off true b f = f
    off false b f = refl

  -- a segment that holds both turns the bit of its layer
  pub turned : (is_on x.seg p && is_on x.seg r) ≡ true → mask_bits (bit_xor mask (2 ^ x.layer)) k ≡ holding_bits (take (i + 1) marked) p r k
  turned e = by (cases_eq k x.layer) where
    by : (k ≡ x.layer) ⊎ (k ≢ x.layer) → mask_bits (bit_xor mask (2 ^ x.layer)) k ≡ holding_bits (take (i + 1) marked) p r k
    by (inl same) =
        ap (λ j. mask_bits (bit_xor mask (2 ^ j)) k) (sym same)
        ∙ turned_bit mask k (holding_count (take i marked) p r k) so_far
        ∙ ap (λ n. n % 2 == 1) (sym (count_by_more_yes Test marked i x within (at_item true (and_from (x.layer == k) (is_on x.seg p && is_on x.seg r) (eq-eqb x.layer k (sym same)) e))))
    by (inr other) =
        other_bit mask x.layer k other
        ∙ none_more (ap (λ b. b && (is_on x.seg p && is_on x.seg r)) (ne_eqb x.layer k (λ f. other (sym f))))

one_factor : (n : ℕ) → 1 * n ≡ n
one_factor n = omega arith

small_rest : (n m : ℕ) → n < m → n % m ≡ n
small_rest n m h = grind arith

-- a bit of 32, as the code shifts it
pub shifted : (j : ℕ) → j < 32 → 1 * 2 ^ j % 4294967296 ≡ 2 ^ j
shifted j h =
    let below : 2 ^ j < 2 ^ 32 = pow-lt h in
    ap (λ n. n % 4294967296) (one_factor (2 ^ j)) ∙ small_rest (2 ^ j) 4294967296 below

-- counts by tests that agree
counts : {X Y : Type 0} (p : X → Bool) (q : Y → Bool) (v : X → Y) (xs : List X) (a : ℕ) → ((x : X) → Contains xs x → p x ≡ q (v x))
    → fold (λ (n : ℕ) (x : X). n + cond (p x) 1 0) a xs ≡ fold (λ (n : ℕ) (y : Y). n + cond (q y) 1 0) a (map v xs)
counts p q v [] a h = refl
counts {X} {Y} p q v (x ∷ xs) a h =
    ap (λ b. fold (λ (n : ℕ) (x : X). n + cond (p x) 1 0) (a + cond b 1 0) xs) (h x (contains_first x xs))
    ∙ counts p q v xs (a + cond (q (v x)) 1 0) (λ y c. h y (contains_rest x xs y c))

-- where the segments that hold both points are those that hold their middle, the mask is that of the middle
pub middle_mask : (items : List MarkedSeg) (p r : Point) (k : ℕ) → ((m : MarkedSeg) → Contains items m → (is_on m.seg p && is_on m.seg r) ≡ is_on m.seg (midpoint p r))
    → holding_bits items p r k ≡ on_bits (map marked_of items) (midpoint p r) k
middle_mask items p r k h =
    ap (λ n. n % 2 == 1)
    (counts (λ (m : MarkedSeg). (m.layer == k) && (is_on m.seg p && is_on m.seg r)) (λ (m : Marked). (m.layer == k) && is_on m.segment (midpoint p r)) marked_of items 0
    (λ m c. ap (λ b. (m.layer == k) && b) (h m c)))
