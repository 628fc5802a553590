-- Parities of the segments below a point and on it, and masks whose bits they are.
use Rattle.std.proofs.Common.{◌≡◌, ℕ, ◌+◌, ◌%◌, ◌<◌, ◌==◌, ℤ, pos, zero, suc, Bool, true, false, not, ◌&&◌, ◌||◌, cond, List, [], ◌∷◌, refl, ap, sym, ◌∙◌, arith, ⊎_elim, ◌^◌, ◌*ℤ◌}
use Rattle.std.specs.Prelude.{int_lt, int_le, if◌then◌else◌, sum_by}
use Rattle.std.specs.Ordering.{int_eq, is_lt, is_gt}
use Rattle.std.specs.Int.{bit_at}
use Rattle.std.specs.Int.RustNames.{bit_xor}
use Rattle.std.proofs.lemmas.Bool.{eq-eqb, ne_eqb, cases_eq}
use Rattle.std.proofs.lemmas.Bool.Decides.{nat_tests, Decides-int_eq}
use Rattle.std.proofs.lemmas.List.Sums.{sum_by-cons}
use Rattle.std.proofs.lemmas.Nat.Bits.{bit_at_xor, bit_at-lt, bit_at-pow_same, bit_at-pow_other}
use Rattle.overlay_terms.specs.Plane.{Point, Segment, whole, point_cmp, height_over, is_below, is_on}
use Rattle.overlay_terms.specs.Layers.{Marked}
use Rattle.overlay_terms.specs.Tiles.{below_bits, over_bits}
use Rattle.overlay_terms.specs.Trees.{mask_bits}
use Rattle.overlay_terms.proofs.BitLemmas.{bit_stays}
use Rattle.arrange.specs.Arrangement.{on_bits}

-- ---- one more
plus_zero : (n : ℕ) → n ≡ n + 0
plus_zero n = omega arith

odd_after_even : (n : ℕ) → (n % 2 == 1) ≡ false → ((n + 1) % 2 == 1) ≡ true
odd_after_even n h = grind (arith, nat_tests)

even_after_odd : (n : ℕ) → (n % 2 == 1) ≡ true → ((n + 1) % 2 == 1) ≡ false
even_after_odd n h = grind (arith, nat_tests)

flipped : (b : Bool) (n : ℕ) → b ≡ (n % 2 == 1) → not b ≡ ((n + 1) % 2 == 1)
flipped true n e = sym (even_after_odd n (sym e))
flipped false n e = sym (odd_after_even n (sym e))

counted : (layer_same below : Bool) (n : ℕ) (b : Bool) → b ≡ (n % 2 == 1) → below ≡ true → (if layer_same then not b else b) ≡ ((n + cond (layer_same && below) 1 0) % 2 == 1)
counted true true n b e f = flipped b n e
counted false true n b e f = e ∙ ap (λ m. m % 2 == 1) (plus_zero n)
counted s false n b e f = cc

left_out : (layer_same below : Bool) (n : ℕ) (b : Bool) → b ≡ (n % 2 == 1) → below ≡ false → b ≡ ((n + cond (layer_same && below) 1 0) % 2 == 1)
left_out true false n b e f = e ∙ ap (λ m. m % 2 == 1) (plus_zero n)
left_out false false n b e f = e ∙ ap (λ m. m % 2 == 1) (plus_zero n)
left_out s true n b e f = cc

-- how a marked segment counts for a layer at a point
abbrev weight : Point → ℕ → Marked → ℕ
weight p k m = cond ((m.layer == k) && is_below m.segment p) 1 0

-- ---- below or on
not_at_once : (l e : Bool) → (e ≡ true → l ≡ false) → (l && e) ≡ false
not_at_once true true h = h refl
not_at_once true false h = refl
not_at_once false e h = refl

apart : (h : ℤ) → (int_lt (pos 0) h && int_eq h (pos 0)) ≡ false
apart h = not_at_once (int_lt (pos 0) h) (int_eq h (pos 0)) (λ e. ap (λ z. int_lt (pos 0) z) ((Decides-int_eq h (pos 0)).0 e))

never_both : (a b l e c d : Bool) → (l && e) ≡ false → ((a && b && l) && (e && c && d)) ≡ false
never_both true true true true c d h = cc
never_both true true true false c d h = refl
never_both true true false e c d h = refl
never_both true false l e c d h = refl
never_both false b l e c d h = refl

below_or_on : (s : Segment) (p : Point) → (is_below s p && is_on s p) ≡ false
below_or_on s p =
    never_both (int_le (s.left.x *ℤ p.w) p.x) (int_lt p.x (s.right.x *ℤ p.w)) (int_lt (pos 0) (height_over s p))
    (int_eq (height_over s p) (pos 0)) (not (is_lt (point_cmp p (whole s.left)))) (not (is_gt (point_cmp p (whole s.right)))) (apart (height_over s p))

one_of_two : (a b o : Bool) → (b && o) ≡ false → cond (a && (b || o)) 1 0 ≡ cond (a && b) 1 0 + cond (a && o) 1 0
one_of_two true true true h = cc
one_of_two true true false h = refl
one_of_two true false true h = refl
one_of_two true false false h = refl
one_of_two false b o h = refl

shuffled : (a b c d : ℕ) → (a + b) + (c + d) ≡ (a + c) + (b + d)
shuffled a b c d = omega arith

module _ (p : Point) (k : ℕ) where
  abbrev on_weight : Marked → ℕ
  on_weight m = cond ((m.layer == k) && is_on m.segment p) 1 0

  abbrev over_weight : Marked → ℕ
  over_weight m = cond ((m.layer == k) && (is_below m.segment p || is_on m.segment p)) 1 0

  over_sum : (marked : List Marked) → sum_by over_weight marked ≡ sum_by (weight p k) marked + sum_by on_weight marked
  over_sum [] = refl
  over_sum (m ∷ ms) =
      sum_by-cons over_weight m ms
      ∙ ap (λ n. n + sum_by over_weight ms) (one_of_two (m.layer == k) (is_below m.segment p) (is_on m.segment p) (below_or_on m.segment p))
      ∙ ap (λ n. (weight p k m + on_weight m) + n) (over_sum ms)
      ∙ shuffled (weight p k m) (on_weight m) (sum_by (weight p k) ms) (sum_by on_weight ms)
      ∙ ap (λ n. n + (on_weight m + sum_by on_weight ms)) (sym (sum_by-cons (weight p k) m ms))
      ∙ ap (λ n. sum_by (weight p k) (m ∷ ms) + n) (sym (sum_by-cons on_weight m ms))

-- ---- bits of masks
same_parity : (x c : ℕ) → x < 2 → (x == 1) ≡ (c % 2 == 1) → x ≡ c % 2
same_parity x c h e = grind (arith, nat_tests)

sum_parity : (x y c d : ℕ) → x ≡ c % 2 → y ≡ d % 2 → (x + y) % 2 ≡ (c + d) % 2
sum_parity x y c d e f = omega arith

-- where a mask has the bits below and another those on, both together have the bits over
pub over_bits_from : (marked : List Marked) (p : Point) (k under on : ℕ) → mask_bits under k ≡ below_bits marked p k → mask_bits on k ≡ on_bits marked p k → mask_bits (bit_xor under on) k ≡ over_bits marked p k
over_bits_from marked p k under on e f =
    let low = same_parity (bit_at under k) (sum_by (weight p k) marked) (bit_at-lt under k) e in
    let high = same_parity (bit_at on k) (sum_by (on_weight p k) marked) (bit_at-lt on k) f in
    ap (λ n. n == 1) (bit_at_xor under on k ∙ sum_parity (bit_at under k) (bit_at on k) _ _ low high)
    ∙ ap (λ n. n % 2 == 1) (sym (over_sum p k marked))

turned : (x : ℕ) → x < 2 → ((x + 1) % 2 == 1) ≡ not (x == 1)
turned zero h = refl
turned (suc zero) h = refl
turned (suc (suc n)) h = absurd (omega arith)

by_same : (x : ℕ) (b : Bool) → b ≡ true → (if b then not (x == 1) else (x == 1)) ≡ not (x == 1)
by_same x true e = refl
by_same x false e = cc

by_other : (x : ℕ) (b : Bool) → b ≡ false → (if b then not (x == 1) else (x == 1)) ≡ (x == 1)
by_other x false e = refl
by_other x true e = cc

-- a mask with the bit of a layer changed
pub toggled_bit : (mask layer k : ℕ) → mask_bits (bit_xor mask (2 ^ layer)) k ≡ (if layer == k then not (mask_bits mask k) else mask_bits mask k)
toggled_bit mask layer k =
    ⊎_elim
    (λ same. ap (λ n. n == 1) (bit_at_xor mask (2 ^ layer) k ∙ ap (λ n. (bit_at mask k + n) % 2) (ap (λ n. bit_at (2 ^ n) k) same ∙ bit_at-pow_same k))
    ∙ turned (bit_at mask k) (bit_at-lt mask k) ∙ sym (by_same (bit_at mask k) (layer == k) (eq-eqb layer k same)))
    (λ other. ap (λ n. n == 1) (bit_at_xor mask (2 ^ layer) k ∙ ap (λ n. (bit_at mask k + n) % 2) (bit_at-pow_other layer k (λ e. other (sym e))) ∙ bit_stays (bit_at mask k) (bit_at-lt mask k))
    ∙ sym (by_other (bit_at mask k) (layer == k) (ne_eqb layer k other)))
    (cases_eq layer k)
