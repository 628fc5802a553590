-- The bits of a mask that are those over a point, and no others: what the steps are over both is one.
use Rattle.std.proofs.Common.{◌≡◌, ℕ, ◌<◌, ◌≤◌, ◌%◌, ◌==◌, inl, inr, ◌⊎◌, Bool, true, false, ◌&&◌, ◌||◌, nat_lt, List, [], ◌∷◌, refl, ap, sym, ◌∙◌, arith}
use Rattle.std.specs.Prelude.{All, count_by}
use Rattle.std.proofs.lemmas.Bool.{cases_lt}
use Rattle.std.proofs.lemmas.Bool.Decides.{nat_tests}
use Rattle.std.proofs.lemmas.List.Elements.{All-head, All-tail}
use Rattle.overlay_terms.specs.Plane.{Point, is_below, is_on}
use Rattle.overlay_terms.specs.Layers.{layers_max, Marked}
use Rattle.overlay_terms.specs.Tiles.{over_bits}
use Rattle.overlay_terms.specs.Trees.{mask_bits}
use Rattle.overlay_terms.proofs.ClosedRings.{bit, count-cons}
use Rattle.crossing_sweep.specs.StripInput.{StripInput, IsStripInput}
use Rattle.crossing_sweep.specs.Rows.{HasBits, layer_bits}

-- ---- the bits of a mask, of the base layers alone
within_bit : (mask k : ℕ) → k < layers_max → layer_bits mask k ≡ mask_bits mask k
within_bit mask k few = let yes : nat_lt k layers_max ≡ true = grind (arith, nat_tests) in ap (λ b. b && mask_bits mask k) yes

beyond_bit : (mask k : ℕ) → layers_max ≤ k → layer_bits mask k ≡ false
beyond_bit mask k many = let no : nat_lt k layers_max ≡ false = grind (arith, nat_tests) in ap (λ b. b && mask_bits mask k) no

-- ---- and no segment has another layer
pub known_few : (input : StripInput) → IsStripInput input → All (λ m. m.layer < layers_max) input.marked
known_few input valid i d l = let known = valid.known_layers i d l in omega (arith, known, valid.few)

none_beyond : (marked : List Marked) (p : Point) (k : ℕ) → All (λ m. m.layer < layers_max) marked → layers_max ≤ k → count_by (λ m. (m.layer == k) && (is_below m.segment p || is_on m.segment p)) marked ≡ 0
none_beyond [] p k few many = refl
none_beyond (m ∷ ms) p k few many =
    let known = All-head (λ (m : Marked). m.layer < layers_max) m ms few in
    let other : (m.layer == k) ≡ false = grind (arith, nat_tests) in
    let none : bit ((m.layer == k) && (is_below m.segment p || is_on m.segment p)) ≡ 0 = ap (λ b. bit (b && (is_below m.segment p || is_on m.segment p))) other in
    omega (arith, count-cons (λ (m : Marked). (m.layer == k) && (is_below m.segment p || is_on m.segment p)) m ms, none, none_beyond ms p k (All-tail (λ (m : Marked). m.layer < layers_max) m ms few) many)

pub bits_over : (marked : List Marked) (mask : ℕ) (p : Point) → All (λ m. m.layer < layers_max) marked → HasBits mask (over_bits marked p) → layer_bits mask ≡ over_bits marked p
bits_over marked mask p few same = λ i k. one k (cases_lt k layers_max) i
  where
    one : (k : ℕ) → (k < layers_max) ⊎ (layers_max ≤ k) → layer_bits mask k ≡ over_bits marked p k
    one k (inl l) = within_bit mask k l ∙ same k l
    one k (inr l) = beyond_bit mask k l ∙ sym (ap (λ n. n % 2 == 1) (none_beyond marked p k few l))
