-- The parities of marked segments: each base layer counts its own segments alone.
use Rattle.std.specs.Prelude.{◌≡◌, ℕ, ◌+◌, ◌%◌, ◌<◌, ◌≤◌, ◌==◌, Bool, true, false, ◌&&◌, List, [], ◌∷◌, ◌++◌, map, flat_map, count_by}
use Rattle.std.specs.List.{AllByRecursion, enumerate_from}
use Rattle.std.proofs.Common.{refl, ap, sym, ◌∙◌, cond, ⊎_elim, arith}
use Rattle.std.proofs.lemmas.Bool.{eq-eqb, ne_eqb, cases_eq}
use Rattle.std.proofs.lemmas.List.Folds.{fold-map, fold_stays}
use Rattle.std.proofs.lemmas.List.Sums.{sum_by-append}
use Rattle.std.proofs.Math.Nat.{zero-add, add-zero}
use Rattle.std.proofs.lemmas.Nat.Bits.{bit_at-zero}
use Rattle.overlay_terms.specs.Plane.{WholePoint, Point, Segment, segments_of, is_below, is_inside}
use Rattle.overlay_terms.specs.Layers.{Name, Marked, marked_segments}
use Rattle.overlay_terms.specs.Tiles.{below_bits}
use Rattle.overlay_terms.proofs.SourceLemmas.{Matches}
use Rattle.overlay_terms.specs.Trees.{mask_bits}

-- the segments of a base layer with its number
abbrev marked_by : ℕ → List (List WholePoint) → List Marked
marked_by k rings = map (λ s. record { layer = k; segment = s }) (segments_of rings)

-- the same for base layers, counted on from a number
abbrev marked_from : ℕ → List (List (List WholePoint)) → List Marked
marked_from k bases = flat_map (λ numbered. map (λ s. record { layer = numbered.0; segment = s }) (segments_of numbered.1)) (enumerate_from k bases)

-- a mask of no bits has none
pub mask_bits-zero : (k : ℕ) → mask_bits 0 k ≡ false
mask_bits-zero k = ap (λ bit. bit == 1) (bit_at-zero k)

-- a bit with nothing added
pub bit_stays : (bit : ℕ) → bit < 2 → (bit + 0) % 2 ≡ bit
bit_stays bit h = omega arith

module _ (p : Point) where
  -- how many segments of a layer are below the point
  abbrev count_of : ℕ → List Marked → ℕ
  count_of j marked = count_by (λ m. (m.layer == j) && is_below m.segment p) marked

  -- segments that come after others are counted on
  count-append : (j : ℕ) (a b : List Marked) → count_of j (a ++ b) ≡ count_of j a + count_of j b
  count-append j a b = sum_by-append (λ (m : Marked). cond ((m.layer == j) && is_below m.segment p) 1 0) a b

  -- a layer's marked segments are counted where its number is the one asked for
  count-marked_by : (j k : ℕ) (b : Bool) (rings : List (List WholePoint)) → (k == j) ≡ b → count_of j (marked_by k rings) ≡ count_by (λ s. b && is_below s p) (segments_of rings)
  count-marked_by j k b rings e =
      fold-map (λ (a : ℕ) (m : Marked). a + cond ((m.layer == j) && is_below m.segment p) 1 0) (λ (s : Segment). record { layer = k; segment = s }) 0 (segments_of rings)
      ∙ ap (λ c. count_by (λ s. c && is_below s p) (segments_of rings)) e

  -- where the test fails at once, none is counted
  count_none : (segments : List Segment) → count_by (λ s. false && is_below s p) segments ≡ 0
  count_none segments = fold_stays (λ (a : ℕ) (s : Segment). a + cond (false && is_below s p) 1 0) 0 (λ s. refl) segments

  -- a layer counts none of another layer's segments
  count_other : (j k : ℕ) (rings : List (List WholePoint)) → (k ≡ j → ⊥) → count_of j (marked_by k rings) ≡ 0
  count_other j k rings other = count-marked_by j k false rings (ne_eqb k j other) ∙ count_none (segments_of rings)

  -- a layer counts none of the segments of later layers
  count_later : (j k : ℕ) (bases : List (List (List WholePoint))) → j < k → count_of j (marked_from k bases) ≡ 0
  count_later j k [] h = refl
  count_later j k (rings ∷ bases) h =
      count-append j (marked_by k rings) (marked_from (k + 1) bases)
      ∙ ap (λ n. n + count_of j (marked_from (k + 1) bases)) (count_other j k rings (λ e. absurd (omega arith)))
      ∙ ap (λ n. 0 + n) (count_later j (k + 1) bases (omega arith))

  -- the parity of the first layer's number is whether the point is inside that layer
  first_parity : (k : ℕ) (rings : List (List WholePoint)) (bases : List (List (List WholePoint))) → (count_of k (marked_from k (rings ∷ bases)) % 2 == 1) ≡ is_inside (segments_of rings) p
  first_parity k rings bases =
      let alone : count_of k (marked_from k (rings ∷ bases)) ≡ count_by (λ s. is_below s p) (segments_of rings) =
      count-append k (marked_by k rings) (marked_from (k + 1) bases)
      ∙ ap (λ n. count_of k (marked_by k rings) + n) (count_later k (k + 1) bases (omega arith))
      ∙ add-zero (count_of k (marked_by k rings))
      ∙ count-marked_by k k true rings (eq-eqb k k refl) in
      ap (λ n. n % 2 == 1) alone

  -- what the later numbers count is as if the first layer were not there
  later_parity : (j k : ℕ) (rings : List (List WholePoint)) (bases : List (List (List WholePoint))) → k < j → (count_of j (marked_from k (rings ∷ bases)) % 2 == 1) ≡ (count_of j (marked_from (k + 1) bases) % 2 == 1)
  later_parity j k rings bases h =
      ap (λ n. n % 2 == 1)
      (count-append j (marked_by k rings) (marked_from (k + 1) bases) ∙ ap (λ n. n + count_of j (marked_from (k + 1) bases)) (count_other j k rings (λ e. absurd (omega arith))) ∙ zero-add (count_of j (marked_from (k + 1) bases)))

  -- bits that are the parities match the values of the base layers
  parities_match : (value : Name → Bool) (bits : ℕ → Bool) (bases : List (Name × List (List WholePoint))) (k : ℕ) →
      ((j : ℕ) → k ≤ j → bits j ≡ (count_of j (marked_from k (map (λ b. b.1) bases)) % 2 == 1)) → AllByRecursion (λ b. value b.0 ≡ is_inside (segments_of b.1) p) bases → Matches value bits (map (λ b. b.0) bases) k
  parities_match value bits [] k h inside = tt
  parities_match value bits (b ∷ bases) k h inside = (
    h k (omega arith) ∙ first_parity k b.1 (map (λ c. c.1) bases) ∙ sym inside.0,
    parities_match value bits bases (k + 1) (λ j le. h j (omega arith) ∙ later_parity j k b.1 (map (λ c. c.1) bases) (omega arith)) inside.1,
  )

  -- the parities of the segments of base layers match the values of the layers
  pub below_bits_match : (value : Name → Bool) (bases : List (Name × List (List WholePoint))) → AllByRecursion (λ b. value b.0 ≡ is_inside (segments_of b.1) p) bases → Matches value (below_bits (marked_segments (map (λ b. b.1) bases)) p) (map (λ b. b.0) bases) 0
  below_bits_match value bases inside = parities_match value (below_bits (marked_segments (map (λ b. b.1) bases)) p) bases 0 (λ j le. refl) inside

  -- where the point is inside no base layer, no number from the first on has an odd count
  parity_false : (bases : List (Name × List (List WholePoint))) (k j : ℕ) → k ≤ j → AllByRecursion (λ b. is_inside (segments_of b.1) p ≡ false) bases → (count_of j (marked_from k (map (λ b. b.1) bases)) % 2 == 1) ≡ false
  parity_false [] k j le outside = refl
  parity_false (b ∷ bases) k j le outside =
      ⊎_elim
      (λ same.
      ap (λ i. count_of i (marked_from k (b.1 ∷ map (λ c. c.1) bases)) % 2 == 1) (sym same) ∙ first_parity k b.1 (map (λ c. c.1) bases) ∙ outside.0)
      (λ other. later_parity j k b.1 (map (λ c. c.1) bases) (omega arith) ∙ parity_false bases (k + 1) j (omega arith) outside.1) (cases_eq k j)

  -- where the point is inside no base layer, no bit is set
  pub below_bits_false : (bases : List (Name × List (List WholePoint))) → AllByRecursion (λ b. is_inside (segments_of b.1) p ≡ false) bases → (j : ℕ) → below_bits (marked_segments (map (λ b. b.1) bases)) p j ≡ false
  below_bits_false bases outside j = parity_false bases 0 j (omega arith) outside
