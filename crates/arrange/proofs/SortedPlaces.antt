-- Places in order, each once.
use Rattle.std.proofs.Common.{◌≡◌, pos, ◌<ℤ◌, Bool, true, List, [], ◌∷◌, get_or, refl, sym, subst, arith}
use Rattle.std.specs.Prelude.{IsTrue, All, Any}
use Rattle.std.specs.List.{AllPairs, dedup}
use Rattle.std.specs.List.Sorted.{IsSorted, IsStrictlySortedBy, IsPermutation}
use Rattle.std.specs.Ordering.{is_eq}
use Rattle.std.proofs.lemmas.Int.{ints}
use Rattle.std.proofs.lemmas.List.Elements.{All-from_recursion, All-contains, Contains-get_or}
use Rattle.std.proofs.lemmas.List.Sorted.{Contains-permutation, All-permutation}
use Rattle.std.proofs.lemmas.List.Kept.{AllPairs-cons, Any-dedup, Contains-from_dedup, IsStrictlySortedBy-dedup}
use Rattle.std.specs.declared.cmp.Ordering.{Ordering}
use Rattle.std.specs.declared.cmp.Ordering.TheVariants.{Less, Equal, Greater}
use Rattle.overlay_terms.specs.Plane.{Point, Segment, whole_cmp, same_place}
use Rattle.overlay_terms.specs.Tiles.{Input}
use Rattle.overlay_terms.proofs.Lists.{any_from, any_contains}
use Rattle.exact_point.proofs.PlaceOrder.{same_from_equal, same_through}
use Rattle.arrange.specs.Arrangement.{IsNodeOn}
use Rattle.arrange.specs.NamedPlaces.{spot, named_cmp, named_total, same_named, same_named_equiv, names_along, IsFound, AreFound, AreAlong}
use Rattle.arrange.specs.declared.named_place.NamedPlace.{NamedPlace}
use Rattle.arrange.proofs.NodeLemmas.{node_found}

-- in strictly rising order, each is before all later ones
pub strict_pairs : {X : Type 0} (c : X → X → Ordering) (xs : List X) → IsStrictlySortedBy c xs → AllPairs (λ a b. c a b ≡ Less) xs
unfolding IsStrictlySortedBy
strict_pairs c [] h = λ i j d l m. absurd (omega (arith, m))
strict_pairs c (x ∷ xs) h = AllPairs-cons (λ a b. c a b ≡ Less) x xs (All-from_recursion (λ y. c x y ≡ Less) xs h.0) (strict_pairs c xs h.1)

-- what holds of all holds of those that are left
pub all_deduped : {X : Type 0} (P : X → Type 0) (E : X → X → Bool) (xs : List X) → All P xs → All P (dedup E xs)
all_deduped P E xs h = λ k d l. All-contains P xs (get_or (dedup E xs) k d) h (Contains-from_dedup E xs (get_or (dedup E xs) k d) (Contains-get_or (dedup E xs) k d l))

pub equal_from_test : (o : Ordering) → is_eq o ≡ true → o ≡ Equal
equal_from_test Less e = absurd (cc)
equal_from_test Equal e = refl
equal_from_test Greater e = absurd (cc)

-- the denominator of a place is positive
pub spot_positive : (z : NamedPlace) → pos 0 <ℤ (spot z).w
spot_positive z = omega (arith, ints, z.at.w_low)

pub same_spots : (a b : NamedPlace) → same_named a b ≡ true → IsTrue (same_place (spot a) (spot b))
same_spots a b e = same_from_equal (spot a) (spot b) (spot_positive a) (spot_positive b) (equal_from_test (named_cmp a b) e)

pub along_from_found : (input : Input) (s : Segment) → whole_cmp s.left s.right ≡ Less → (found sorted list : List NamedPlace) → AreFound input.column s (names_along input s) found
    → IsPermutation found sorted → IsSorted named_cmp sorted → list ≡ dedup same_named sorted → AreAlong input s list
along_from_found input s ahead found sorted list h moved up is =
    let Q : List NamedPlace → Type 0 = λ l. AreAlong input s l in
    subst Q (sym is) (record {
      sound = all_deduped (IsFound input.column s (names_along input s)) same_named sorted (All-permutation (IsFound input.column s (names_along input s)) found sorted moved h.sound);
      ordered = strict_pairs named_cmp (dedup same_named sorted) (IsStrictlySortedBy-dedup named_total (λ x y. refl) sorted up);
      complete = λ p n. kept p n (node_found input s ahead found h p n);
    })
  where
    kept : (p : Point) → IsNodeOn input s p → Any (λ z. IsTrue (same_place p (spot z))) found → Any (λ z. IsTrue (same_place p (spot z))) (dedup same_named sorted)
    kept p n a =
        let there = any_contains (λ z. IsTrue (same_place p (spot z))) found a in
        let b = Any-dedup same_named_equiv sorted a.1 (Contains-permutation found sorted a.1 moved there) in
        any_from (λ z. IsTrue (same_place p (spot z))) (dedup same_named sorted) b.1 (any_contains (λ y. same_named a.1 y ≡ true) (dedup same_named sorted) b)
        (same_through p (spot a.1) (spot b.1) n.positive (spot_positive a.1) (spot_positive b.1) a.4 (same_spots a.1 b.1 b.4))
