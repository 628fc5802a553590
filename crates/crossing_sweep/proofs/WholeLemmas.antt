-- Places over a whole x: ends and border places are, and one with the rank of those between is not.
use Rattle.std.proofs.Common.{◌≡◌, ℤ, pos, negsuc, ◌+ℤ◌, ◌*ℤ◌, ◌<ℤ◌, ◌≤ℤ◌, neg_ℤ, inl, inr, ◌⊎◌, true, List, [], ◌∷◌, map, ap, sym, ◌∙◌, arith}
use Rattle.std.specs.Prelude.{IsTrue, All, ◌||◌, ◌&&◌, not}
use Rattle.std.specs.Int.{int_rem_euclid}
use Rattle.std.specs.List.{list_any}
use Rattle.std.specs.Ordering.{int_eq}
use Rattle.std.specs.declared.cmp.Ordering.TheVariants.{Equal}
use Rattle.std.proofs.Math.Logic.{∥∥₁_elim}
use Rattle.std.proofs.lemmas.Int.{ints, by_lt_z}
use Rattle.std.proofs.lemmas.Bool.{and_parts, or_cases}
use Rattle.std.proofs.lemmas.Bool.Decides.{Decides-int_eq}
use Rattle.std.proofs.lemmas.List.Elements.{All-nil, All-cons, All-head, All-tail, All-weaker}
use Rattle.std.proofs.lemmas.List.Folds.{Any-from_list_any}
use Rattle.overlay_terms.specs.Plane.{Point, Segment, WholePoint, whole, same_place, is_on}
use Rattle.overlay_terms.specs.Column.{border, columns}
use Rattle.overlay_terms.specs.Tiles.{is_end, is_on_border, is_vertical}
use Rattle.overlay_terms.proofs.Difference.{split, differences, same}
use Rattle.overlay_terms.proofs.InputNumbers.{most_back, most_times, last_turned}
use Rattle.overlay_terms.proofs.PlaceLemmas.{IsSamePlace, places_alike}
use Rattle.exact_point.specs.Place.{place}
use Rattle.exact_point.specs.declared.point.HPoint.{HPoint}
use Rattle.exact_point.specs.declared.point_name.PointName.{PointName}
use Rattle.exact_point.proofs.PlaceOrder.{one_positive, same_turned, same_from_equal}
use Rattle.arrange.proofs.FoundLemmas.{place_positive}
use Rattle.crossing_sweep.specs.Rank.{IsInRow, IsBetween, IsRank, is_between, IsOverWhole}
use Rattle.crossing_sweep.specs.RankedPlace.{ranked_cmp, ranked_entry}
use Rattle.crossing_sweep.specs.declared.ranked_place.RankedPlace.{RankedPlace}

both_most : (a b : ℤ) → a ≤ℤ b → b ≤ℤ a → a ≡ b
both_most a b h k = omega (arith, ints, h, k)

-- the same place has the same x
over_alike : (p q : Point) → pos 0 <ℤ p.w → pos 0 <ℤ q.w → IsTrue (same_place p q) → IsOverWhole p → IsOverWhole q
over_alike p q hp hq e (k, level) =
    let turned : (k *ℤ q.w) *ℤ p.w ≡ q.x *ℤ p.w = last_turned k q.w p.w ∙ ap (λ z. z *ℤ q.w) level ∙ (places_alike p q hp hq e).x_level in
    (k, both_most (k *ℤ q.w) q.x (most_back (k *ℤ q.w) q.x p.w hp (omega (arith, ints, turned))) (most_back q.x (k *ℤ q.w) p.w hp (omega (arith, ints, turned))))

-- ---- ends and border places
over_end : (p : Point) (v : WholePoint) → pos 0 <ℤ p.w → IsTrue (same_place p (whole v)) → IsOverWhole p
over_end p v hp e = over_alike (whole v) p one_positive hp (same_turned p (whole v) e) (v.x, omega (arith, ints))

fixed_over : (segments : List Segment) (p : Point) → pos 0 <ℤ p.w → (is_end segments p || is_on_border segments p) ≡ true → IsOverWhole p
fixed_over segments p hp fixed = by (or_cases (is_end segments p) (is_on_border segments p) fixed)
  where
    at : (s : Segment) → (same_place p (whole s.left) ≡ true) ⊎ (same_place p (whole s.right) ≡ true) → IsOverWhole p
    at s (inl e) = over_end p s.left hp e
    at s (inr e) = over_end p s.right hp e

    by : (is_end segments p ≡ true) ⊎ (is_on_border segments p ≡ true) → IsOverWhole p
    by (inl e) =
        let which = Any-from_list_any (λ s. same_place p (whole s.left) || same_place p (whole s.right)) segments e in
        at which.1 (or_cases (same_place p (whole which.1.left)) (same_place p (whole which.1.right)) which.4)
    by (inr e) =
        let parts = and_parts (list_any (λ k. int_eq p.x (border k *ℤ p.w)) columns) (list_any (λ s. is_on s p && not (is_vertical s)) segments) e in
        let which = Any-from_list_any (λ k. int_eq p.x (border k *ℤ p.w)) columns parts.0 in
        (border which.1, sym ((Decides-int_eq p.x (border which.1 *ℤ p.w)).0 which.4))

pub places_over : (segments : List Segment) (places : List RankedPlace) → All (λ (e : HPoint × PointName). IsTrue (is_end segments (place e.0) || is_on_border segments (place e.0))) (map ranked_entry places)
    → All (λ z. IsOverWhole (place z.at)) places
places_over segments [] h = All-nil (λ (z : RankedPlace). IsOverWhole (place z.at))
places_over segments (z ∷ zs) h =
    let P : HPoint × PointName → Type 0 = λ e. IsTrue (is_end segments (place e.0) || is_on_border segments (place e.0)) in
    All-cons (λ (z : RankedPlace). IsOverWhole (place z.at)) z zs (fixed_over segments (place z.at) (place_positive z.at) (All-head P (ranked_entry z) (map ranked_entry zs) h))
    (places_over segments zs (All-tail P (ranked_entry z) (map ranked_entry zs) h))

-- ---- a place between two whole x
rest_of_row : (z a r : ℤ) → z ≡ (pos 4194304 *ℤ a) +ℤ r → neg_ℤ (pos 1048576) ≤ℤ r → r ≤ℤ pos 1048576 → int_rem_euclid z (pos 4194304) ≡ pos 2097152 → ⊥
rest_of_row (pos n) a r e low high rest = omega (arith, ints, e, low, high, rest)
rest_of_row (negsuc n) a r e low high rest = omega (arith, ints, e, low, high, rest)

one_more : (a w : ℤ) → (a +ℤ pos 1) *ℤ w ≡ (a *ℤ w) +ℤ w
one_more a w = rw (split a, split w) (simp differences (same _ _ _ _ (omega arith)))

not_over : (rank : ℤ) (p : Point) → pos 0 <ℤ p.w → IsRank rank p → int_rem_euclid rank (pos 4194304) ≡ pos 2097152 → IsOverWhole p → ⊥
not_over rank p hp is rest (k, level) = by is.place
  where
    by : IsInRow is.across is.row p ⊎ IsBetween is.across is.row p → ⊥
    by (inl i) = rest_of_row rank is.across is.row is.is i.small.0 i.small.1 rest
    by (inr i) =
        by_lt_z is.across k (λ l. omega (arith, ints, is.floor.high, level, one_more is.across p.w, most_times (is.across +ℤ pos 1) k p.w hp (omega (arith, ints, l))))
        (λ m. omega (arith, ints, i.after, level, most_times k is.across p.w hp m))

-- is none of those over a whole x
pub between_apart : (x : RankedPlace) (known : List RankedPlace) → is_between x.rank ≡ true → All (λ z. IsOverWhole (place z.at)) known → All (λ z. ranked_cmp z x ≡ Equal → ⊥) known
between_apart x known between over = All-weaker (λ (z : RankedPlace). IsOverWhole (place z.at)) (λ (z : RankedPlace). ranked_cmp z x ≡ Equal → ⊥) one known over
  where
    rest : int_rem_euclid x.rank (pos 4194304) ≡ pos 2097152
    rest = (Decides-int_eq (int_rem_euclid x.rank (pos 4194304)) (pos 2097152)).0 between

    one : (z : RankedPlace) → IsOverWhole (place z.at) → ranked_cmp z x ≡ Equal → ⊥
    one z over e =
        let here : IsOverWhole (place x.at) = over_alike (place z.at) (place x.at) (place_positive z.at) (place_positive x.at) (same_from_equal (place z.at) (place x.at) (place_positive z.at) (place_positive x.at) e) over in
        ∥∥₁_elim x.ranked (λ a b. absurd a) (λ is. not_over x.rank (place x.at) (place_positive x.at) is rest here)
