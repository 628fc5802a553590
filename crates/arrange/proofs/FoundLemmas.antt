-- Which places have been found, name by name.
use Rattle.std.proofs.Common.{◌≡◌, ℕ, pos, ◌*ℤ◌, ◌<ℤ◌, int_le, ◌<◌, false, ◌&&◌, ◌⊎◌, inl, inr, List, [], ◌∷◌, ◌++◌, length, get_or, take, map, append_assoc, ◌+◌, ap, sym, ◌∙◌, subst, arith}
use Rattle.std.specs.Prelude.{IsTrue, All, Any, Contains, flat_map}
use Rattle.std.proofs.lemmas.Int.{ints}
use Rattle.std.proofs.lemmas.Grind.{flat_map-append}
use Rattle.std.proofs.lemmas.List.{take_more, map-append}
use Rattle.std.proofs.lemmas.Bool.{and_parts, and_from, both_ways}
use Rattle.std.proofs.lemmas.List.Elements.{All-nil, All-push, All-weaker, Contains-append_left, Contains-push_cases}
use Rattle.std.proofs.lemmas.List.Quantifiers.{Any-push}
use Rattle.overlay_terms.specs.Plane.{Point, Segment, same_place, is_on}
use Rattle.overlay_terms.specs.Column.{border}
use Rattle.overlay_terms.proofs.InputNumbers.{le_true, true_le, least_through, most_through}
use Rattle.overlay_terms.proofs.Lists.{any_left}
use Rattle.overlay_terms.proofs.PlaceLemmas.{places_alike}
use Rattle.exact_point.specs.PointName.{HasPlace, IsPlaceOf, IsOnlyPlaceOf}
use Rattle.exact_point.specs.declared.point_name.PointName.{PointName}
use Rattle.exact_point.specs.declared.point_name.PointName.TheVariants.{Vertex, Cross, Border}
use Rattle.exact_point.proofs.PlaceOrder.{on_same, same_turned}
use Rattle.exact_point.specs.Place.{place}
use Rattle.exact_point.specs.declared.point.HPoint.{HPoint}
use Rattle.arrange.specs.Arrangement.{is_in_closed_column}
use Rattle.arrange.specs.NamedPlaces.{spot, IsFound, AreFound, names_with}
use Rattle.arrange.specs.declared.marked_seg.MarkedSeg.{MarkedSeg}
use Rattle.arrange.specs.declared.named_place.NamedPlace.{NamedPlace}

-- a closed column has both of two points at one place
closed_same : (k : ℕ) (p q : Point) → pos 0 <ℤ p.w → pos 0 <ℤ q.w → IsTrue (same_place p q) → IsTrue (is_in_closed_column k p) → IsTrue (is_in_closed_column k q)
closed_same k p q h l e c =
    let parts = and_parts (int_le (border k *ℤ p.w) p.x) (int_le p.x (border (k + 1) *ℤ p.w)) c in
    let x : p.x *ℤ q.w ≡ q.x *ℤ p.w = (places_alike p q h l e).x_level in
    and_from _ _ (true_le (border k *ℤ q.w) q.x (least_through p q (border k) h l (omega (arith, ints, x)) (le_true _ _ parts.0)))
    (true_le q.x (border (k + 1) *ℤ q.w) (most_through q p (border (k + 1)) l h (omega (arith, ints, x)) (le_true _ _ parts.1)))

-- a named place has a positive denominator
pub place_positive : (at : HPoint) → pos 0 <ℤ (place at).w
place_positive at = omega (arith, ints)

-- what stands for a place has one
pub has_place : (name : PointName) (p : Point) → pos 0 <ℤ p.w → IsPlaceOf name p → HasPlace name
has_place (Vertex v) p h k = tt
has_place (Cross a b) p h k = (p, h, k)
has_place (Border s j) p h k = k.cut

pub none_found : (k : ℕ) (s : Segment) → AreFound k s [] []
none_found k s = record { sound = All-nil _; complete = λ name p c w st on col. absurd (empty name c) } where
  empty : (name : PointName) → Contains [] name → ⊥
  empty name c = omega (arith, c.1)

module _ (k : ℕ) (s : Segment) (names : List PointName) (name : PointName) (found : List NamedPlace) (h : AreFound k s names found) where
  widened : All (IsFound k s (names ++ name ∷ [])) found
  widened = All-weaker (IsFound k s names) (IsFound k s (names ++ name ∷ []))
      (λ z f. record { named = f.named; told = f.told; stands = f.stands; on_segment = f.on_segment; in_column = f.in_column; offered = Contains-append_left names (name ∷ []) z.name f.offered })
      found h.sound

  -- a name whose place is added
  pub found_more : (z : NamedPlace) → IsFound k s (names ++ name ∷ []) z → IsOnlyPlaceOf name (spot z) → AreFound k s (names ++ name ∷ []) (found ++ z ∷ [])
  found_more z new only = record {
    sound = All-push (IsFound k s (names ++ name ∷ [])) found z widened new;
    complete = λ n p c w st on col. by n p w st on col (Contains-push_cases names name n c);
  } where
    by : (n : PointName) (p : Point) → pos 0 <ℤ p.w → IsPlaceOf n p → IsTrue (is_on s p) → IsTrue (is_in_closed_column k p) → Contains names n ⊎ (name ≡ n) → Any (λ y. IsTrue (same_place p (spot y))) (found ++ z ∷ [])
    by n p w st on col (inl c) = any_left (λ y. IsTrue (same_place p (spot y))) found (z ∷ []) (h.complete n p c w st on col)
    by n p w st on col (inr e) =
        let Q : PointName → Type 0 = λ m. IsPlaceOf m p in
        Any-push (λ y. IsTrue (same_place p (spot y))) found z (same_turned (spot z) p (only p w (subst Q (sym e) st)))

  -- a name that stands for no place here
  pub found_skipped : ((p : Point) → pos 0 <ℤ p.w → IsPlaceOf name p → IsTrue (is_on s p) → IsTrue (is_in_closed_column k p) → ⊥) → AreFound k s (names ++ name ∷ []) found
  found_skipped none = record {
    sound = widened;
    complete = λ n p c w st on col. by n p w st on col (Contains-push_cases names name n c);
  } where
    by : (n : PointName) (p : Point) → pos 0 <ℤ p.w → IsPlaceOf n p → IsTrue (is_on s p) → IsTrue (is_in_closed_column k p) → Contains names n ⊎ (name ≡ n) → Any (λ y. IsTrue (same_place p (spot y))) found
    by n p w st on col (inl c) = h.complete n p c w st on col
    by n p w st on col (inr e) =
        let Q : PointName → Type 0 = λ m. IsPlaceOf m p in
        absurd (none p w (subst Q (sym e) st) on col)

  -- a name whose place lies elsewhere
  pub found_elsewhere : (z : Point) → pos 0 <ℤ z.w → IsOnlyPlaceOf name z → (is_on s z && is_in_closed_column k z) ≡ false → AreFound k s (names ++ name ∷ []) found
  found_elsewhere z hz only out =
      found_skipped (λ p w st on col.
      let e = only p w st in
      both_ways _ out (and_from _ _ (on_same s z p hz w e ∙ on) (closed_same k p z w hz (same_turned z p e) col)))

-- one more segment offers its names
pub names_more : (own : List PointName) (s : Segment) (items : List MarkedSeg) (i : ℕ) (x : MarkedSeg) → i < length items → x ≡ get_or items i x
    → (own ++ flat_map (names_with s) (map (λ (m : MarkedSeg). m.seg) (take i items))) ++ names_with s x.seg ≡ own ++ flat_map (names_with s) (map (λ (m : MarkedSeg). m.seg) (take (i + 1) items))
names_more own s items i x h e =
    let seg : MarkedSeg → Segment = λ m. m.seg in
    append_assoc own (flat_map (names_with s) (map seg (take i items))) (names_with s x.seg)
    ∙ ap (λ ns. own ++ ns) (sym (
    ap (λ xs. flat_map (names_with s) (map seg xs)) (take_more items i x h)
    ∙ ap (flat_map (names_with s)) (map-append seg (take i items) (get_or items i x ∷ []))
    ∙ flat_map-append (names_with s) (map seg (take i items)) (seg (get_or items i x) ∷ [])
    ∙ ap (λ y. flat_map (names_with s) (map seg (take i items)) ++ names_with s (seg y)) (sym e)))

-- the same column under another name
pub at_column : (j k : ℕ) (s : Segment) (more : List PointName) (a b : List NamedPlace) → j ≡ k
    → ((names : List PointName) → AreFound j s names a → AreFound j s (names ++ more) b) → (names : List PointName) → AreFound k s names a → AreFound k s (names ++ more) b
at_column j k s more a b e step =
    let Q : ℕ → Type 0 = λ i. (names : List PointName) → AreFound i s names a → AreFound i s (names ++ more) b in
    subst Q e step
