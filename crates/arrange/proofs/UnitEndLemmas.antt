-- The ends on a segment, of the segments on its line.
use Rattle.std.proofs.Common.{◌≡◌, ◌&&◌, ◌⊎◌, inl, inr, true, List, [], ◌∷◌, sym, arith}
use Rattle.std.specs.Prelude.{IsTrue, Contains, flat_map, filter}
use Rattle.std.proofs.lemmas.Bool.{and_parts, and_from}
use Rattle.std.proofs.lemmas.List.Elements.{All-contains, filter_passes}
use Rattle.overlay_terms.specs.Plane.{WholePoint, Segment, whole, is_on}
use Rattle.overlay_terms.specs.Layers.{Marked}
use Rattle.overlay_terms.proofs.InputLists.{Contains-filter, Contains-from_filter}
use Rattle.overlay_terms.proofs.Lists.{Contains-cons_cases, in_flat_map, from_flat_map}
use Rattle.arrange.specs.Units.{is_collinear, is_end_along}
use Rattle.arrange.proofs.UnitLineLemmas.{end_of, is_end_of}

-- the ends of a segment on the line of s that lie on s
abbrev ends_from : Segment → Segment → List WholePoint
ends_from s t = filter (λ v. is_collinear s t && is_on s (whole v)) (t.left ∷ t.right ∷ [])

-- an end of a segment on the line of s that lies on s
pub record IsEndOn (marked : List Marked) (s : Segment) (v : WholePoint) : Type 0 where
  pub along : IsTrue (is_end_along marked s v)
  pub on_segment : IsTrue (is_on s (whole v))

-- the ends that all segments have on a segment
abbrev pub all_ends : Segment → List Marked → List WholePoint
all_ends s marked = flat_map (λ (m : Marked). ends_from s m.segment) marked

-- of the two ends of a segment, those that pass
one_of : (t : Segment) (v : WholePoint) → Contains (t.left ∷ t.right ∷ []) v → (v ≡ t.left) ⊎ (v ≡ t.right)
one_of t v c = first (Contains-cons_cases t.left (t.right ∷ []) v c) where
  second : (t.right ≡ v) ⊎ Contains [] v → (v ≡ t.left) ⊎ (v ≡ t.right)
  second (inl e) = inr (sym e)
  second (inr d) = absurd (omega (arith, d.1))

  first : (t.left ≡ v) ⊎ Contains (t.right ∷ []) v → (v ≡ t.left) ⊎ (v ≡ t.right)
  first (inl e) = inl (sym e)
  first (inr d) = second (Contains-cons_cases t.right [] v d)

is_one_of : (t : Segment) (v : WholePoint) → (v ≡ t.left) ⊎ (v ≡ t.right) → Contains (t.left ∷ t.right ∷ []) v
is_one_of t v (inl e) = (0, omega arith, sym e)
is_one_of t v (inr e) = (1, omega arith, sym e)

-- each of them is an end on the segment
pub found_is_end : (s : Segment) (marked : List Marked) (v : WholePoint) → Contains (all_ends s marked) v → IsEndOn marked s v
found_is_end s marked v c =
    let from = from_flat_map (λ (m : Marked). ends_from s m.segment) marked v c in
    let t : Segment = from.0.segment in
    let passed = All-contains (λ (w : WholePoint). (is_collinear s t && is_on s (whole w)) ≡ true) (ends_from s t) v (filter_passes (λ w. is_collinear s t && is_on s (whole w)) (t.left ∷ t.right ∷ [])) from.2 in
    let tests = and_parts (is_collinear s t) (is_on s (whole v)) passed in
    record {
      along = is_end_of marked s v (record {
        of = from.0;
        among = from.1;
        collinear = tests.0;
        is = one_of t v (Contains-from_filter (λ w. is_collinear s t && is_on s (whole w)) (t.left ∷ t.right ∷ []) v from.2);
      });
      on_segment = tests.1;
    }

-- each end on the segment is one of them
pub end_is_found : (s : Segment) (marked : List Marked) (v : WholePoint) → IsEndOn marked s v → Contains (all_ends s marked) v
end_is_found s marked v end =
    let by = end_of marked s v end.along in
    let t : Segment = by.of.segment in
    in_flat_map (λ (m : Marked). ends_from s m.segment) marked by.of v by.among
    (Contains-filter (λ w. is_collinear s t && is_on s (whole w)) (t.left ∷ t.right ∷ []) v (is_one_of t v by.is)
    (and_from (is_collinear s t) (is_on s (whole v)) by.collinear end.on_segment))
