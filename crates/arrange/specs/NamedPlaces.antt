-- Places with their names, in the order of the places.
use Rattle.std.specs.Prelude.{◌≡◌, ◌+◌, ◌++◌, ℕ, ◌<ℤ◌, [], ◌∷◌}
use Rattle.std.specs.Prelude.{pos, Bool, refl, IsTrue, List, flat_map, All, Any, Contains}
use Rattle.std.specs.List.{AllPairs}
use Rattle.std.specs.Cmp.{IsTotalOrder, IsEquivalence, IsPartialEquivalence, IsPartialOrder}
use Rattle.std.specs.Cmp.{eq_by_cmp_equiv, partial_equiv_from_equiv, partial_order_from_agreeing_total}
use Rattle.std.specs.Ordering.{eq_by_cmp, as_partial_cmp}
use Rattle.std.specs.declared.cmp.Ordering.{Ordering}
use Rattle.std.specs.declared.cmp.Ordering.TheVariants.{Less}
use Rattle.std.proofs.lemmas.Cmp.{on_total}
use Rattle.overlay_terms.specs.Plane.{Point, Segment, same_place, point_cmp, is_on}
use Rattle.overlay_terms.specs.Tiles.{Input}
use Rattle.exact_point.specs.Place.{place, hpoint_cmp, hpoint_cmp_total}
use Rattle.exact_point.specs.PlaceOf.{place_of}
use Rattle.exact_point.specs.PointName.{HasPlace, IsPlaceOf}
use Rattle.exact_point.specs.declared.point_name.PointName.{PointName}
use Rattle.exact_point.specs.declared.point_name.PointName.TheVariants.{Vertex, Cross, Border}
use Rattle.arrange.specs.Arrangement.{input_segments, is_in_closed_column, IsNodeOn}
use Rattle.arrange.specs.declared.named_place.NamedPlace.{NamedPlace}

-- where it is
abbrev pub spot : NamedPlace → Point
spot z = place z.at

-- the order of the places
abbrev pub named_cmp : NamedPlace → NamedPlace → Ordering
named_cmp a b = hpoint_cmp a.at b.at

pub named_total : IsTotalOrder named_cmp
named_total = on_total (λ z. z.at) hpoint_cmp_total

-- the same place, under any names
abbrev pub same_named : NamedPlace → NamedPlace → Bool
same_named = eq_by_cmp named_cmp

pub same_named_equiv : IsEquivalence same_named
same_named_equiv = eq_by_cmp_equiv named_total

pub same_named_laws : IsPartialEquivalence same_named
same_named_laws = partial_equiv_from_equiv same_named_equiv

pub named_po : IsPartialOrder same_named (as_partial_cmp named_cmp)
named_po = partial_order_from_agreeing_total named_cmp named_total (λ p q. refl) (λ p q. refl)

-- the names that the nodes on a segment may have: its own ends, where the borders of a column cut it, the ends of
-- other segments, and its crossings with these
abbrev pub own_names : Segment → ℕ → List PointName
own_names s k = Vertex s.left ∷ Vertex s.right ∷ Border s k ∷ Border s (k + 1) ∷ []

abbrev pub names_with : Segment → Segment → List PointName
names_with s t = Vertex t.left ∷ Vertex t.right ∷ Cross s t ∷ []

abbrev pub names_along : Input → Segment → List PointName
names_along input s = own_names s input.column ++ flat_map (names_with s) (input_segments input)

-- the place of one of some names, on a segment and within the closed column
pub record IsFound (k : ℕ) (s : Segment) (names : List PointName) (z : NamedPlace) : Type 0 where
  pub named : HasPlace z.name
  pub told : spot z ≡ place_of z.name
  pub stands : IsPlaceOf z.name (spot z)
  pub on_segment : IsTrue (is_on s (spot z))
  pub in_column : IsTrue (is_in_closed_column k (spot z))
  pub offered : Contains names z.name

-- all places of some names on a segment within the closed column
pub record AreFound (k : ℕ) (s : Segment) (names : List PointName) (list : List NamedPlace) : Type 0 where
  pub sound : All (IsFound k s names) list
  pub complete : (name : PointName) (p : Point) → Contains names name → pos 0 <ℤ p.w → IsPlaceOf name p
      → IsTrue (is_on s p)
      → IsTrue (is_in_closed_column k p) → Any (λ z. IsTrue (same_place p (spot z))) list

-- places on a segment within the closed column, from left to right, each once; all nodes are among them
pub record AreAlong (input : Input) (s : Segment) (list : List NamedPlace) : Type 0 where
  pub sound : All (IsFound input.column s (names_along input s)) list
  pub ordered : AllPairs (λ a b. point_cmp (spot a) (spot b) ≡ Less) list
  pub complete : (p : Point) → IsNodeOn input s p → Any (λ z. IsTrue (same_place p (spot z))) list
