-- Laws over the definitions, which functions of this crate ensure.
use Rattle.std.specs.Prelude.{◌≡◌, ◌<ℤ◌, ◌↔◌, ◌≤◌, [], ◌∷◌, ◌++◌}
use Rattle.std.specs.Prelude.{pos, false, Bool, IsTrue, List, reverse, length, filter_map, All, Any}
use Rattle.std.specs.List.{list_any}
use Rattle.std.specs.Ordering.{ordering_reverse}
use Rattle.std.specs.declared.cmp.Ordering.TheVariants.{Less, Equal}
use Rattle.overlay_terms.specs.Plane.{WholePoint, Point, Segment, segments_of, ring_segments}
use Rattle.overlay_terms.specs.Plane.{is_inside, is_on, point_cmp, same_place}
use Rattle.overlay_terms.specs.Trees.{Steps, steps_value}
use Rattle.overlay_terms.specs.Layers.{layers_max, Name, Layer, value_of, base_of, layers_in_reach}
use Rattle.overlay_terms.specs.Layers.{segments_in_reach, steps_in_reach, answer_at, edge}
use Rattle.overlay_terms.specs.Tiles.{below_bits}
use Rattle.overlay_terms.specs.Commands.{Command, AllAccepted, layers_after}
use Rattle.overlay_terms.specs.Orderly.{IsOrderly}

-- whether a point lies on one of some segments
abbrev pub is_on_any : List Segment → Point → Bool
is_on_any segments p = list_any (λ s. is_on s p) segments

-- the direction of a ring has no meaning: turned round, it changes neither the inside nor the edge
abbrev pub DirectionHasNoMeaning : Type 0
DirectionHasNoMeaning =
    (before after : List (List WholePoint)) (ring : List WholePoint) (p : Point) →
    (is_inside (segments_of (before ++ reverse ring ∷ after)) p ≡ is_inside (segments_of (before ++ ring ∷ after)) p)
    × (is_on_any (segments_of (before ++ reverse ring ∷ after)) p ≡ is_on_any (segments_of (before ++ ring ∷ after)) p)

-- a ring given twice changes no inside, and all of it is edge
abbrev pub TwiceIsAllEdge : Type 0
TwiceIsAllEdge =
    (before after : List (List WholePoint)) (ring : List WholePoint) (p : Point) →
    (is_inside (segments_of (before ++ ring ∷ ring ∷ after)) p ≡ is_inside (segments_of (before ++ after)) p)
    × (IsTrue (is_on_any (ring_segments ring) p) → IsTrue (is_on_any (segments_of (before ++ ring ∷ ring ∷ after)) p))

-- points that are the same place have the same answer in every layer
abbrev pub SamePlaceSameAnswer : Type 0
SamePlaceSameAnswer =
    (layers : List Layer) (name : Name) (p q : Point) → pos 0 <ℤ p.w → pos 0 <ℤ q.w → IsTrue (same_place p q) →
    answer_at layers name p ≡ answer_at layers name q

-- there is no complement: where no base layer is, no definition is
abbrev pub NothingFromNothing : Type 0
NothingFromNothing = (steps : Steps) → steps_value steps (λ _. false) ≡ false

-- the answer is edge exactly on a segment in reach
abbrev pub EdgeExactlyOnSegments : Type 0
EdgeExactlyOnSegments =
    (layers : List Layer) (name : Name) (p : Point) →
    (answer_at layers name p ≡ edge) ↔ Any (λ m. IsTrue (is_on m.segment p)) (segments_in_reach layers name)

-- the value of a layer is its steps at the parities of its segments in reach
abbrev pub ValueIsSteps : Type 0
ValueIsSteps =
    (layers : List Layer) (name : Name) (p : Point) → IsOrderly layers →
    value_of layers name p ≡ steps_value (steps_in_reach layers name) (below_bits (segments_in_reach layers name) p)

-- a layer is false where every base layer in reach is
abbrev pub FalseWhereBasesAre : Type 0
FalseWhereBasesAre =
    (layers : List Layer) (name : Name) (p : Point) → IsOrderly layers →
    All (λ b. is_inside (segments_of b.1) p ≡ false) (filter_map base_of (layers_in_reach layers name))
    → value_of layers name p ≡ false

-- what accepted commands leave is orderly, and has room
abbrev pub AcceptedIsOrderly : Type 0
AcceptedIsOrderly =
    (commands : List Command) → AllAccepted [] commands →
    IsOrderly (layers_after commands) × (length (layers_after commands) ≤ layers_max)

-- the order of points is total and agrees with sameness
pub record OrdersPoints (p q r : Point) : Type 0 where
  pub same : (point_cmp p q ≡ Equal) ↔ IsTrue (same_place p q)
  pub turned : point_cmp q p ≡ ordering_reverse (point_cmp p q)
  pub through : point_cmp p q ≡ Less → point_cmp q r ≡ Less → point_cmp p r ≡ Less
  pub alike : IsTrue (same_place p q) → point_cmp p r ≡ point_cmp q r

abbrev pub OrderIsTotal : Type 0
OrderIsTotal = (p q r : Point) → pos 0 <ℤ p.w → pos 0 <ℤ q.w → pos 0 <ℤ r.w → OrdersPoints p q r
