-- What a pair's row says: the areas of its two features, what both have in common, and how they lie to each other, in the
-- words of OGC 06-103r4, 6.1.15 (ISO 19125-1:2004, 6.1.14).
use Rattle.std.specs.Prelude.{◌≡◌, ◌≢◌, ℕ, pos, ◌≤ℤ◌, Bool, true, false, not, ◌&&◌, List, [], ◌∷◌, Some, All, slice_get}
use Rattle.overlay_terms.specs.Plane.{WholePoint}
use Rattle.overlay_terms.specs.Trees.{Steps}
use Rattle.block_reading.specs.Terms.{Core}
use Rattle.feature_windows.specs.declared.found.Found.{Found}
use Rattle.feature_windows.specs.declared.window.Near.{Near}
use Rattle.feature_jobs.specs.Corners.{turned, in_parts}
use Rattle.feature_jobs.specs.Expressions.{AreInCore, of_first, of_both, first_alone, second_alone}
use Rattle.feature_jobs.specs.Findings.{IsFoundOf, HasNone}
use Rattle.feature_jobs.specs.declared.pair.PairFound.{PairFound}
use Rattle.feature_jobs.specs.declared.relation.PairSteps.{PairSteps}
use Rattle.feature_jobs.specs.declared.relation.Relation.{Relation}
use Rattle.feature_jobs.specs.declared.relation.Relation.TheVariants.{Disjoint, Touches, Overlaps, Within, Contains, Equals}

-- the expressions that a pair asks
pub record ArePairSteps (steps : PairSteps) : Type 0 where
  pub both : AreInCore of_both steps.both
  pub first_alone : AreInCore first_alone steps.first_alone
  pub second_alone : AreInCore second_alone steps.second_alone

-- a feature counts for a layer
abbrev pub near_at : ℕ → ℕ → Near
near_at feature layer = record { feature = feature; layer = layer }

-- nothing was found, in no window
abbrev pub nothing_found : Found
nothing_found = record { twice = pos 0; bound = pos 0; pieces = 0; windows = 0 }

-- a feature is one ring, and this is twice its area by its corners
pub record IsOfRing (features : List (List (List WholePoint))) (feature : ℕ) (found : Found) : Type 0 where
  pub first : WholePoint
  pub others : List WholePoint
  pub one : slice_get features feature ≡ Some ((first ∷ others) ∷ [])
  pub twice : found.twice ≡ in_parts (turned first others)
  pub bound : found.bound ≡ pos 0

-- a feature is not there, or has no point
abbrev pub HasNoPoint : List (List (List WholePoint)) → ℕ → Type 0
HasNoPoint features feature = (rings : List (List WholePoint)) → slice_get features feature ≡ Some rings → All (λ ring. ring ≡ []) rings

-- the area of a feature: none where it has no point; that of its only ring; or what was found of it in windows of a core
pub data IsAreaOf (features : List (List (List WholePoint))) (feature : ℕ) (found : Found) : Type 0 where
  of_none : HasNoPoint features feature → found ≡ nothing_found → IsAreaOf features feature found
  of_ring : IsOfRing features feature found → IsAreaOf features feature found
  in_windows : (core : Core) (steps : Steps) → AreInCore of_first steps → IsFoundOf features (near_at feature 0 ∷ []) 2 core steps found
      → IsAreaOf features feature found

-- one of two features has no part off the other: their areas are exact, and its own is no more than what both have; or no
-- boundary of such a part was found in windows of a core
pub data HasNoRest (features : List (List (List WholePoint))) (near : List Near) (alone : Steps) (own both : Found) : Type 0 where
  by_areas : both.bound ≡ pos 0 → own.bound ≡ pos 0 → own.twice ≤ℤ both.twice → HasNoRest features near alone own both
  by_passes : (core : Core) → HasNone features near 2 core alone → HasNoRest features near alone own both

-- the relation of two features whose interiors meet, by whether the first has a part off the second, and the second off the
-- first
abbrev pub relation_by : Bool → Bool → Relation
relation_by true true = Overlaps
relation_by false true = Within
relation_by true false = Contains
relation_by false false = Equals

-- of two whose interiors do not, by whether their boundaries have a point in common
abbrev pub touching : Bool → Relation
touching true = Touches
touching false = Disjoint

-- whether one of two features contains the other
abbrev pub is_part : Relation → Bool
is_part Within = true
is_part Contains = true
is_part Disjoint = false
is_part Touches = false
is_part Overlaps = false
is_part Equals = false

-- the relation of features whose interiors meet, and that a part is off is denied for cause alone
pub record IsByRests (features : List (List (List WholePoint))) (near : List Near) (steps : PairSteps) (a b both : Found) (relation : Relation) : Type 0 where
  pub first : Bool
  pub second : Bool
  pub is : relation ≡ relation_by first second
  pub first_none : first ≡ false → HasNoRest features near steps.first_alone a both
  pub second_none : second ≡ false → HasNoRest features near steps.second_alone b both

-- what was found of both, in windows of a core, gives their relation: interiors meet where a piece was found
pub record IsRelated (features : List (List (List WholePoint))) (near : List Near) (steps : PairSteps) (a b both : Found) (relation : Relation) (is_proper : Bool) : Type 0 where
  pub met : Bool
  pub apart : both.pieces ≡ 0 → relation ≡ touching met
  pub meeting : both.pieces ≢ 0 → IsByRests features near steps a b both relation
  pub proper : is_proper ≡ (is_part relation && not met)

-- a pair has nothing in common
pub record IsApart (one : PairFound) : Type 0 where
  pub relation : one.relation ≡ Disjoint
  pub proper : one.is_proper ≡ false
  pub both : one.both ≡ nothing_found

-- one of a pair lies within the other, properly: both have in common what it has
pub record IsInner (relation : Relation) (inner : Found) (one : PairFound) : Type 0 where
  pub is : one.relation ≡ relation
  pub proper : one.is_proper ≡ true
  pub both : one.both ≡ inner

-- how a pair was found: apart; one inside the other; or by passes
pub data IsTold (features : List (List (List WholePoint))) (near : List Near) (one : PairFound) : Type 0 where
  apart : IsApart one → IsTold features near one
  first_inside : IsInner Within one.a one → IsTold features near one
  second_inside : IsInner Contains one.b one → IsTold features near one
  by_windows : (steps : PairSteps) → ArePairSteps steps → IsFoundOf features near 2 one.core steps.both one.both
      → IsRelated features near steps one.a one.b one.both one.relation one.is_proper → IsTold features near one

-- a pair of features: the areas are those of its own two, and what both have in common is of these
pub record IsPair (features : List (List (List WholePoint))) (a b : ℕ) (one : PairFound) : Type 0 where
  pub first : IsAreaOf features a one.a
  pub second : IsAreaOf features b one.b
  pub told : IsTold features (near_at a 0 ∷ near_at b 1 ∷ []) one
