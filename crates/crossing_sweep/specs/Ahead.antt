-- The places that a sweep has found ahead.
use Rattle.std.specs.Prelude.{◌≡◌, ℕ, pos, ◌+◌, ◌-◌, ◌≤◌, ◌<ℤ◌, ◌⊎◌, ◌||◌, Bool, false, IsTrue, List, [], ◌∷◌, map, length, drop, All, AllPairs, Any, Contains, Option, IfSome}
use Rattle.std.specs.List.{range_with_len}
use Rattle.std.specs.Ordering.{is_lt, match_ordering}
use Rattle.std.specs.declared.cmp.Ordering.TheVariants.{Less, Equal}
use Rattle.overlay_terms.specs.Plane.{Point, Segment, same_place}
use Rattle.overlay_terms.specs.Tiles.{is_end, is_on_border}
use Rattle.exact_point.specs.Place.{place, hpoint_cmp}
use Rattle.exact_point.specs.PlaceOf.{place_of}
use Rattle.exact_point.specs.PointName.{HasPlace, IsPlaceOf}
use Rattle.crossing_sweep.specs.Rank.{IsOverWhole}
use Rattle.crossing_sweep.specs.RankedPlace.{ranked_cmp}
use Rattle.crossing_sweep.specs.declared.ranked_place.RankedPlace.{RankedPlace}
use Rattle.crossing_sweep.specs.StripInput.{StripInput, segments_in, is_in_closed_strip, Span}
use Rattle.crossing_sweep.specs.Beginning.{AreKnown}
use Rattle.exact_point.specs.declared.point.HPoint.{HPoint}
use Rattle.exact_point.specs.declared.point_name.PointName.{PointName}
use Rattle.exact_point.specs.declared.point_name.PointName.TheVariants.{Vertex, Border}

-- the places alone
abbrev pub points_of : List (HPoint × PointName) → List Point
points_of found = map (λ e. place e.0) found

-- a place put before the first that does not come before it
abbrev pub put_place : HPoint × PointName → List (HPoint × PointName) → List (HPoint × PointName)
put_place e [] = e ∷ []
put_place e (x ∷ xs) = match_ordering (hpoint_cmp e.0 x.0) (e ∷ x ∷ xs) (e ∷ x ∷ xs) (x ∷ put_place e xs)

-- places found since put among known ones
abbrev pub put_all : List (HPoint × PointName) → List (HPoint × PointName) → List (HPoint × PointName)
put_all [] known = known
put_all (e ∷ es) known = put_place e (put_all es known)

-- a place over a whole x, as all known ones are
abbrev pub LiesOverWhole : RankedPlace → Type 0
LiesOverWhole z = IsOverWhole (place z.at)

-- known places in one sorted list, each over a whole x, the first of which are taken out; none of those found since is
-- one still in the list
pub record AreAhead (known : List RankedPlace) (taken : ℕ) (found : List (HPoint × PointName)) : Type 0 where
  pub ordered : AllPairs (λ a b. ranked_cmp a b ≡ Less) known
  pub whole : All LiesOverWhole known
  pub few : taken ≤ length known
  pub apart : All (λ e. All (λ z. hpoint_cmp z.at e.0 ≡ Equal → ⊥) (drop taken known)) found

-- the first of some places comes before another
abbrev pub is_first_before : List (HPoint × PointName) → HPoint → Bool
is_first_before [] at = false
is_first_before (e ∷ es) at = is_lt (hpoint_cmp e.0 at)

-- the names of the places where the borders of a strip's columns cut a segment
abbrev pub cut_names : Segment → Span → List PointName
cut_names s strip = map (λ (k : ℕ). Border s k) (range_with_len strip.first (strip.last + 2 - strip.first))

-- the names that the known places on a segment may have: its own ends, and these
abbrev pub known_names : Segment → Span → List PointName
known_names s strip = Vertex s.left ∷ Vertex s.right ∷ cut_names s strip

-- both ends of a segment, if there is one, are among some names
abbrev pub HasEnds : List PointName → Option Segment → Type 0
HasEnds names before = IfSome before (λ s. Contains names (Vertex s.left) × Contains names (Vertex s.right))

-- a place has been added: it is there, and so is what was there; and nothing else has come
pub record HasAdded (old : List (HPoint × PointName)) (at : HPoint) (name : PointName) (new : List (HPoint × PointName)) : Type 0 where
  pub kept : (e : HPoint × PointName) → Contains old e → Contains new e
  pub there : Any (λ e. IsTrue (same_place (place at) (place e.0))) new
  pub only : (e : HPoint × PointName) → Contains new e → Contains old e ⊎ ((at, name) ≡ e)

-- a place is known under one of some names, whose place it is, and it lies in the closed strip
pub record IsOffered (strip : Span) (names : List PointName) (e : HPoint × PointName) : Type 0 where
  pub named : HasPlace e.1
  pub told : place e.0 ≡ place_of e.1
  pub stands : IsPlaceOf e.1 (place e.0)
  pub in_strip : IsTrue (is_in_closed_strip strip (place e.0))
  pub offered : Contains names e.1

-- the places of some names in a closed strip
pub record AreOffered (strip : Span) (names : List PointName) (found : List (HPoint × PointName)) : Type 0 where
  pub sound : All (IsOffered strip names) found
  pub complete : (name : PointName) (p : Point) → Contains names name → pos 0 <ℤ p.w → IsPlaceOf name p → IsTrue (is_in_closed_strip strip p) → Any (λ e. IsTrue (same_place p (place e.0))) found

-- the places that are known before a pass over the strip of an input, by their names
pub record AreKnownPlaces (input : StripInput) (found : List (HPoint × PointName)) : Type 0 where
  pub points : AreKnown (segments_in input) input.strip (points_of found)
  pub named : All (λ e. HasPlace e.1 × (place e.0 ≡ place_of e.1)) found
  pub fixed : All (λ e. IsTrue (is_end (segments_in input) (place e.0) || is_on_border (segments_in input) (place e.0))) found
