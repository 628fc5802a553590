-- What a test of neighbours finds: where two segments cross after a place, in a closed strip.
use Rattle.std.specs.Prelude.{◌≡◌, ℕ, ℤ, pos, ◌+◌, ◌≤◌, ◌<◌, ◌++◌, [], ◌∷◌, ◌<ℤ◌, ◌⊎◌, Bool, true, false, IsTrue, List, length, get_or, All, Contains}
use Rattle.std.specs.declared.cmp.Ordering.TheVariants.{Less}
use Rattle.overlay_terms.specs.Plane.{Point, Segment, whole, point_cmp, same_place}
use Rattle.overlay_terms.specs.TileLaws.{IsProper}
use Rattle.exact_point.specs.Crossing.{IsCrossingOf}
use Rattle.exact_point.specs.Place.{place}
use Rattle.exact_point.specs.PlaceOf.{place_of}
use Rattle.exact_point.specs.PointName.{HasPlace}
use Rattle.exact_point.specs.declared.point.HPoint.{HPoint}
use Rattle.exact_point.specs.declared.point_name.PointName.{PointName}
use Rattle.crossing_sweep.specs.StripInput.{is_in_closed_strip, Span}
use Rattle.crossing_sweep.specs.Leaning.{lean, lean_segment, IsSteep, IsSmall, IsAfter}
use Rattle.crossing_sweep.specs.Status.{AreOrderedAfter}
use Rattle.crossing_sweep.specs.Queue.{IsQueued}
use Rattle.crossing_sweep.specs.Ahead.{points_of}
use Rattle.crossing_sweep.specs.declared.search.Search.{Search}

-- just after r a segment passes over another
pub record PassesOver (r : Point) (a b : Segment) : Type 0 where
  pub n : ℤ
  pub steep : IsSteep n
  pub small : IsSmall r
  pub lower : IsProper a
  pub upper : IsProper b
  pub over : IsAfter (lean_segment n a) (lean_segment n b) (lean n r)

-- some segments are in order just after r, from the bottom to the top
pub record IsInOrder (r : Point) (status : List Segment) : Type 0 where
  pub n : ℤ
  pub steep : IsSteep n
  pub small : IsSmall r
  pub proper : All IsProper status
  pub ordered : AreOrderedAfter n r status

-- two segments cross at a known place, after r and in the closed strip; it is the place of its name
pub record IsFound (strip : Span) (r : Point) (a b : Segment) (e : HPoint × PointName) : Type 0 where
  pub crossing : IsCrossingOf a b (place e.0)
  pub after : point_cmp r (place e.0) ≡ Less
  pub in_strip : IsTrue (is_in_closed_strip strip (place e.0))
  pub named : HasPlace e.1
  pub told : place e.0 ≡ place_of e.1

-- two segments cross at a place after r, in the closed strip, at which the first one does not end
pub record CrossAhead (strip : Span) (r : Point) (a b : Segment) (p : Point) : Type 0 where
  pub positive : pos 0 <ℤ p.w
  pub crossing : IsCrossingOf a b p
  pub after : point_cmp r p ≡ Less
  pub in_strip : IsTrue (is_in_closed_strip strip p)
  pub no_end : ¬ IsTrue (same_place p (whole a.right))

-- two segments have been tested: what was known is known; and where the second passes over the first just after r, it is
-- known where they cross ahead, and nothing else has come
pub record AreTested (strip : Span) (r : Point) (a b : Segment) (old new : List (HPoint × PointName)) : Type 0 where
  pub kept : (e : HPoint × PointName) → Contains old e → Contains new e
  pub found : PassesOver r a b → (p : Point) → CrossAhead strip r a b p → IsQueued (points_of new) p
  pub only : PassesOver r a b → (e : HPoint × PointName) → Contains new e → Contains old e ⊎ IsFound strip r a b e

-- a place that a test of two neighbours of a status has found; where the tests are listed, theirs is
pub record IsFoundIn (strip : Span) (r : Point) (status : List Segment) (listed : Bool) (tests : List (Segment × Segment)) (e : HPoint × PointName) : Type 0 where
  pub lower : Segment
  pub upper : Segment
  pub lower_among : Contains status lower
  pub upper_among : Contains status upper
  pub found : IsFound strip r lower upper e
  pub told : listed ≡ true → Contains tests (lower, upper)

-- the seams at which a step tests, of which the members under the node and those that stay there make
-- two: none where it tests nothing
abbrev pub seams_at : Bool → ℕ → ℕ → List ℕ
seams_at true low high = low ∷ high ∷ []
seams_at false low high = []

-- the neighbours at some seams of a status have been tested: at a seam the members under it end. What was known is
-- known; where the status is in order just after r, it is known where neighbours at a seam cross ahead, and nothing else
-- has come; at most one test a seam is listed, of members, and none where no list is kept
pub record AreSeamsTested (strip : Span) (r : Point) (status : List Segment) (seams : List ℕ) (old new : Search) : Type 0 where
  pub listed : new.listed ≡ old.listed
  pub kept : (e : HPoint × PointName) → Contains old.ahead e → Contains new.ahead e
  pub found : IsInOrder r status → (i : ℕ) (d : Segment) (p : Point) → Contains seams (i + 1) → i + 1 < length status
      → CrossAhead strip r (get_or status i d) (get_or status (i + 1) d) p → IsQueued (points_of new.ahead) p
  pub only : IsInOrder r status → (e : HPoint × PointName) → Contains new.ahead e → Contains old.ahead e ⊎ IsFoundIn strip r status old.listed new.tests.items e
  pub more : List (Segment × Segment)
  pub tests : new.tests.items ≡ old.tests.items ++ more
  pub few : length more ≤ length seams
  pub pairs : All (λ t. Contains status t.0 × Contains status t.1) more
  pub unlisted : old.listed ≡ false → more ≡ []
