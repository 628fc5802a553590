-- One step of a pass, from the members and the units to come before the next node to those after it.
use Rattle.std.specs.Prelude.{◌≡◌, ℕ, ℤ, ◌++◌, ◌∷◌, ◌⊎◌, Bool, false, List, map, length, All, AllPairs, Contains}
use Rattle.std.specs.declared.cmp.Ordering.TheVariants.{Less}
use Rattle.overlay_terms.specs.Plane.{Point, Segment, point_cmp}
use Rattle.exact_point.specs.Place.{place}
use Rattle.exact_point.specs.declared.point.HPoint.{HPoint}
use Rattle.exact_point.specs.declared.point_name.PointName.{PointName}
use Rattle.arrange.specs.Units.{AreUnits}
use Rattle.arrange.specs.declared.unit.Unit.{Unit}
use Rattle.crossing_sweep.specs.StripInput.{StripInput, IsStripInput, is_in_strip, segments_in}
use Rattle.crossing_sweep.specs.Leaning.{IsSteep}
use Rattle.crossing_sweep.specs.Passing.{HasCome, IsEntry, IsStepTo}
use Rattle.crossing_sweep.specs.Ahead.{points_of}
use Rattle.crossing_sweep.specs.Member.{segs_of}
use Rattle.crossing_sweep.specs.Rows.{AreBegun, mask_over, rows_of}
use Rattle.crossing_sweep.specs.declared.row.Row.{Row}
use Rattle.crossing_sweep.specs.Testing.{AreSeamsTested, seams_at}
use Rattle.crossing_sweep.specs.declared.member.Member.{Member}
use Rattle.crossing_sweep.specs.declared.start.Start.{Start}
use Rattle.crossing_sweep.specs.declared.search.Search.{Search}

-- the segments of units to come
abbrev pub segs_to_come : List Start → List Segment
segs_to_come starts = map (λ (s : Start). s.unit.seg) starts

-- a pass has come to q with some members, some units to come in the order in which they are met, and some places found
-- ahead, of which one that was taken out is the first
pub record StandsBefore (n : ℤ) (input : StripInput) (units : List Unit) (q : Point) (at : HPoint)
    (status : List Member) (coming : List Start) (ahead : List (HPoint × PointName)) : Type 0 where
  pub valid : IsStripInput input
  pub steep : IsSteep n
  pub are : AreUnits input.marked units
  pub come : HasCome n (segments_in input) (map (λ (u : Unit). u.seg) units) input.strip q (segs_of status)
      (segs_to_come coming) (place at ∷ points_of ahead)
  pub least : All (λ e. point_cmp (place at) (place e.0) ≡ Less) ahead
  pub entries : All (λ s. IsEntry input.strip s.unit.seg (place s.at)) coming
  pub once : AllPairs (λ s t. ¬ (s.unit.seg ≡ t.unit.seg)) coming
  pub ordered : AllPairs (λ s t. ¬ (point_cmp (place t.at) (place s.at) ≡ Less)) coming

-- a step to a place: the pieces of the members that hold it are closed, and these give way to those that stay, whose
-- pieces begin there; some units to come enter, and the neighbours at the two new seams are tested, but for a place
-- that is not in the strip, and where all neighbours are those that there were. So it is one step of the pass
pub record IsStepped (input : StripInput) (at : HPoint) (begin : ℕ) (status after : List Member)
    (coming rest : List Start) (old new : Search) (rows more_rows : List Row) : Type 0 where
  pub under : List Member
  pub bundle : List Member
  pub over : List Member
  pub stay : List Member
  pub entering : List Start
  pub was : status ≡ under ++ bundle ++ over
  pub is : after ≡ under ++ stay ++ over
  pub came : coming ≡ entering ++ rest
  pub among : (units : List Unit) → All (λ m. Contains units m.unit) bundle → All (λ s. Contains units s.unit) entering
      → All (λ m. Contains units m.unit) stay
  pub begun : AreBegun input.steps (mask_over 0 under) begin (is_in_strip input.strip (place at)) stay
  pub closed : more_rows ≡ rows ++ rows_of begin bundle
  pub tests : Bool
  pub known : tests ≡ false → (is_in_strip input.strip (place at) ≡ false) ⊎ (segs_of stay ≡ segs_of bundle)
  pub tested : AreSeamsTested input.strip (place at) (segs_of after)
      (seams_at tests (length under) (length (under ++ stay))) old new
  pub step : (n : ℤ) (units : List Unit) (q : Point) → StandsBefore n input units q at status coming old.ahead
      → IsStepTo (segments_in input) input.strip (place at) (segs_of under) (segs_of bundle) (segs_of over)
      (segs_to_come entering) (segs_of stay) (segs_to_come rest) (points_of old.ahead) (points_of new.ahead)
