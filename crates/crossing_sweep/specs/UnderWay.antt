-- A pass that is under way.
use Rattle.std.specs.Prelude.{◌≡◌, ℤ, ◌*◌, ◌≤◌, [], ◌⊎◌, ◌||◌}
use Rattle.std.specs.Prelude.{true, false, Bool, IsTrue, List, map, length, All, AllPairs, Contains}
use Rattle.std.specs.declared.cmp.Ordering.TheVariants.{Less}
use Rattle.overlay_terms.specs.Plane.{Point, Segment, point_cmp}
use Rattle.overlay_terms.specs.Tiles.{is_end, is_on_border}
use Rattle.exact_point.specs.Place.{place}
use Rattle.exact_point.specs.PlaceOf.{place_of}
use Rattle.exact_point.specs.PointName.{HasPlace}
use Rattle.exact_point.specs.declared.point.HPoint.{HPoint}
use Rattle.exact_point.specs.declared.point_name.PointName.{PointName}
use Rattle.arrange.specs.Units.{AreUnits}
use Rattle.arrange.specs.declared.unit.Unit.{Unit}
use Rattle.crossing_sweep.specs.Leaning.{IsSteep}
use Rattle.crossing_sweep.specs.Passing.{HasCome, IsEntry}
use Rattle.crossing_sweep.specs.Ahead.{points_of}
use Rattle.crossing_sweep.specs.Member.{segs_of}
use Rattle.crossing_sweep.specs.Stepping.{segs_to_come}
use Rattle.crossing_sweep.specs.Rows.{Carries}
use Rattle.crossing_sweep.specs.declared.member.Member.{Member}
use Rattle.crossing_sweep.specs.declared.start.Start.{Start}
use Rattle.crossing_sweep.specs.declared.row.Row.{Row}
use Rattle.crossing_sweep.specs.StripInput.{StripInput, IsStripInput, segments_in}
use Rattle.crossing_sweep.specs.Crossed.{IsUnitPair, IsCrossingAmong}

-- why a pass knows a place: it is an end or on a border, or two neighbours cross there,
-- which are listed where tests are
abbrev pub IsCaused : StripInput → Bool → List (Segment × Segment) → Point → Type 0
IsCaused input listed tests p =
    IsTrue (is_end (segments_in input) p || is_on_border (segments_in input) p)
    ⊎ (listed ≡ true → IsCrossingAmong tests p)

-- a place found ahead, under its name
pub record IsKey (input : StripInput) (listed : Bool) (tests : List (Segment × Segment))
    (e : HPoint × PointName) : Type 0 where
  pub named : HasPlace e.1
  pub told : place e.0 ≡ place_of e.1
  pub caused : IsCaused input listed tests (place e.0)

-- a pass is under way: it has come to a place q with some members, units to come, places found ahead, tests, rows and
-- names of the nodes passed
pub record IsUnderWay (input : StripInput) (listed : Bool) (status : List Member) (coming : List Start)
    (ahead : List (HPoint × PointName)) (tests : List (Segment × Segment)) (rows : List Row)
    (names : List PointName) : Type 0 where
  pub valid : IsStripInput input
  pub n : ℤ
  pub steep : IsSteep n
  pub units : List Unit
  pub are : AreUnits input.marked units
  pub q : Point
  pub come : HasCome n (segments_in input) (map (λ (u : Unit). u.seg) units) input.strip q (segs_of status)
      (segs_to_come coming) (points_of ahead)
  pub entries : All (λ s. IsEntry input.strip s.unit.seg (place s.at)) coming
  pub once : AllPairs (λ s t. ¬ (s.unit.seg ≡ t.unit.seg)) coming
  pub ordered : AllPairs (λ s t. ¬ (point_cmp (place t.at) (place s.at) ≡ Less)) coming
  pub to_enter : All (λ s. Contains units s.unit) coming
  pub entered : All (λ m. Contains units m.unit) status
  pub named : All HasPlace names
  pub carries : Carries n input q (map place_of names) status rows
  pub few : length tests ≤ 2 * length names
  pub pairs : All (IsUnitPair input.marked) tests
  pub unlisted : listed ≡ false → tests ≡ []
  pub keys : All (IsKey input listed tests) ahead
  pub causes : All (IsCaused input listed tests) (map place_of names)
