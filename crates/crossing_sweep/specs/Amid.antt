-- Amid a pass: its members are those of a full status that begin in the strip.
use Rattle.std.specs.Prelude.{◌≡◌, ℕ, pos, ◌++◌, ◌≤◌, ◌<ℤ◌, true, Bool, All, List, map, length, drop, filter, Contains}
use Rattle.overlay_terms.specs.Plane.{height_over}
use Rattle.exact_point.specs.Place.{place}
use Rattle.exact_point.specs.PlaceOf.{place_of}
use Rattle.exact_point.specs.declared.point.HPoint.{HPoint}
use Rattle.exact_point.specs.declared.point_name.PointName.{PointName}
use Rattle.crossing_sweep.specs.StripInput.{StripInput, is_in_strip}
use Rattle.crossing_sweep.specs.Status.{SidesFallAlong}
use Rattle.crossing_sweep.specs.Step.{IsSplitAt}
use Rattle.crossing_sweep.specs.Member.{segs_of}
use Rattle.crossing_sweep.specs.Rows.{place_at, rows_of}
use Rattle.crossing_sweep.specs.NodeNames.{AreKept}
use Rattle.crossing_sweep.specs.UnderWay.{IsUnderWay}
use Rattle.crossing_sweep.specs.declared.member.Member.{Member}
use Rattle.crossing_sweep.specs.declared.start.Start.{Start}
use Rattle.crossing_sweep.specs.declared.row.Row.{Row}
use Rattle.crossing_sweep.specs.declared.search.Search.{Search}
use Rattle.crossing_sweep.specs.declared.progress.Progress.{Progress}

-- a place on the right border of the strip: the pieces of the members that hold it are closed, and nothing else is done
pub record IsClosedAt (at : HPoint) (begin : ℕ) (status after : List Member) (rows more_rows : List Row) : Type 0 where
  pub under : List Member
  pub bundle : List Member
  pub over : List Member
  pub was : status ≡ under ++ bundle ++ over
  pub is : after ≡ status
  pub closed : more_rows ≡ rows ++ rows_of begin bundle
  pub split : SidesFallAlong (place at) (segs_of status)
      → IsSplitAt (place at) (segs_of under) (segs_of bundle) (segs_of over)

-- a member begins in the strip, and not on its right border
abbrev pub begins_within : StripInput → List PointName → Member → Bool
begins_within input names m = is_in_strip input.strip (place_at (map place_of names) m.begin)

-- a member passes under some places
abbrev pub PassesUnder : List (HPoint × PointName) → Member → Type 0
PassesUnder ahead m = All (λ e. pos 0 <ℤ height_over m.unit.seg (place e.0)) ahead

-- a pass with some members, units to come, places found ahead, tests, rows and names: but for what passes under all
-- places ahead its members are those of a full status that begin in the strip. As long as a place ahead lies there,
-- they are just these, and so are the units to come
pub record IsAmid (input : StripInput) (search : Search) (status : List Member) (coming : List Start) (rows : List Row)
    (names : List PointName) : Type 0 where
  pub full : List Member
  pub all_coming : List Start
  pub way : IsUnderWay input search.listed full all_coming search.ahead search.tests.items rows names
  -- members that the pass alone has, those that the full status alone has, and those of both
  pub gone : List Member
  pub some : List Member
  pub kept : List Member
  pub is : status ≡ gone ++ kept
  pub full_is : filter (begins_within input names) full ≡ some ++ kept
  pub gone_under : All (PassesUnder search.ahead) gone
  pub some_under : All (PassesUnder search.ahead) some
  pub same_status : (z : HPoint × PointName) → Contains search.ahead z → is_in_strip input.strip (place z.0) ≡ true
      → status ≡ filter (begins_within input names) full
  pub to_come : (z : HPoint × PointName) → Contains search.ahead z → is_in_strip input.strip (place z.0) ≡ true
      → all_coming ≡ coming

-- so is the code's, which counts the units that have entered and the nodes, and keeps the names of some nodes alone
pub record IsPassing (input : StripInput) (progress : Progress) : Type 0 where
  pub names : List PointName
  pub amid : IsAmid input progress.search progress.status.items
      (drop progress.entered progress.starts.items) progress.rows.items names
  pub known : progress.entered ≤ length progress.starts.items
  pub counted : progress.nodes ≡ length names
  pub kept : AreKept names progress.status.items progress.rows.items progress.names.items
