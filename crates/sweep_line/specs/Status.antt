-- The pieces over an x, as the status of the sweep keeps them.
use Rattle.std.specs.Prelude.{◌≡◌, ℕ, ◌<◌, ◌≤◌, ◌<ℤ◌, ◌*ℤ◌, ◌&&◌, ◌||◌}
use Rattle.std.specs.Prelude.{pos, int_lt, Bool, not, List, length, get_or, count_by}
use Rattle.std.specs.List.{remove}
use Rattle.std.specs.Ordering.{int_eq}
use Rattle.overlay_terms.specs.Plane.{Point, Segment, height_over}
use Rattle.exact_point.specs.Place.{place}
use Rattle.exact_point.specs.Crossing.{turn_of}
use Rattle.exact_point.specs.declared.point.HPoint.{HPoint}
use Rattle.sweep_line.specs.RightEnds.{lies_right}
use Rattle.sweep_line.specs.declared.status.StatusEntry.{StatusEntry}

-- the piece ends right of a point, by x
abbrev pub goes_on : Point → StatusEntry → Bool
goes_on q e = lies_right q e.to

-- up to each x there are at least as many right ends as pieces that end there
abbrev pub HasEndsFor : List StatusEntry → List HPoint → Type 0
HasEndsFor entries ends =
    (q : Point) → pos 0 <ℤ q.w → count_by (λ e. not (goes_on q e)) entries ≤ count_by (λ v. not (lies_right q v)) ends

-- one of some pieces has been taken out, whose right end has the x of a point
abbrev pub HasLostOne : Point → List StatusEntry → List StatusEntry → Type 0
HasLostOne end old new =
    (k : ℕ) × (e : StatusEntry) × (k < length old) × (get_or old k e ≡ e)
    × ((place e.to).x *ℤ end.w ≡ end.x *ℤ (place e.to).w) × (new ≡ remove old k)

-- a segment passes under a point, or through it, and then another turns left from it
abbrev pub passes_under : Point → Segment → Segment → Bool
passes_under q s t =
    int_lt (pos 0) (height_over t q) || (int_eq (height_over t q) (pos 0) && int_lt (pos 0) (turn_of t s))

-- the same of a piece's segment
abbrev pub is_passed : Point → Segment → StatusEntry → Bool
is_passed q s e = passes_under q s e.support
