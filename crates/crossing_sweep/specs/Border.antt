-- At the left border of a strip: the stretches that pass over a place of it have not entered yet, and the
-- next node is known all the same.
use Rattle.std.specs.Prelude.{◌≡◌, ℤ, pos, ◌<◌, ◌++◌, ◌<ℤ◌, ◌*ℤ◌, List, All}
use Rattle.overlay_terms.specs.Plane.{Point, Segment, height_over}
use Rattle.overlay_terms.specs.Column.{column_count, border}
use Rattle.overlay_terms.specs.TileLaws.{IsProper}
use Rattle.crossing_sweep.specs.StripInput.{Span}
use Rattle.crossing_sweep.specs.Leaning.{IsSteep}
use Rattle.crossing_sweep.specs.NextNode.{IsNextNode}
use Rattle.crossing_sweep.specs.Queue.{IsStatusAt, IsUpTo, IsQueued, IsQueue, IsFirstOf}

-- a stretch that begins left of a strip and passes over a place of its left border
pub record IsWaiting (strip : Span) (q : Point) (u : Segment) : Type 0 where
  pub begins_left : u.left.x <ℤ border strip.first
  pub on_border : q.x ≡ border strip.first *ℤ q.w
  pub passes_over : height_over u q <ℤ pos 0

-- a status of which the last members wait: the places found ahead are known from the others alone
pub record HasEntered (n : ℤ) (segments : List Segment) (strip : Span) (q : Point) (entered waiting : List Segment)
    (keys : List Point) : Type 0 where
  pub few : strip.first < column_count
  pub status_at : IsStatusAt n segments q (entered ++ waiting)
  pub wait : All (IsWaiting strip q) waiting
  pub queue : IsQueue segments strip q entered keys

-- so the next node is among them, unless it lies right of the strip
abbrev pub NextIsQueuedAtBorder : Type 0
NextIsQueuedAtBorder =
    (n : ℤ) (segments : List Segment) (strip : Span) (q r : Point) (entered waiting : List Segment) (keys : List Point)
    → IsSteep n → All IsProper segments →
    HasEntered n segments strip q entered waiting keys → IsNextNode segments q r → IsUpTo strip r → IsQueued keys r

-- and the first of them is the next node
abbrev pub FirstIsNextAtBorder : Type 0
FirstIsNextAtBorder =
    (n : ℤ) (segments : List Segment) (strip : Span) (q r : Point) (entered waiting : List Segment) (keys : List Point)
    → IsSteep n → All IsProper segments →
    HasEntered n segments strip q entered waiting keys → IsFirstOf segments strip q r keys → IsNextNode segments q r
