-- One step of a sweep, from the status just after a place to that just after the next
-- node, with the places found ahead.
use Rattle.std.specs.Prelude.{◌≡◌, ℕ, ℤ, ◌+◌, ◌<◌, ◌++◌, ◌<ℤ◌, ◌⊎◌}
use Rattle.std.specs.Prelude.{pos, IsTrue, List, length, get_or, All, Any, Contains}
use Rattle.std.specs.declared.cmp.Ordering.TheVariants.{Less}
use Rattle.overlay_terms.specs.Plane.{Point, Segment, whole, point_cmp, height_over}
use Rattle.overlay_terms.specs.Tiles.{is_node}
use Rattle.overlay_terms.specs.TileLaws.{IsProper}
use Rattle.exact_point.specs.Crossing.{IsCrossingOf}
use Rattle.crossing_sweep.specs.StripInput.{Span}
use Rattle.crossing_sweep.specs.Leaning.{IsSteep}
use Rattle.crossing_sweep.specs.Status.{IsStretchOf, AreTurned}
use Rattle.crossing_sweep.specs.NextNode.{IsNextNode}
use Rattle.crossing_sweep.specs.Queue.{IsAlong, GoesOn, IsStatusAt, IsUpTo, IsQueued, IsQueue}

-- stretches between nodes, one along each segment that goes on just after any place
pub record AreStretches (segments units : List Segment) : Type 0 where
  pub stretches : All (IsStretchOf segments) units
  pub left_nodes : All (λ u. IsTrue (is_node segments (whole u.left))) units
  pub right_nodes : All (λ u. IsTrue (is_node segments (whole u.right))) units
  pub along : (t : Segment) (q : Point) → Contains segments t → pos 0 <ℤ q.w → GoesOn t q
      → Any (λ u. IsAlong t u × GoesOn u q) units

-- a status that has exactly the stretches that go on after a place
pub record IsFullStatus (n : ℤ) (segments units : List Segment) (q : Point) (status : List Segment) : Type 0 where
  pub status_at : IsStatusAt n segments q status
  pub among : All (Contains units) status
  pub members : (u : Segment) → Contains units u → GoesOn u q → Contains status u

-- a status in three parts: the members under a place, those that hold it, and those over it
pub record IsSplitAt (r : Point) (under bundle over : List Segment) : Type 0 where
  pub passes_under : All (λ u. pos 0 <ℤ height_over u r) under
  pub hold : All (λ u. height_over u r ≡ pos 0) bundle
  pub passes_over : All (λ u. height_over u r <ℤ pos 0) over

-- the stretches that hold a place and go on after it, in the order of their directions
pub record AreStaying (segments units : List Segment) (r : Point) (stay : List Segment) : Type 0 where
  pub turned : AreTurned segments r stay
  pub among : All (Contains units) stay
  pub go_on : All (λ u. GoesOn u r) stay
  pub complete : (u : Segment) → Contains units u → GoesOn u r → height_over u r ≡ pos 0 → Contains stay u

-- with those that hold the next node and go on in the place of those that held it, a status is again one
abbrev pub StatusGoesOn : Type 0
StatusGoesOn =
    (n : ℤ) (segments units : List Segment) (q r : Point) (under bundle over stay : List Segment) → IsSteep n
    → All IsProper segments → AreStretches segments units →
    IsFullStatus n segments units q (under ++ bundle ++ over) → IsNextNode segments q r → IsSplitAt r under bundle over
    → AreStaying segments units r stay →
    IsFullStatus n segments units r (under ++ stay ++ over)

-- the places found ahead after a step: those that were known and come after the node, and where neighbours cross that
-- the step has made such: where the members under the node meet the next ones, and where those over it begin
pub record IsGrown (strip : Span) (r : Point) (under stay over : List Segment) (keys new : List Point) : Type 0 where
  pub kept : (p : Point) → pos 0 <ℤ p.w → IsQueued keys p → point_cmp r p ≡ Less → IsQueued new p
  pub tested : (i : ℕ) (d : Segment) (p : Point) → (i + 1 ≡ length under) ⊎ (i + 1 ≡ length (under ++ stay))
      → i + 1 < length (under ++ stay ++ over) → pos 0 <ℤ p.w
      → IsCrossingOf (get_or (under ++ stay ++ over) i d) (get_or (under ++ stay ++ over) (i + 1) d) p
      → point_cmp r p ≡ Less → IsUpTo strip p → IsQueued new p

-- so two tests of neighbours at a node keep the places found ahead complete
abbrev pub QueueGoesOn : Type 0
QueueGoesOn =
    (segments : List Segment) (strip : Span) (q r : Point) (under bundle over stay : List Segment)
    (keys new : List Point) → pos 0 <ℤ q.w →
    IsQueue segments strip q (under ++ bundle ++ over) keys → IsNextNode segments q r → AreTurned segments r stay
    → IsGrown strip r under stay over keys new →
    IsQueue segments strip r (under ++ stay ++ over) new
