-- The status just after a place, and the places that a sweep has found ahead: the first of them is the next node.
use Rattle.std.specs.Prelude.{◌≡◌, ℕ, ℤ, ◌+◌, ◌<◌, ◌<ℤ◌, ◌≤ℤ◌, ◌*ℤ◌, ◌||◌}
use Rattle.std.specs.Prelude.{pos, IsTrue, List, length, get_or, All, Any, Contains}
use Rattle.std.specs.declared.cmp.Ordering.TheVariants.{Less}
use Rattle.overlay_terms.specs.Plane.{Point, Segment, whole, point_cmp, same_place, height_over}
use Rattle.overlay_terms.specs.Column.{border}
use Rattle.overlay_terms.specs.Tiles.{is_end, is_on_border, is_node}
use Rattle.overlay_terms.specs.TileLaws.{IsProper}
use Rattle.exact_point.specs.Crossing.{IsCrossingOf}
use Rattle.crossing_sweep.specs.StripInput.{Span}
use Rattle.crossing_sweep.specs.Leaning.{IsSteep, IsSmall}
use Rattle.crossing_sweep.specs.Status.{IsStretchOf, AreOrderedAfter}
use Rattle.crossing_sweep.specs.NextNode.{IsNextNode}

-- a stretch lies on the line of a segment
pub record IsAlong (t u : Segment) : Type 0 where
  pub left : height_over t (whole u.left) ≡ pos 0
  pub right : height_over t (whole u.right) ≡ pos 0

-- a segment begins at a place or before it, and ends after it
pub record GoesOn (u : Segment) (q : Point) : Type 0 where
  pub begun : point_cmp q (whole u.left) ≡ Less → ⊥
  pub lasting : point_cmp q (whole u.right) ≡ Less

-- the status just after a place: stretches that go on there and end at nodes, in order, and one
-- along each segment that goes on
pub record IsStatusAt (n : ℤ) (segments : List Segment) (q : Point) (status : List Segment) : Type 0 where
  pub small : IsSmall q
  pub stretches : All (IsStretchOf segments) status
  pub go_on : All (λ u. GoesOn u q) status
  pub end_at_nodes : All (λ u. IsTrue (is_node segments (whole u.right))) status
  pub ordered : AreOrderedAfter n q status
  pub covered : (t : Segment) → Contains segments t → GoesOn t q → Any (IsAlong t) status

-- a place is not right of a strip's right border
abbrev pub IsUpTo : Span → Point → Type 0
IsUpTo strip p = p.x ≤ℤ (border (strip.last + 1) *ℤ p.w)

-- one of some places is that of p
abbrev pub IsQueued : List Point → Point → Type 0
IsQueued keys p = Any (λ z. IsTrue (same_place p z)) keys

-- the places found ahead of a place: all ends and border places after it that are not right of the strip, and where
-- neighbours of the status cross
pub record IsQueue (segments : List Segment) (strip : Span) (q : Point) (status : List Segment)
    (keys : List Point) : Type 0 where
  pub fixed : (p : Point) → pos 0 <ℤ p.w → IsTrue (is_end segments p || is_on_border segments p) → point_cmp q p ≡ Less
      → IsUpTo strip p → IsQueued keys p
  pub seams : (i : ℕ) (d : Segment) (p : Point) → i + 1 < length status → pos 0 <ℤ p.w
      → IsCrossingOf (get_or status i d) (get_or status (i + 1) d) p
      → point_cmp q p ≡ Less → IsUpTo strip p → IsQueued keys p

-- so the next node is among them, unless it lies right of the strip
abbrev pub NextIsQueued : Type 0
NextIsQueued =
    (n : ℤ) (segments : List Segment) (strip : Span) (q r : Point) (status : List Segment) (keys : List Point)
    → IsSteep n → All IsProper segments →
    IsStatusAt n segments q status → IsQueue segments strip q status keys → IsNextNode segments q r → IsUpTo strip r
    → IsQueued keys r

-- a place that is a node after another, not right of the strip, and not after any of some places
pub record IsFirstOf (segments : List Segment) (strip : Span) (q r : Point) (keys : List Point) : Type 0 where
  pub small : IsSmall r
  pub node : IsTrue (is_node segments r)
  pub after : point_cmp q r ≡ Less
  pub up_to : IsUpTo strip r
  pub positive : All (λ z. pos 0 <ℤ z.w) keys
  pub least : All (λ z. point_cmp z r ≡ Less → ⊥) keys

-- and the first of them is the next node
abbrev pub FirstIsNext : Type 0
FirstIsNext =
    (n : ℤ) (segments : List Segment) (strip : Span) (q r : Point) (status : List Segment) (keys : List Point)
    → IsSteep n → All IsProper segments →
    IsStatusAt n segments q status → IsQueue segments strip q status keys → IsFirstOf segments strip q r keys
    → IsNextNode segments q r
