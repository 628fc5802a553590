-- The status of a sweep: the stretches that pass from one place to the next node, from the bottom to the top.
use Rattle.std.specs.Prelude.{◌≡◌, ℕ, ℤ, ◌+◌, ◌<◌, ◌<ℤ◌, ◌≤ℤ◌, ◌++◌}
use Rattle.std.specs.Prelude.{pos, IsTrue, List, length, get_or, All, AllPairs, Contains}
use Rattle.std.specs.declared.cmp.Ordering.TheVariants.{Less}
use Rattle.overlay_terms.specs.Plane.{Point, Segment, whole, point_cmp, height_over, is_on}
use Rattle.overlay_terms.specs.Tiles.{is_node}
use Rattle.overlay_terms.specs.TileLaws.{IsProper}
use Rattle.exact_point.specs.Crossing.{IsCrossingOf, turn_of}
use Rattle.crossing_sweep.specs.Leaning.{lean, lean_segment, IsSteep, IsSmall, IsAfter, IsBefore}

-- a stretch of one of some segments, which holds both its ends
pub record IsStretchOf (segments : List Segment) (u : Segment) : Type 0 where
  pub proper : IsProper u
  pub holder : Segment
  pub held_by : IsProper holder
  pub among : Contains segments holder
  pub on_left : IsTrue (is_on holder (whole u.left))
  pub on_right : IsTrue (is_on holder (whole u.right))

-- it begins at the first place or before it, and ends at the second or after it
pub record IsActive (u : Segment) (q r : Point) : Type 0 where
  pub from : point_cmp q (whole u.left) ≡ Less → ⊥
  pub to : point_cmp (whole u.right) r ≡ Less → ⊥

-- no node of some segments lies strictly between two places
abbrev pub NoNodeBetween : List Segment → Point → Point → Type 0
NoNodeBetween segments q r =
    (p : Point) → pos 0 <ℤ p.w → IsTrue (is_node segments p) → point_cmp q p ≡ Less → point_cmp p r ≡ Less → ⊥

-- in order from the bottom to the top just after a place
abbrev pub AreOrderedAfter : ℤ → Point → List Segment → Type 0
AreOrderedAfter n q status = AllPairs (λ a b. IsAfter (lean_segment n a) (lean_segment n b) (lean n q)) status

-- in order from the bottom to the top just before a place
abbrev pub AreOrderedBefore : ℤ → Point → List Segment → Type 0
AreOrderedBefore n r status = AllPairs (λ a b. IsBefore (lean_segment n a) (lean_segment n b) (lean n r)) status

-- a status from one place to a later one, with no node strictly between: stretches that pass from the one to the other,
-- in order just after the first
pub record IsStatus (n : ℤ) (segments : List Segment) (q r : Point) (status : List Segment) : Type 0 where
  pub from_small : IsSmall q
  pub to_small : IsSmall r
  pub in_order : point_cmp q r ≡ Less
  pub clear : NoNodeBetween segments q r
  pub stretches : All (IsStretchOf segments) status
  pub active : All (λ u. IsActive u q r) status
  pub ordered : AreOrderedAfter n q status

-- a status keeps its order up to the next node
abbrev pub OrderIsKept : Type 0
OrderIsKept =
    (n : ℤ) (segments : List Segment) (q r : Point) (status : List Segment) → IsSteep n → IsStatus n segments q r status
    → AreOrderedBefore n r status

-- of two members that hold the next node, the lower and the one after it cross there
abbrev pub NeighboursCross : Type 0
NeighboursCross =
    (n : ℤ) (segments : List Segment) (q r : Point) (status : List Segment) → IsSteep n
    → IsStatus n segments q r status →
    (i j : ℕ) (d : Segment) → i < j → j < length status → IsTrue (is_on (get_or status i d) r)
    → IsTrue (is_on (get_or status j d) r) →
    IsCrossingOf (get_or status i d) (get_or status (i + 1) d) r

-- the height of the next node over the lines of a status: what is not above a line is not above those after it, and
-- what is below it is below those
pub record SidesFallAlong (r : Point) (status : List Segment) : Type 0 where
  pub not_above : AllPairs (λ a b. height_over a r ≤ℤ pos 0 → height_over b r ≤ℤ pos 0) status
  pub below : AllPairs (λ a b. height_over a r <ℤ pos 0 → height_over b r <ℤ pos 0) status
  pub held : All (λ a. height_over a r ≡ pos 0 → IsTrue (is_on a r)) status

-- so the members under the next node come first, then those that hold it, then those over it
abbrev pub SidesFall : Type 0
SidesFall =
    (n : ℤ) (segments : List Segment) (q r : Point) (status : List Segment) → IsSteep n → IsStatus n segments q r status
    → SidesFallAlong r status

-- stretches that hold a place, in the order of their directions
pub record AreTurned (segments : List Segment) (r : Point) (bundle : List Segment) : Type 0 where
  pub stretches : All (IsStretchOf segments) bundle
  pub hold : All (λ u. height_over u r ≡ pos 0) bundle
  pub turned : AllPairs (λ a b. pos 0 <ℤ turn_of a b) bundle

-- with the stretches that go on or begin at the next node in the order of their directions, between those under it and
-- those over it, a status is in order just after it
abbrev pub TurnedRound : Type 0
TurnedRound =
    (n : ℤ) (segments : List Segment) (q r : Point) (under bundle over stay : List Segment) → IsSteep n
    → IsStatus n segments q r (under ++ bundle ++ over) →
    All (λ u. pos 0 <ℤ height_over u r) under → All (λ u. height_over u r <ℤ pos 0) over → AreTurned segments r stay →
    AreOrderedAfter n r (under ++ stay ++ over)
