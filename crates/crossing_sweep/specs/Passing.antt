-- A pass over a strip from node to node: where it is, how it begins, goes on and ends.
use Rattle.std.specs.Prelude.{◌≡◌, ℤ, ◌<◌, ◌++◌, [], ◌∷◌, ◌≤ℤ◌, ◌<ℤ◌, ◌*ℤ◌, ◌⊎◌}
use Rattle.std.specs.Prelude.{pos, int_lt, Bool, true, false, IsTrue, List, filter, All, AllPairs, Contains}
use Rattle.std.specs.declared.cmp.Ordering.TheVariants.{Less}
use Rattle.overlay_terms.specs.Plane.{Point, Segment, whole, point_cmp, same_place, is_on}
use Rattle.overlay_terms.specs.Column.{column_count, border}
use Rattle.overlay_terms.specs.Tiles.{is_node}
use Rattle.overlay_terms.specs.TileLaws.{IsProper}
use Rattle.exact_point.specs.Crossing.{turn_of}
use Rattle.crossing_sweep.specs.StripInput.{Span}
use Rattle.crossing_sweep.specs.Leaning.{IsSteep, IsSmall}
use Rattle.crossing_sweep.specs.NextNode.{IsNextNode}
use Rattle.crossing_sweep.specs.Queue.{GoesOn, IsUpTo, IsQueue}
use Rattle.crossing_sweep.specs.Step.{AreStretches, IsFullStatus, IsSplitAt, IsGrown}
use Rattle.crossing_sweep.specs.Border.{IsWaiting}

-- a segment begins left of a strip
abbrev pub begins_left : Span → Segment → Bool
begins_left strip u = int_lt u.left.x (border strip.first)

-- a segment is still to come after a place: it waits at the left border, or it begins later
pub record IsToCome (strip : Span) (q : Point) (u : Segment) : Type 0 where
  pub waits : begins_left strip u ≡ true → IsWaiting strip q u
  pub later : begins_left strip u ≡ false → point_cmp q (whole u.left) ≡ Less

-- those that wait
abbrev pub waiting : Span → List Segment → List Segment
waiting strip to_come = filter (begins_left strip) to_come

-- a node after a place, in the closed strip
pub record IsAhead (segments : List Segment) (strip : Span) (q z : Point) : Type 0 where
  pub small : IsSmall z
  pub node : IsTrue (is_node segments z)
  pub after : point_cmp q z ≡ Less
  pub from : (border strip.first *ℤ z.w) ≤ℤ z.x
  pub up_to : IsUpTo strip z

-- a pass has come to a place: the units that have entered and those that wait are the status just after it;
-- the other units of the strip are still to come; and the places found ahead are nodes of the closed strip,
-- all that have to be known by then
pub record HasCome (n : ℤ) (segments units : List Segment) (strip : Span) (q : Point) (entered to_come : List Segment)
    (keys : List Point) : Type 0 where
  pub few : strip.first < column_count
  pub full : IsFullStatus n segments units q (entered ++ waiting strip to_come)
  pub coming : All (IsToCome strip q) to_come
  pub among : All (Contains units) to_come
  pub complete : (u : Segment) → Contains units u → point_cmp q (whole u.left) ≡ Less → IsUpTo strip (whole u.left)
      → Contains to_come u
  pub queue : IsQueue segments strip q entered keys
  pub ahead : All (IsAhead segments strip q) keys

-- where a pass over a strip meets a segment first: at its left end, or where it holds the left border
pub record IsEntry (strip : Span) (u : Segment) (z : Point) : Type 0 where
  pub positive : pos 0 <ℤ z.w
  pub on : IsTrue (is_on u z)
  pub cut : begins_left strip u ≡ true → z.x ≡ border strip.first *ℤ z.w
  pub left : begins_left strip u ≡ false → IsTrue (same_place z (whole u.left))

-- one step of a pass, to the first of the places found ahead: of the entered units some pass under it, some hold it,
-- some pass over it; of those still to come the first ones enter there; and those that hold it and go on stay, in the
-- order of their directions
pub record IsStepTo (segments : List Segment) (strip : Span) (r : Point)
    (under bundle over entering stay rest : List Segment) (keys new : List Point) : Type 0 where
  pub split : IsSplitAt r under bundle over
  pub enter : All (λ u. (z : Point) × IsEntry strip u z × IsTrue (same_place z r)) entering
  pub remain : All (λ u. (z : Point) × IsEntry strip u z × (point_cmp r z ≡ Less)) rest
  pub stay_from : (u : Segment) → Contains stay u → (Contains bundle u ⊎ Contains entering u) × GoesOn u r
  pub stay_all : (u : Segment) → Contains bundle u ⊎ Contains entering u → GoesOn u r → Contains stay u
  pub turned : AllPairs (λ a b. pos 0 <ℤ turn_of a b) stay
  pub least : All (λ z. point_cmp r z ≡ Less) keys
  pub grown : IsGrown strip r under stay over (r ∷ keys) new
  pub ahead : All (IsAhead segments strip r) new

-- then the place is the next node, and the pass has come to it
pub record IsTaken (n : ℤ) (segments units : List Segment) (strip : Span) (q r : Point) (entered rest : List Segment)
    (new : List Point) : Type 0 where
  pub next : IsNextNode segments q r
  pub come : HasCome n segments units strip r entered rest new

abbrev pub PassGoesOn : Type 0
PassGoesOn =
    (n : ℤ) (segments units : List Segment) (strip : Span) (q r : Point)
    (under bundle over entering stay rest : List Segment) (keys new : List Point) → IsSteep n
    → All IsProper segments →
    AreStretches segments units
    → HasCome n segments units strip q (under ++ bundle ++ over) (entering ++ rest) (r ∷ keys) →
    IsStepTo segments strip r under bundle over entering stay rest keys new →
    IsTaken n segments units strip q r (under ++ stay ++ over) rest new

-- where no place is found ahead, no node of the closed strip comes any more
abbrev pub PassEnds : Type 0
PassEnds =
    (n : ℤ) (segments units : List Segment) (strip : Span) (q : Point) (entered to_come : List Segment) → IsSteep n
    → All IsProper segments →
    HasCome n segments units strip q entered to_come [] →
    (p : Point) → pos 0 <ℤ p.w → IsTrue (is_node segments p) → point_cmp q p ≡ Less → IsUpTo strip p → ⊥
