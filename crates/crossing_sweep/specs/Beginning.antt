-- How a pass over a strip begins: below all of its left border, with no unit entered, and the ends and
-- border places of the strip known.
use Rattle.std.specs.Prelude.{◌≡◌, ℤ, ◌≤◌, ◌<◌, [], ◌≤ℤ◌, ◌<ℤ◌, ◌*ℤ◌, ◌⊎◌, ◌||◌}
use Rattle.std.specs.Prelude.{pos, neg_ℤ, true, IsTrue, List, All, AllPairs, Contains}
use Rattle.std.specs.declared.cmp.Ordering.TheVariants.{Less}
use Rattle.overlay_terms.specs.Plane.{Point, Segment, whole, point_cmp, same_place}
use Rattle.overlay_terms.specs.Column.{column_count, border}
use Rattle.overlay_terms.specs.Tiles.{is_end, is_on_border, is_node}
use Rattle.overlay_terms.specs.TileLaws.{IsProper}
use Rattle.exact_point.specs.Crossing.{turn_of}
use Rattle.crossing_sweep.specs.StripInput.{Span}
use Rattle.crossing_sweep.specs.Leaning.{IsSteep, IsSmall}
use Rattle.crossing_sweep.specs.Queue.{IsUpTo, IsQueued}
use Rattle.crossing_sweep.specs.Step.{AreStretches}
use Rattle.crossing_sweep.specs.Passing.{begins_left, IsEntry, HasCome}

-- the place on the left border below all segments
abbrev pub foot : Span → Point
foot strip = record { x = border strip.first; y = neg_ℤ (pos 2097152); w = pos 1 }

-- one of two segments is met before the other, or at one place, where it turns right to the other
pub record IsMetBefore (strip : Span) (a b : Segment) : Type 0 where
  pub first : Point
  pub second : Point
  pub small : IsSmall first
  pub at_first : IsEntry strip a first
  pub at_second : IsEntry strip b second
  pub in_order : (point_cmp first second ≡ Less) ⊎ (IsTrue (same_place first second) × (pos 0 <ℤ turn_of b a))

-- the units with a place of a closed strip; those that begin left of it in the order in which a pass meets them
pub record AreMet (strip : Span) (units met : List Segment) : Type 0 where
  pub among : All (Contains units) met
  pub entries : All (λ u. (z : Point) × IsEntry strip u z) met
  pub complete : (u : Segment) → Contains units u → IsUpTo strip (whole u.left) → border strip.first ≤ℤ u.right.x
      → Contains met u
  pub ordered : AllPairs (λ a b. begins_left strip a ≡ true → begins_left strip b ≡ true → IsMetBefore strip a b) met

-- the places that are known before a pass: nodes of the closed strip, all ends and border places among them
pub record AreKnown (segments : List Segment) (strip : Span) (keys : List Point) : Type 0 where
  pub small : All IsSmall keys
  pub nodes : All (λ z. IsTrue (is_node segments z)) keys
  pub from : All (λ z. (border strip.first *ℤ z.w) ≤ℤ z.x) keys
  pub up_to : All (IsUpTo strip) keys
  pub fixed : (p : Point) → pos 0 <ℤ p.w → IsTrue (is_end segments p || is_on_border segments p)
      → (border strip.first *ℤ p.w) ≤ℤ p.x → IsUpTo strip p → IsQueued keys p

-- so a pass can begin there
abbrev pub PassBegins : Type 0
PassBegins =
    (n : ℤ) (segments units : List Segment) (strip : Span) (met : List Segment) (keys : List Point) → IsSteep n
    → All IsProper segments → AreStretches segments units → strip.first ≤ strip.last → strip.first < column_count →
    AreMet strip units met → AreKnown segments strip keys → HasCome n segments units strip (foot strip) [] met keys
