-- Two segments on one line: each point of the line of the one is a point of the line of the other.
use Rattle.std.specs.Prelude.{◌≡◌, pos, ◌<ℤ◌, IsTrue}
use Rattle.std.proofs.lemmas.Bool.{and_parts}
use Rattle.std.specs.Ordering.{int_eq}
use Rattle.overlay_terms.specs.Plane.{Point, Segment, height_over}
use Rattle.exact_point.specs.Crossing.{turn_of}
use Rattle.exact_point.proofs.PlaceOrder.{level_from}
use Rattle.exact_point.proofs.Lines.{width, gap, flat_gap, on_first, on_second}
use Rattle.tile_laws.proofs.JustRight.{is_level}

-- two segments lie on one line
pub record AreOnOneLine (s t : Segment) (q : Point) : Type 0 where
  pub gap_none : gap s t q ≡ pos 0
  pub turn_none : turn_of s t ≡ pos 0

-- what the test says
pub level_parts : (s t : Segment) (q : Point) → IsTrue (is_level s t q) → AreOnOneLine s t q
level_parts s t q e =
    let parts = and_parts (int_eq (gap s t q) (pos 0)) (int_eq (turn_of s t) (pos 0)) e in
    record { gap_none = level_from (gap s t q) (pos 0) parts.0; turn_none = level_from (turn_of s t) (pos 0) parts.1 }

-- then they do over every x
pub gap_everywhere : (s t : Segment) (q z : Point) → pos 0 <ℤ q.w → AreOnOneLine s t q → gap s t z ≡ pos 0
gap_everywhere s t q z hq h = flat_gap s t q z hq h.turn_none h.gap_none

-- a point on the line of the second is on that of the first
pub on_first_line : (s t : Segment) (q z : Point) → pos 0 <ℤ q.w → pos 0 <ℤ width t → AreOnOneLine s t q → height_over t z ≡ pos 0 → height_over s z ≡ pos 0
on_first_line s t q z hq wide h e = on_first s t z wide e (gap_everywhere s t q z hq h)

-- a point on the line of the first is on that of the second
pub on_second_line : (s t : Segment) (q z : Point) → pos 0 <ℤ q.w → pos 0 <ℤ width s → AreOnOneLine s t q → height_over s z ≡ pos 0 → height_over t z ≡ pos 0
on_second_line s t q z hq wide h e = on_second s t z wide e (gap_everywhere s t q z hq h)
