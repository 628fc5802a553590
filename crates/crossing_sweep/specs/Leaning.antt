-- The plane leaned to the right: to x, taken n times, y is added. Places in order then lie one right of the other, and
-- no segment is vertical.
use Rattle.std.specs.Prelude.{◌≡◌, ℤ, pos, neg_ℤ, ◌+ℤ◌, ◌-ℤ◌, ◌*ℤ◌, ◌<ℤ◌, ◌⊎◌, ◌^◌, ◌≤ℤ◌}
use Rattle.std.specs.declared.cmp.Ordering.TheVariants.{Less}
use Rattle.overlay_terms.specs.Plane.{WholePoint, Point, Segment, point_cmp, height_over}
use Rattle.overlay_terms.specs.TileLaws.{IsProper}
use Rattle.exact_point.specs.Crossing.{turn_of}
use Rattle.exact_point.specs.Lines.{gap, width}
use Rattle.exact_point.proofs.ByX.{Left}

-- a place, leaned
abbrev pub lean : ℤ → Point → Point
lean n p = record { x = (n *ℤ p.x) +ℤ p.y; y = p.y; w = p.w }

-- a whole point, leaned
abbrev pub lean_whole : ℤ → WholePoint → WholePoint
lean_whole n a = record { x = (n *ℤ a.x) +ℤ a.y; y = a.y }

-- a segment, leaned
abbrev pub lean_segment : ℤ → Segment → Segment
lean_segment n s = record { left = lean_whole n s.left; right = lean_whole n s.right }

-- how far q lies right of p, times both denominators
abbrev pub across : Point → Point → ℤ
across p q = (q.x *ℤ p.w) -ℤ (p.x *ℤ q.w)

-- how far q lies above p, times both denominators
abbrev pub up_to : Point → Point → ℤ
up_to p q = (q.y *ℤ p.w) -ℤ (p.y *ℤ q.w)

-- by less than n
pub record IsNear (n : ℤ) (p q : Point) : Type 0 where
  pub low : neg_ℤ n <ℤ up_to p q
  pub high : up_to p q <ℤ n

-- n is large enough for the places of the sweep
abbrev pub IsSteep : ℤ → Type 0
IsSteep n = pos (2 ^ 200) ≤ℤ n

-- a place of the sweep: its denominator is from 1 to 2^87, and its y lies within twice the coordinates
pub record IsSmall (p : Point) : Type 0 where
  pub positive : pos 0 <ℤ p.w
  pub few : p.w ≤ℤ pos (2 ^ 87)
  pub low : neg_ℤ (pos 2097152 *ℤ p.w) ≤ℤ p.y
  pub high : p.y ≤ℤ (pos 2097152 *ℤ p.w)

-- b is over a just after the place q: above it there, or level and turning up
abbrev pub IsAfter : Segment → Segment → Point → Type 0
IsAfter a b q = (pos 0 <ℤ gap a b q) ⊎ ((gap a b q ≡ pos 0) × (pos 0 <ℤ turn_of a b))

-- b is over a just before the place q: above it there, or level and turning down
abbrev pub IsBefore : Segment → Segment → Point → Type 0
IsBefore a b q = (pos 0 <ℤ gap a b q) ⊎ ((gap a b q ≡ pos 0) × (turn_of a b <ℤ pos 0))

-- what leaning keeps
pub record IsKeptBy (n : ℤ) : Type 0 where
  pub sides : (s : Segment) (p : Point) → height_over (lean_segment n s) (lean n p) ≡ n *ℤ height_over s p
  pub turns : (s t : Segment) → turn_of (lean_segment n s) (lean_segment n t) ≡ n *ℤ turn_of s t
  pub order : (p q : Point) → IsSmall p → IsSmall q → point_cmp p q ≡ Less → Left (lean n p) (lean n q)
  pub order_back : (p q : Point) → IsSmall p → IsSmall q → Left (lean n p) (lean n q) → point_cmp p q ≡ Less
  pub slanted : (s : Segment) → IsProper s → pos 0 <ℤ width (lean_segment n s)

-- leaning keeps sides, turns and the order of small places, and no proper segment is vertical in the leaned plane
abbrev pub LeaningKeeps : Type 0
LeaningKeeps = (n : ℤ) → IsSteep n → IsKeptBy n
