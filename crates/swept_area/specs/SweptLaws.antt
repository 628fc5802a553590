-- Laws of marks: cuts cancel, whole corners are exact, and the sum is near the exact area.
use Rattle.std.specs.Prelude.{◌≡◌, ℕ, ℤ, pos, neg_ℤ, ◌+◌, ◌/◌, ◌+ℤ◌, ◌-ℤ◌, ◌*ℤ◌, ◌<ℤ◌, ◌≤ℤ◌, unsigned_abs, Bool, true, false, List, fold, All, if◌then◌else◌}
use Rattle.std.specs.declared.cmp.Ordering.TheVariants.{Less}
use Rattle.overlay_terms.specs.Plane.{WholePoint, Point, Segment, whole, whole_cmp, same_place, height_over}
use Rattle.swept_area.specs.Swept.{parts, cross_of, length_of, mark_of, swept_of, Sided, signed_of, swept_area}

-- a segment has its left end first
abbrev pub IsSegment : Segment → Type 0
IsSegment s = whole_cmp s.left s.right ≡ Less

-- a place on the line of a segment
pub record IsOnLine (s : Segment) (p : Point) : Type 0 where
  pub positive : pos 0 <ℤ p.w
  pub level : height_over s p ≡ pos 0

-- two segments lie on one line
pub record AreOnOneLine (s t : Segment) : Type 0 where
  pub one : IsSegment s
  pub other : IsSegment t
  pub left : height_over s (whole t.left) ≡ pos 0
  pub right : height_over s (whole t.right) ≡ pos 0

-- a mark is of the line and the place alone, whichever segment of the line and whichever fraction name them
abbrev pub MarkIsOfLine : Type 0
MarkIsOfLine =
    (s t : Segment) (p q : Point) → AreOnOneLine s t → pos 0 <ℤ p.w → pos 0 <ℤ q.w → same_place p q ≡ true → mark_of s p ≡ mark_of t q

-- a piece cut at a place has the area of its two parts, on either side of the boundary
abbrev pub CutsAddUp : Type 0
CutsAddUp =
    (s : Segment) (p q r : Point) (over : Bool) →
    signed_of (record { support = s; from = p; to = q; over = over }) +ℤ signed_of (record { support = s; from = q; to = r; over = over })
    ≡ signed_of (record { support = s; from = p; to = r; over = over })

-- a piece taken with the inside on one side and with it on the other has no area
abbrev pub SidesCancel : Type 0
SidesCancel =
    (s : Segment) (p r : Point) →
    signed_of (record { support = s; from = p; to = r; over = true }) +ℤ signed_of (record { support = s; from = p; to = r; over = false }) ≡ pos 0

-- between whole places it is the cross product, with nothing rounded
abbrev pub WholeIsExact : Type 0
WholeIsExact =
    (s : Segment) (a b : WholePoint) → IsSegment s → height_over s (whole a) ≡ pos 0 → height_over s (whole b) ≡ pos 0
    → swept_of s (whole a) (whole b) ≡ pos parts *ℤ ((a.x *ℤ b.y) -ℤ (a.y *ℤ b.x))

-- a number n / d
pub record Ratio : Type 0 where
  pub n : ℤ
  pub d : ℤ

-- twice the exact area of the triangle of the origin, p and r, positive where the origin is left of the way from p to r
abbrev pub exact_of : Point → Point → Ratio
exact_of p r = record { n = (p.x *ℤ r.y) -ℤ (p.y *ℤ r.x); d = p.w *ℤ r.w }

-- the same with the inside on the left
abbrev pub exact_signed : Sided → Ratio
exact_signed a = if a.over then exact_of a.from a.to else exact_of a.to a.from

-- the sum of two numbers
abbrev pub ratio_sum : Ratio → Ratio → Ratio
ratio_sum a b = record { n = (a.n *ℤ b.d) +ℤ (b.n *ℤ a.d); d = a.d *ℤ b.d }

-- twice the exact area that pieces enclose
abbrev pub exact_area : List Sided → Ratio
exact_area pieces = fold (λ total a. ratio_sum total (exact_signed a)) (record { n = pos 0; d = pos 1 }) pieces

-- how far the rounding of one piece's places and marks may lead, in parts: how far its line passes the origin, and 2
abbrev pub slack_of : Segment → ℕ
slack_of s = unsigned_abs (cross_of s) / unsigned_abs (length_of s) + 2

abbrev pub slack_sum : List Sided → ℕ
slack_sum pieces = fold (λ total a. total + slack_of a.support) 0 pieces

-- a piece between two places of the line of its support
pub record IsOnSupport (a : Sided) : Type 0 where
  pub first : IsSegment a.support
  pub from : IsOnLine a.support a.from
  pub to : IsOnLine a.support a.to

-- a whole number of parts is as near to an exact number as so many parts
abbrev pub IsNear : ℕ → ℤ → Ratio → Type 0
IsNear slack z q =
    (neg_ℤ (pos slack *ℤ q.d) ≤ℤ ((q.n *ℤ pos parts) -ℤ (z *ℤ q.d)))
    × (((q.n *ℤ pos parts) -ℤ (z *ℤ q.d)) ≤ℤ (pos slack *ℤ q.d))

-- the sum is as near to the exact area as what each piece may be off
abbrev pub AreaIsNear : Type 0
AreaIsNear = (pieces : List Sided) → All IsOnSupport pieces → IsNear (slack_sum pieces) (swept_area pieces) (exact_area pieces)
