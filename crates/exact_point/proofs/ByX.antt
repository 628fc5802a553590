-- The order of places by x, with the denominators multiplied out.
use Rattle.std.specs.Prelude.{◌≡◌, ℤ, pos, ◌*ℤ◌, ◌<ℤ◌, ◌≤ℤ◌, int_le, int_lt, not}
use Rattle.std.proofs.Common.{arith}
use Rattle.std.proofs.lemmas.Int.{ints}
use Rattle.overlay_terms.specs.Plane.{Point}
use Rattle.overlay_terms.proofs.InputNumbers.{last_turned, less_times, most_times, most_back, less_back}

-- p lies left of q, by x
abbrev pub Left : Point → Point → Type 0
Left p q = (p.x *ℤ q.w) <ℤ (q.x *ℤ p.w)

-- p does not lie right of q
abbrev pub AtMost : Point → Point → Type 0
AtMost p q = (p.x *ℤ q.w) ≤ℤ (q.x *ℤ p.w)

-- a / w is at most b / v, and that is less than c / u
pub less_after_most : (a w b v c u : ℤ) → pos 0 <ℤ w → pos 0 <ℤ v → pos 0 <ℤ u → (a *ℤ v) ≤ℤ (b *ℤ w) → (b *ℤ u) <ℤ (c *ℤ v) → (a *ℤ u) <ℤ (c *ℤ w)
less_after_most a w b v c u hw hv hu h k =
    let one : ((a *ℤ v) *ℤ u) ≤ℤ ((b *ℤ w) *ℤ u) = most_times (a *ℤ v) (b *ℤ w) u hu h in
    let two : ((b *ℤ u) *ℤ w) <ℤ ((c *ℤ v) *ℤ w) = less_times (b *ℤ u) (c *ℤ v) w hw k in
    let both : ((a *ℤ u) *ℤ v) <ℤ ((c *ℤ w) *ℤ v) = omega (arith, ints, last_turned a v u, last_turned b w u, last_turned c v w) in
    less_back (a *ℤ u) (c *ℤ w) v hv both

-- a / w is less than b / v, and that is at most c / u
pub less_before_most : (a w b v c u : ℤ) → pos 0 <ℤ w → pos 0 <ℤ v → pos 0 <ℤ u → (a *ℤ v) <ℤ (b *ℤ w) → (b *ℤ u) ≤ℤ (c *ℤ v) → (a *ℤ u) <ℤ (c *ℤ w)
less_before_most a w b v c u hw hv hu h k =
    let one : ((a *ℤ v) *ℤ u) <ℤ ((b *ℤ w) *ℤ u) = less_times (a *ℤ v) (b *ℤ w) u hu h in
    let two : ((b *ℤ u) *ℤ w) ≤ℤ ((c *ℤ v) *ℤ w) = most_times (b *ℤ u) (c *ℤ v) w hw k in
    let both : ((a *ℤ u) *ℤ v) <ℤ ((c *ℤ w) *ℤ v) = omega (arith, ints, last_turned a v u, last_turned b w u, last_turned c v w) in
    less_back (a *ℤ u) (c *ℤ w) v hv both

-- a / w is at most b / v, and that is at most c / u
pub most_after_most : (a w b v c u : ℤ) → pos 0 <ℤ w → pos 0 <ℤ v → pos 0 <ℤ u → (a *ℤ v) ≤ℤ (b *ℤ w) → (b *ℤ u) ≤ℤ (c *ℤ v) → (a *ℤ u) ≤ℤ (c *ℤ w)
most_after_most a w b v c u hw hv hu h k =
    let one : ((a *ℤ v) *ℤ u) ≤ℤ ((b *ℤ w) *ℤ u) = most_times (a *ℤ v) (b *ℤ w) u hu h in
    let two : ((b *ℤ u) *ℤ w) ≤ℤ ((c *ℤ v) *ℤ w) = most_times (b *ℤ u) (c *ℤ v) w hw k in
    let both : ((a *ℤ u) *ℤ v) ≤ℤ ((c *ℤ w) *ℤ v) = omega (arith, ints, last_turned a v u, last_turned b w u, last_turned c v w) in
    most_back (a *ℤ u) (c *ℤ w) v hv both

-- a place not right of one that lies left of a third
pub left_after : (p q r : Point) → pos 0 <ℤ p.w → pos 0 <ℤ q.w → pos 0 <ℤ r.w → AtMost p q → Left q r → Left p r
left_after p q r hp hq hr = less_after_most p.x p.w q.x q.w r.x r.w hp hq hr

-- a place left of one that does not lie right of a third
pub left_before : (p q r : Point) → pos 0 <ℤ p.w → pos 0 <ℤ q.w → pos 0 <ℤ r.w → Left p q → AtMost q r → Left p r
left_before p q r hp hq hr = less_before_most p.x p.w q.x q.w r.x r.w hp hq hr

-- places in order
pub at_most_through : (p q r : Point) → pos 0 <ℤ p.w → pos 0 <ℤ q.w → pos 0 <ℤ r.w → AtMost p q → AtMost q r → AtMost p r
at_most_through p q r hp hq hr = most_after_most p.x p.w q.x q.w r.x r.w hp hq hr

-- a place left of another is not right of it
pub left_most : (p q : Point) → Left p q → AtMost p q
left_most p q h = omega (arith, ints)

-- a number that is at most a fraction's, as a place's
pub from_whole : (a x : ℤ) → a ≤ℤ x → a ≤ℤ (x *ℤ pos 1)
from_whole a x h = omega (arith, ints)

-- and one that is at least it
pub to_whole : (a x : ℤ) → x ≤ℤ a → (x *ℤ pos 1) ≤ℤ a
to_whole a x h = omega (arith, ints)

-- at most is not above
pub le_not : (a b : ℤ) → int_le a b ≡ not (int_lt b a)
le_not a b = grind (arith, ints)
