-- Numbers and points clamped into a range and a box.
use Rattle.std.proofs.Common.{◌≡◌, ℤ, ◌-ℤ◌, ◌<ℤ◌, ◌≤ℤ◌, refl, arith, true}
use Rattle.std.proofs.lemmas.Bool.{and_parts}
use Rattle.std.proofs.lemmas.Int.{ints, by_lt_z}
use Rattle.overlay_terms.specs.Plane.{WholePoint, InRange, is_coordinate}
use Rattle.overlay_terms.proofs.Coordinates.{passes_in_range as in_range}
use Rattle.overlay_terms.proofs.InputNumbers.{true_lt}
use Rattle.exact_point.proofs.Tests.{lt_no}
use Rattle.map_window.specs.Window.{Box}
use Rattle.map_window.specs.Drawn.{clamped, into, are_coordinates, lies_in_plane}

-- what is so of each number that clamping may give
pub by_clamped : (P : ℤ → Type 0) (low high x : ℤ) → (x <ℤ low → P low) → (low ≤ℤ x → high <ℤ x → P high) → (low ≤ℤ x → x ≤ℤ high → P x) → P (clamped low high x)
by_clamped P low high x f g h =
    by_lt_z x low (λ l. rw (true_lt x low l) (f l))
    (λ l. by_lt_z high x (λ m. rw (lt_no x low l, true_lt high x m) (g l m)) (λ m. rw (lt_no x low l, lt_no high x m) (h l m)))

-- a number clamped between two coordinates is a coordinate
pub clamped_in_range : (low high from x : ℤ) → are_coordinates low high from ≡ true → InRange (clamped low high x -ℤ from)
clamped_in_range low high from x h =
    let parts = and_parts (is_coordinate (low -ℤ from)) (is_coordinate (high -ℤ from)) h in
    let l : InRange (low -ℤ from) = in_range (low -ℤ from) parts.0 in
    let r : InRange (high -ℤ from) = in_range (high -ℤ from) parts.1 in
    by_clamped (λ z. InRange (z -ℤ from)) low high x (λ a. l) (λ a b. r) (λ a b. (omega (arith, ints, l.0), omega (arith, ints, r.1)))

pub clamped_below : (low high x k : ℤ) → low <ℤ k → x <ℤ k → clamped low high x <ℤ k
clamped_below low high x k l m = by_clamped (λ z. z <ℤ k) low high x (λ a. l) (λ a b. omega (arith, ints)) (λ a b. m)

pub clamped_above : (low high x k : ℤ) → k <ℤ high → k <ℤ x → k <ℤ clamped low high x
clamped_above low high x k l m = by_clamped (λ z. k <ℤ z) low high x (λ a. omega (arith, ints)) (λ a b. l) (λ a b. m)

pub clamped_at_most : (low high x k : ℤ) → low ≤ℤ k → x ≤ℤ k → clamped low high x ≤ℤ k
clamped_at_most low high x k l m = by_clamped (λ z. z ≤ℤ k) low high x (λ a. l) (λ a b. omega (arith, ints)) (λ a b. m)

pub clamped_at_least : (low high x k : ℤ) → k ≤ℤ high → k ≤ℤ x → k ≤ℤ clamped low high x
clamped_at_least low high x k l m = by_clamped (λ z. k ≤ℤ z) low high x (λ a. omega (arith, ints)) (λ a b. l) (λ a b. m)

pub clamped_low : (low high x : ℤ) → low ≤ℤ high → low ≤ℤ clamped low high x
clamped_low low high x l = by_clamped (λ z. low ≤ℤ z) low high x (λ a. omega (arith, ints)) (λ a b. l) (λ a b. a)

pub clamped_high : (low high x : ℤ) → low ≤ℤ high → clamped low high x ≤ℤ high
clamped_high low high x l = by_clamped (λ z. z ≤ℤ high) low high x (λ a. l) (λ a b. omega (arith, ints)) (λ a b. b)

pub clamped_none : (low high x : ℤ) → low ≤ℤ x → x ≤ℤ high → clamped low high x ≡ x
clamped_none low high x l m = by_clamped (λ z. z ≡ x) low high x (λ a. absurd (omega (arith, ints))) (λ a b. absurd (omega (arith, ints))) (λ a b. refl)

-- a point clamped into a box that lies in the plane has its x and y in range
pub into_in_range : (frame : Box) (o a p : WholePoint) → p ≡ into frame a → lies_in_plane frame o ≡ true → InRange (p.x -ℤ o.x) × InRange (p.y -ℤ o.y)
into_in_range frame o a p e h =
    let parts = and_parts (are_coordinates frame.low_x frame.high_x o.x) (are_coordinates frame.low_y frame.high_y o.y) h in
    rw e (clamped_in_range frame.low_x frame.high_x o.x a.x parts.0, clamped_in_range frame.low_y frame.high_y o.y a.y parts.1)

-- a box that lies in the plane has its corners in range
pub box_in_range : (box : Box) (o : WholePoint) → lies_in_plane box o ≡ true → (InRange (box.low_x -ℤ o.x) × InRange (box.high_x -ℤ o.x)) × (InRange (box.low_y -ℤ o.y) × InRange (box.high_y -ℤ o.y))
box_in_range box o h =
    let parts = and_parts (are_coordinates box.low_x box.high_x o.x) (are_coordinates box.low_y box.high_y o.y) h in
    let x = and_parts (is_coordinate (box.low_x -ℤ o.x)) (is_coordinate (box.high_x -ℤ o.x)) parts.0 in
    let y = and_parts (is_coordinate (box.low_y -ℤ o.y)) (is_coordinate (box.high_y -ℤ o.y)) parts.1 in
    ((in_range _ x.0, in_range _ x.1), (in_range _ y.0, in_range _ y.1))
