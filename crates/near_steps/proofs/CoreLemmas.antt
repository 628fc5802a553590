-- What fitting says of a core: it lies strictly within the plane around its low corner.
use Rattle.std.proofs.Common.{◌≡◌, ℤ, pos, ◌+ℤ◌, ◌-ℤ◌, ◌<ℤ◌, ◌≤ℤ◌, ◌^◌, ◌∙◌, ap, sym, subst, arith, lit<, to_z, of_z, true, ◌&&◌}
use Rattle.std.specs.Int.{w64}
use Rattle.std.proofs.lemmas.Bool.{and_parts, and_from}
use Rattle.std.proofs.lemmas.Int.{ints}
use Rattle.std.specs.Prelude.{int_lt, int_le, neg_ℤ}
use Rattle.overlay_terms.specs.Plane.{WholePoint, InRange, coordinate_max}
use Rattle.overlay_terms.specs.Within.{IsWithin}
use Rattle.overlay_terms.proofs.InputNumbers.{lt_true, le_true, true_le}
use Rattle.exact_point.proofs.NarrowBounds.{narrow_read}
use Rattle.block_reading.specs.Jobs.{far_max, is_near}
use Rattle.map_window.specs.Window.{Box, Side, left_of, right_of, under, over, Lies}
use Rattle.map_window.specs.Drawn.{clamped}
use Rattle.map_window.proofs.Clamping.{by_clamped}
use Rattle.map_window.proofs.Frames.{IsFramed}
use Rattle.near_steps.specs.Cores.{is_close_span, fits, plane_of, IsPart}

-- what the test of a span says
pub record IsCloseSpan (low high : ℤ) : Type 0 where
  pub from : neg_ℤ (pos far_max) ≤ℤ low
  pub to : high ≤ℤ pos far_max
  pub ordered : low ≤ℤ high
  pub close : (high -ℤ low) <ℤ pos coordinate_max

pub close_span : (low high : ℤ) → is_close_span low high ≡ true → IsCloseSpan low high
close_span low high h =
    let halves = and_parts (int_le (neg_ℤ (pos far_max)) low && int_le high (pos far_max)) (int_le low high && int_lt (high -ℤ low) (pos coordinate_max)) h in
    let ends = and_parts (int_le (neg_ℤ (pos far_max)) low) (int_le high (pos far_max)) halves.0 in
    let span = and_parts (int_le low high) (int_lt (high -ℤ low) (pos coordinate_max)) halves.1 in
    record { from = le_true _ _ ends.0; to = le_true _ _ ends.1; ordered = le_true low high span.0; close = lt_true (high -ℤ low) (pos coordinate_max) span.1 }

pub framed_core : (core : Box) → fits core ≡ true → IsFramed core (plane_of core)
framed_core core h =
    let spans = and_parts (is_close_span core.low_x core.high_x) (is_close_span core.low_y core.high_y) h in
    let x = close_span core.low_x core.high_x spans.0 in
    let y = close_span core.low_y core.high_y spans.1 in
    let wide = x.ordered in let narrow = x.close in
    let tall = y.ordered in let low = y.close in
    record {
      left = omega (arith, ints);
      wide = wide;
      right = omega (arith, ints);
      low = omega (arith, ints);
      tall = tall;
      high = omega (arith, ints);
    }

-- a core is a part of itself
pub whole_part : (core : Box) → IsPart core core
whole_part core = record { left = omega (arith, ints); right = omega (arith, ints); low = omega (arith, ints); high = omega (arith, ints) }

-- what lies off a core lies off each part of it, on that side
pub off_part : (part core : Box) → IsPart part core → (side : Side) (a : WholePoint) → Lies core side a → Lies part side a
off_part part core inside left_of a l = let k = inside.left in omega (arith, ints)
off_part part core inside right_of a l = let k = inside.right in omega (arith, ints)
off_part part core inside under a l = let k = inside.low in omega (arith, ints)
off_part part core inside over a l = let k = inside.high in omega (arith, ints)

-- ---- what the code reads
near_within : (z : ℤ) → is_near z ≡ true → IsWithin (2 ^ 42) z
near_within z h =
    let k = and_parts (int_le (neg_ℤ (pos far_max)) z) (int_le z (pos far_max)) h in
    let l = le_true (neg_ℤ (pos far_max)) z k.0 in
    let m = le_true z (pos far_max) k.1 in
    record { low = omega (arith, ints, l); high = omega (arith, ints, m) }

pub far_read : (z : ℤ) → is_near z ≡ true → to_z w64 (of_z w64 z) ≡ z
far_read z h = narrow_read (2 ^ 42) z (near_within z h) (lit< tt)

pub near_read : (z : ℤ) → is_near z ≡ true → is_near (to_z w64 (of_z w64 z)) ≡ true
near_read z h = ap is_near (far_read z h) ∙ h

near_by : (z : ℤ) → neg_ℤ (pos far_max) ≤ℤ z → z ≤ℤ pos far_max → is_near z ≡ true
near_by z l m = and_from (int_le (neg_ℤ (pos far_max)) z) (int_le z (pos far_max)) (true_le (neg_ℤ (pos far_max)) z l) (true_le z (pos far_max) m)

near_low : (low high : ℤ) → is_close_span low high ≡ true → is_near low ≡ true
near_low low high h = let s = close_span low high h in let a = s.ordered in let b = s.to in near_by low s.from (omega (arith, ints, a, b))

near_high : (low high : ℤ) → is_close_span low high ≡ true → is_near high ≡ true
near_high low high h = let s = close_span low high h in let a = s.ordered in let b = s.from in near_by high (omega (arith, ints, a, b)) s.to

pub x_span : (core : Box) → fits core ≡ true → is_close_span core.low_x core.high_x ≡ true
x_span core h = (and_parts (is_close_span core.low_x core.high_x) (is_close_span core.low_y core.high_y) h).0

pub y_span : (core : Box) → fits core ≡ true → is_close_span core.low_y core.high_y ≡ true
y_span core h = (and_parts (is_close_span core.low_x core.high_x) (is_close_span core.low_y core.high_y) h).1

pub low_x_near : (core : Box) → fits core ≡ true → is_near core.low_x ≡ true
low_x_near core h = near_low core.low_x core.high_x (x_span core h)

pub low_y_near : (core : Box) → fits core ≡ true → is_near core.low_y ≡ true
low_y_near core h = near_low core.low_y core.high_y (y_span core h)

-- how long a span is
pub span_in_range : (low high : ℤ) → is_close_span low high ≡ true → InRange (high -ℤ low)
span_in_range low high h = let s = close_span low high h in let a = s.ordered in let b = s.close in (omega (arith, ints, a, b), omega (arith, ints, a, b))

-- the same, as the code reads it
pub size_read : (low high : ℤ) → is_close_span low high ≡ true → InRange (to_z w64 (of_z w64 (to_z w64 (of_z w64 high) -ℤ to_z w64 (of_z w64 low))))
size_read low high h =
    let s = close_span low high h in
    let a = s.ordered in
    let b = s.close in
    let small : IsWithin (2 ^ 42) (high -ℤ low) = record { low = omega (arith, ints, a, b); high = omega (arith, ints, a, b) } in
    let parts : to_z w64 (of_z w64 high) -ℤ to_z w64 (of_z w64 low) ≡ high -ℤ low = λ i. far_read high (near_high low high h) i -ℤ far_read low (near_low low high h) i in
    subst InRange (sym (ap (λ z. to_z w64 (of_z w64 z)) parts ∙ narrow_read (2 ^ 42) (high -ℤ low) small (lit< tt))) (span_in_range low high h)

-- a number clamped into the plane around another is a coordinate, seen from it
pub clamped_reach : (low x at : ℤ) → at ≡ clamped (low -ℤ pos coordinate_max) (low +ℤ pos coordinate_max) x → InRange (at -ℤ low)
clamped_reach low x at e =
    rw e (by_clamped (λ z. InRange (z -ℤ low)) (low -ℤ pos coordinate_max) (low +ℤ pos coordinate_max) x
    (λ l. (omega (arith, ints), omega (arith, ints))) (λ l m. (omega (arith, ints), omega (arith, ints))) (λ l m. (omega (arith, ints, l), omega (arith, ints, m))))

-- the numbers of the code are read as they are: so is a number clamped around another, and how far it is over that one
module _ (low x from to at : ℤ) (near : is_near low ≡ true) (x_read : to_z w64 (of_z w64 x) ≡ x) (from_read : to_z w64 (of_z w64 from) ≡ from) (to_read : to_z w64 (of_z w64 to) ≡ to)
    (at_read : to_z w64 (of_z w64 at) ≡ at) (from_is : from ≡ to_z w64 (of_z w64 low) -ℤ pos coordinate_max) (to_is : to ≡ to_z w64 (of_z w64 low) +ℤ pos coordinate_max)
    (at_is : at ≡ clamped (to_z w64 (of_z w64 from)) (to_z w64 (of_z w64 to)) (to_z w64 (of_z w64 x))) where
  reach_at : at ≡ clamped (low -ℤ pos coordinate_max) (low +ℤ pos coordinate_max) x
  reach_at =
      let f : to_z w64 (of_z w64 from) ≡ low -ℤ pos coordinate_max = from_read ∙ from_is ∙ ap (λ z. z -ℤ pos coordinate_max) (far_read low near) in
      let t : to_z w64 (of_z w64 to) ≡ low +ℤ pos coordinate_max = to_read ∙ to_is ∙ ap (λ z. z +ℤ pos coordinate_max) (far_read low near) in
      at_is ∙ (λ i. clamped (f i) (t i) (x_read i))

  pub reach_is : to_z w64 (of_z w64 at) -ℤ to_z w64 (of_z w64 low) ≡ clamped (low -ℤ pos coordinate_max) (low +ℤ pos coordinate_max) x -ℤ low
  reach_is = let a : to_z w64 (of_z w64 at) ≡ clamped (low -ℤ pos coordinate_max) (low +ℤ pos coordinate_max) x = at_read ∙ reach_at in λ i. a i -ℤ far_read low near i

  pub reach_in_range : InRange (to_z w64 (of_z w64 at) -ℤ to_z w64 (of_z w64 low))
  reach_in_range =
      subst InRange (sym (λ i. at_read i -ℤ far_read low near i)) (clamped_reach low x at reach_at)

-- a coordinate of the plane, as the code reads it
pub coordinate_read : (z : ℤ) → InRange z → to_z w64 (of_z w64 z) ≡ z
coordinate_read z h = let a = h.0 in let b = h.1 in narrow_read (2 ^ 42) z (record { low = omega (arith, ints, a); high = omega (arith, ints, b) }) (lit< tt)
