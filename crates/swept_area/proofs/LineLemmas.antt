-- What holds of every segment's length and turn.
use Rattle.std.proofs.Common.{◌≡◌, ℤ, pos, negsuc, neg_ℤ, ◌+ℤ◌, ◌-ℤ◌, ◌*ℤ◌, ◌<ℤ◌, ◌≤ℤ◌, ◌*◌, ◌^◌, unsigned_abs, Bool, true, false, inl, inr, if◌then◌else◌, refl, ap, ◌∙◌, arith}
use Rattle.std.specs.Prelude.{int_le}
use Rattle.std.specs.Int.{int_div_euclid}
use Rattle.std.proofs.lemmas.Int.{ints}
use Rattle.overlay_terms.specs.Plane.{Segment}
use Rattle.overlay_terms.specs.Within.{IsWithin}
use Rattle.overlay_terms.proofs.Bounds.{within_abs, within_mul, within_sub}
use Rattle.overlay_terms.proofs.Difference.{split, differences, same}
use Rattle.swept_area.specs.Swept.{run_of, rise_of, is_flat, is_rising, length_of, cross_of, turn_of}
use Rattle.swept_area.specs.Pieces.{IsNearLine}
use Rattle.swept_area.specs.SweptLaws.{IsSegment}
use Rattle.overlay_terms.proofs.InputNumbers.{le_true}
use Rattle.exact_point.proofs.Lexical.{Forward}
use Rattle.exact_point.proofs.OnSegment.{leads}
use Rattle.swept_area.proofs.Floors.{floor_more}

-- ---- by the kind of a segment
pub flat_length : (s : Segment) → is_flat s ≡ true → length_of s ≡ run_of s
flat_length s e = rw e refl

pub steep_length : (s : Segment) → is_flat s ≡ false → length_of s ≡ pos (unsigned_abs (rise_of s))
steep_length s e = rw e refl

pub flat_turn : (s : Segment) → is_flat s ≡ true → turn_of s ≡ cross_of s
flat_turn s e = rw e refl

pub rising_turn : (s : Segment) → int_le (pos 0) (rise_of s) ≡ true → is_flat s ≡ false → turn_of s ≡ cross_of s
rising_turn s e f = rw (f, e) refl

pub falling_turn : (s : Segment) → int_le (pos 0) (rise_of s) ≡ false → is_flat s ≡ false → turn_of s ≡ neg_ℤ (cross_of s)
falling_turn s e f = rw (f, e) refl

-- ---- a segment leads somewhere
positive_by : (d h : ℤ) → Forward d h → (b : Bool) → int_le (pos (unsigned_abs h)) d ≡ b → pos 0 <ℤ (if b then d else pos (unsigned_abs h))
positive_by d h (inl f) true e = f
positive_by d h (inr f) true e = let less = le_true (pos (unsigned_abs h)) d e in absurd (omega (arith, ints, f.0, f.1, less))
positive_by d h (inl f) false e = let more : d <ℤ pos (unsigned_abs h) = grind (arith, ints) in omega (arith, ints, f, more)
positive_by d h (inr f) false e = omega (arith, ints, f.1)

pub length_positive : (s : Segment) → IsSegment s → pos 0 <ℤ length_of s
length_positive s h = positive_by (run_of s) (rise_of s) (leads s h) (is_flat s) refl

-- ---- the line passes the origin by less than 2^43 units
-- a cross product with ways of at most a length
pub near_by : (x y run rise length : ℤ) → IsWithin (2 ^ 42) x → IsWithin (2 ^ 42) y → pos 0 ≤ℤ length → pos (unsigned_abs run) ≤ℤ length → pos (unsigned_abs rise) ≤ℤ length
    → IsNearLine ((x *ℤ rise) -ℤ (y *ℤ run)) length
near_by x y run rise (pos n) hx hy low r s =
    let a = within_mul (2 ^ 42) n x rise hx (within_abs n rise (omega (arith, ints, s))) in
    let b = within_mul (2 ^ 42) n y run hy (within_abs n run (omega (arith, ints, r))) in
    let all = within_sub (2 ^ 42 * n) (2 ^ 42 * n) (x *ℤ rise) (y *ℤ run) a b in
    (omega (arith, ints, all.low), omega (arith, ints, all.high))
near_by x y run rise (negsuc n) hx hy low r s = absurd (omega (arith, ints, low))

pub near_turned : (turn length : ℤ) → IsNearLine turn length → IsNearLine (pos 0 -ℤ turn) length
near_turned turn length h = (omega (arith, ints, h.0, h.1), omega (arith, ints, h.0, h.1))

not_left : (d h : ℤ) → Forward d h → pos (unsigned_abs d) ≡ d
not_left d h (inl k) = omega (arith, ints, k)
not_left d h (inr k) = omega (arith, ints, k.0)

-- both ways are at most the length
near_length : (x y d h : ℤ) → Forward d h → IsWithin (2 ^ 42) x → IsWithin (2 ^ 42) y → (b : Bool) → int_le (pos (unsigned_abs h)) d ≡ b
    → IsNearLine ((x *ℤ h) -ℤ (y *ℤ d)) (if b then d else pos (unsigned_abs h))
near_length x y d h f hx hy true e =
    let size = not_left d h f in
    let less = le_true (pos (unsigned_abs h)) d e in
    near_by x y d h d hx hy (omega (arith, ints, size)) (omega (arith, ints, size)) less
near_length x y d h f hx hy false e =
    let size = not_left d h f in
    let more : d <ℤ pos (unsigned_abs h) = grind (arith, ints) in
    near_by x y d h (pos (unsigned_abs h)) hx hy (omega (arith, ints)) (omega (arith, ints, size, more)) (omega (arith, ints))

pub near_cross : (s : Segment) (x y : ℤ) → IsSegment s → IsWithin (2 ^ 42) x → IsWithin (2 ^ 42) y → IsNearLine ((x *ℤ rise_of s) -ℤ (y *ℤ run_of s)) (length_of s)
near_cross s x y h hx hy = near_length x y (run_of s) (rise_of s) (leads s h) hx hy (is_flat s) refl

-- ---- by whether it rises
pub turn_rising : (s : Segment) → is_rising s ≡ true → turn_of s ≡ cross_of s
turn_rising s e = rw e refl

pub turn_falling : (s : Segment) → is_rising s ≡ false → turn_of s ≡ neg_ℤ (cross_of s)
turn_falling s e = rw e refl

pub less_is_neg : (z : ℤ) → pos 0 -ℤ z ≡ neg_ℤ z
less_is_neg z = omega (arith, ints)

-- ---- a quotient and a rest
spread : (q r l v : ℤ) → ((q *ℤ l) +ℤ r) *ℤ v ≡ (r *ℤ v) +ℤ ((q *ℤ v) *ℤ l)
spread q r l v = rw (split q, split r, split l, split v) (simp differences (same _ _ _ _ (omega arith)))

-- by parts
pub by_rest : (t q r l v : ℤ) → pos 0 <ℤ l → t ≡ (q *ℤ l) +ℤ r → int_div_euclid (t *ℤ v) l ≡ (q *ℤ v) +ℤ int_div_euclid (r *ℤ v) l
by_rest t q r l v h e =
    let more = ap (λ (a : ℤ). int_div_euclid a l) (ap (λ (a : ℤ). a *ℤ v) e ∙ spread q r l v) ∙ floor_more (r *ℤ v) (q *ℤ v) l h in
    omega (arith, ints, more)
