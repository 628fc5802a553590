-- Fractions with a common denominator in lowest terms.
use Prim.Native.Nat.{◌∣◌}
use Rattle.std.specs.Prelude.{◌≡◌, ℕ, pos, ◌<ℤ◌, IsTrue, unsigned_abs}
use Rattle.overlay_terms.specs.Plane.{Point, same_place}

-- g is the greatest common divisor of x, y and w of p
pub record IsDivisorOf (p : Point) (g : ℕ) : Type 0 where
  pub of_x : g ∣ unsigned_abs p.x
  pub of_y : g ∣ unsigned_abs p.y
  pub of_w : g ∣ unsigned_abs p.w
  pub greatest : (d : ℕ) → d ∣ unsigned_abs p.x → d ∣ unsigned_abs p.y → d ∣ unsigned_abs p.w → d ∣ g

-- no number but 1 divides x, y and w of p
abbrev pub IsLowest : Point → Type 0
IsLowest p = (d : ℕ) → d ∣ unsigned_abs p.x → d ∣ unsigned_abs p.y → d ∣ unsigned_abs p.w → d ≡ 1

-- a place has one form in lowest terms
abbrev pub LowestTermsAreOne : Type 0
LowestTermsAreOne =
    (p r : Point) → pos 0 <ℤ p.w → pos 0 <ℤ r.w → IsLowest p → IsLowest r → IsTrue (same_place p r) → p ≡ r
