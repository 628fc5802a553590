-- A place has one form in lowest terms.
use Prim.Native.Nat.{◌∣◌}
use Rattle.std.proofs.Common.{◌≡◌, ℕ, zero, suc, ℤ, pos, negsuc, ◌*ℤ◌, ◌<ℤ◌, ◌+◌, ◌*◌, ◌/◌, ◌%◌, ◌<◌, ◌≤◌, unsigned_abs, refl, ap, sym, ◌∙◌, arith, subst}
use Rattle.std.proofs.lemmas.Int.{ints, unsigned_abs-mul}
use Rattle.std.proofs.lemmas.Bool.{and_parts}
use Rattle.std.proofs.lemmas.Bool.Decides.{Decides-int_eq}
use Rattle.std.proofs.lemmas.Nat.{mod-mul-add}
use Rattle.std.proofs.lemmas.Nat.Gcd.{dvd_antisymm, dvd_trans, IsGcd-from_zero, IsGcd-from_mod}
use Rattle.std.proofs.Math.Nat.{dvd-mul_left, mul-le-mul_left}
use Rattle.std.specs.Int.{IsGcd}
use Rattle.overlay_terms.specs.Plane.{Point}
use Rattle.exact_point.specs.Reduced.{IsLowest, LowestTermsAreOne}
use Rattle.exact_point.proofs.SameNodes.{same_back}

-- ---- a factor of two numbers is one of their greatest common divisor
mod_scaled : (k a b : ℕ) → 0 < k → 0 < b → k * (a % b) ≡ (k * a) % (k * b)
mod_scaled k a b h l =
    let parts : a ≡ b * (a / b) + a % b = omega arith in
    let more : k * a ≡ (a / b) * (k * b) + k * (a % b) = omega (arith, ap (λ m. k * m) parts) in
    let small : suc (a % b) ≤ b = omega arith in
    let less : k * (a % b) < k * b = omega (arith, mul-le-mul_left k small) in
    sym (mod-mul-add (a / b) (k * b) (k * (a % b)) less) ∙ ap (λ m. m % (k * b)) (sym more)

-- a and b have a greatest common divisor g, and k times a and b have k times g
record HasDivisor (k a b : ℕ) : Type 0 where
  common : ℕ
  plain : IsGcd a b common
  scaled : IsGcd (k * a) (k * b) (k * common)

by_euclid : (n k a b : ℕ) → 0 < k → b < n → HasDivisor k a b
by_euclid zero k a b h l = absurd (omega arith)
by_euclid (suc n) k a zero h l = record { common = a; plain = IsGcd-from_zero a 0 refl; scaled = IsGcd-from_zero (k * a) (k * 0) (omega arith) }
by_euclid (suc n) k a (suc b) h l =
    let less : a % suc b < n = omega arith in
    let rest = by_euclid n k (suc b) (a % suc b) h less in
    let step : IsGcd (k * suc b) ((k * a) % (k * suc b)) (k * rest.common) = subst (λ m. IsGcd (k * suc b) m (k * rest.common)) (mod_scaled k a (suc b) h (omega arith)) rest.scaled in
    record {
      common = rest.common;
      plain = IsGcd-from_mod a (suc b) rest.common rest.plain;
      scaled = IsGcd-from_mod (k * a) (k * suc b) (k * rest.common) step;
    }

divisor : (k a b : ℕ) → 0 < k → HasDivisor k a b
divisor k a b h = by_euclid (suc b) k a b h (omega arith)

-- what divides k times each of three numbers without a common divisor divides k
divides_factor : (k x y w n : ℕ) → 0 < k → ((d : ℕ) → d ∣ x → d ∣ y → d ∣ w → d ≡ 1) → n ∣ (k * x) → n ∣ (k * y) → n ∣ (k * w) → n ∣ k
divides_factor k x y w n h least ex ey ew =
    let first = divisor k x y h in
    let all = divisor k first.common w h in
    let one : all.common ≡ 1 = least all.common (dvd_trans all.common all.plain.0 first.plain.0) (dvd_trans all.common all.plain.0 first.plain.1) all.plain.1 in
    let divides = all.scaled.2 n (first.scaled.2 n ex ey) ew in
    subst (λ m. n ∣ m) (omega (arith, ap (λ m. k * m) one)) divides

-- ---- one form
sizes : (a b c d : ℤ) → a *ℤ b ≡ c *ℤ d → unsigned_abs a * unsigned_abs b ≡ unsigned_abs c * unsigned_abs d
sizes a b c d e = sym (unsigned_abs-mul a b) ∙ ap unsigned_abs e ∙ unsigned_abs-mul c d

size_positive : (w : ℤ) → pos 0 <ℤ w → 0 < unsigned_abs w
size_positive (pos n) h = omega (arith, ints)
size_positive (negsuc n) h = absurd (omega (arith, ints))

same_size : (a b : ℤ) → pos 0 <ℤ a → pos 0 <ℤ b → unsigned_abs a ≡ unsigned_abs b → a ≡ b
same_size (pos m) (pos n) h k e = ap pos e
same_size (pos m) (negsuc n) h k e = absurd (omega (arith, ints))
same_size (negsuc m) b h k e = absurd (omega (arith, ints))

-- the denominator of a form in lowest terms divides that of each other form
divides_other : (p r : Point) → pos 0 <ℤ r.w → IsLowest p → p.x *ℤ r.w ≡ r.x *ℤ p.w → p.y *ℤ r.w ≡ r.y *ℤ p.w → unsigned_abs p.w ∣ unsigned_abs r.w
divides_other p r h least ex ey =
    let k : ℕ = unsigned_abs r.w in
    let n : ℕ = unsigned_abs p.w in
    let x : unsigned_abs r.x * n ≡ k * unsigned_abs p.x = omega (arith, sizes p.x r.w r.x p.w ex) in
    let y : unsigned_abs r.y * n ≡ k * unsigned_abs p.y = omega (arith, sizes p.y r.w r.y p.w ey) in
    divides_factor k (unsigned_abs p.x) (unsigned_abs p.y) n n (size_positive r.w h) least
    (subst (λ m. n ∣ m) x (dvd-mul_left n (unsigned_abs r.x))) (subst (λ m. n ∣ m) y (dvd-mul_left n (unsigned_abs r.y))) (dvd-mul_left n k)

abbrev point_of : ℤ → ℤ → ℤ → Point
point_of x y w = record { x = x; y = y; w = w }

pub one_form : LowestTermsAreOne
one_form p r hp hr lp lr e =
    let places = and_parts _ _ e in
    let ex = (Decides-int_eq (p.x *ℤ r.w) (r.x *ℤ p.w)).0 places.0 in
    let ey = (Decides-int_eq (p.y *ℤ r.w) (r.y *ℤ p.w)).0 places.1 in
    let ew : p.w ≡ r.w = same_size p.w r.w hp hr (dvd_antisymm (divides_other p r hr lp ex ey) (divides_other r p hp lr (sym ex) (sym ey))) in
    let x : p.x ≡ r.x = same_back p.x r.x r.w hr (ex ∙ ap (λ z. r.x *ℤ z) ew) in
    let y : p.y ≡ r.y = same_back p.y r.y r.w hr (ey ∙ ap (λ z. r.y *ℤ z) ew) in
    ap (λ n. point_of n p.y p.w) x ∙ ap (λ n. point_of r.x n p.w) y ∙ ap (λ n. point_of r.x r.y n) ew
