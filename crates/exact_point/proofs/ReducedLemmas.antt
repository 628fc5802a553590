-- Dividing x, y and w of a point by their greatest common divisor.
use Prim.Native.Nat.{◌∣◌}
use Rattle.std.proofs.Common.{◌≡◌, ℕ, zero, suc, ℤ, pos, negsuc, neg_ℤ, ◌*ℤ◌, ◌<ℤ◌, ◌≤ℤ◌, ◌*◌, ◌/◌, ◌%◌, ◌<◌, ◌≤◌, unsigned_abs, int_div, refl, ap, sym, ◌∙◌, arith, subst}
use Rattle.std.proofs.lemmas.Int.{ints, by_lt_z, unsigned_abs-mul}
use Rattle.std.proofs.lemmas.Bool.{and_from}
use Rattle.std.proofs.lemmas.Bool.Decides.{Decides-int_eq}
use Rattle.std.proofs.lemmas.Nat.Gcd.{dvd-zero, dvd_trans, le_of_dvd, mod-eq-zero_of_dvd, IsGcd-from_mod}
use Rattle.std.proofs.Math.Nat.{dvd-mul_left, eq-zero_of_zero-dvd, eq-one_of_dvd-one}
use Rattle.std.proofs.Math.IntN.{*ℤ_comm, zero-*ℤ, pos-*ℤ-pos}
use Rattle.std.specs.Bool.{IsTrue}
use Rattle.std.specs.Int.{IsGcd}
use Rattle.overlay_terms.specs.Plane.{Point, same_place}
use Rattle.overlay_terms.proofs.Difference.{split, differences, same, mul_mono}
use Rattle.overlay_terms.proofs.Ratios.{mul_less}
use Rattle.exact_point.specs.Reduced.{IsDivisorOf, IsLowest}

-- a number is its quotient by a divisor, times it
pub quotient_times : (d n : ℕ) → 0 < d → d ∣ n → (n / d) * d ≡ n
quotient_times d n h k =
    let none : n % d ≡ 0 = mod-eq-zero_of_dvd d k in
    omega arith

dvd_times : (d n g : ℕ) → d ∣ n → (d * g) ∣ (n * g)
dvd_times zero n g h =
    let none : n ≡ 0 = eq-zero_of_zero-dvd h in
    subst (λ m. (zero * g) ∣ m) (omega (arith, ap (λ m. m * g) none)) (dvd-zero (zero * g))
dvd_times (suc d) n g h =
    let whole = quotient_times (suc d) n (omega arith) h in
    let is : (n / suc d) * (suc d * g) ≡ n * g = omega (arith, ap (λ m. m * g) whole) in
    subst (λ m. (suc d * g) ∣ m) is (dvd-mul_left (suc d * g) (n / suc d))

at_most_one : (d g : ℕ) → 0 < g → d * g ≤ g → d ≤ 1
at_most_one zero g h k = omega arith
at_most_one (suc zero) g h k = omega arith
at_most_one (suc (suc d)) g h k = absurd (omega arith)

-- x, y and w divided by g, their greatest common divisor
pub record IsDividedBy (p r : Point) (g : ℕ) : Type 0 where
  pub x : r.x *ℤ pos g ≡ p.x
  pub y : r.y *ℤ pos g ≡ p.y
  pub w : r.w *ℤ pos g ≡ p.w

size_of : (a b : ℤ) (g : ℕ) → a *ℤ pos g ≡ b → unsigned_abs b ≡ unsigned_abs a * g
size_of a b g e = ap unsigned_abs (sym e) ∙ unsigned_abs-mul a (pos g)

divides : (a b : ℤ) (g d : ℕ) → a *ℤ pos g ≡ b → d ∣ unsigned_abs a → (d * g) ∣ unsigned_abs b
divides a b g d e h = subst (λ m. (d * g) ∣ m) (sym (size_of a b g e)) (dvd_times d (unsigned_abs a) g h)

by_one : (d g : ℕ) → 0 < g → d ≤ 1 → (d ≡ 0 → ⊥) → d ≡ 1
by_one zero g h k n = absurd (n refl)
by_one (suc zero) g h k n = refl
by_one (suc (suc d)) g h k n = absurd (omega arith)

pub lowest : (p r : Point) (g : ℕ) → IsDivisorOf p g → 0 < g → pos 0 <ℤ r.w → IsDividedBy p r g → IsLowest r
lowest p r g h k w e d x y z =
    let both = h.greatest (d * g) (divides r.x p.x g d e.x x) (divides r.y p.y g d e.y y) (divides r.w p.w g d e.w z) in
    let small : d ≤ 1 = at_most_one d g k (le_of_dvd k both) in
    by_one d g k small (λ n. let none : unsigned_abs r.w ≡ 0 = eq-zero_of_zero-dvd (subst (λ m. m ∣ unsigned_abs r.w) n z) in no_size r.w none w)
  where
    no_size : (n : ℤ) → unsigned_abs n ≡ 0 → pos 0 <ℤ n → ⊥
    no_size (pos n) e h = omega (arith, ints)
    no_size (negsuc n) e h = omega (arith, ints)

turned : (a b g : ℤ) → a *ℤ (b *ℤ g) ≡ (a *ℤ g) *ℤ b
turned a b g = rw (split a, split b, split g) (simp differences (same _ _ _ _ (omega arith)))

pub still_there : (p r : Point) (g : ℕ) → IsDividedBy p r g → IsTrue (same_place r p)
still_there p r g e =
    let ex : r.x *ℤ p.w ≡ p.x *ℤ r.w = ap (λ z. r.x *ℤ z) (sym e.w) ∙ turned r.x r.w (pos g) ∙ ap (λ z. z *ℤ r.w) e.x in
    let ey : r.y *ℤ p.w ≡ p.y *ℤ r.w = ap (λ z. r.y *ℤ z) (sym e.w) ∙ turned r.y r.w (pos g) ∙ ap (λ z. z *ℤ r.w) e.y in
    and_from _ _ ((Decides-int_eq (r.x *ℤ p.w) (p.x *ℤ r.w)).1 ex) ((Decides-int_eq (r.y *ℤ p.w) (p.y *ℤ r.w)).1 ey)

-- ---- the greatest common divisor of three numbers, by two steps: that of w and what is left of x,
-- then that of it and what is left of y
pub divisor_of : (p : Point) (w r g : ℕ) → w ≡ unsigned_abs p.w → IsGcd w (unsigned_abs p.x % w) r → IsGcd r (unsigned_abs p.y % r) g → IsDivisorOf p g
divisor_of p w r g ew h k =
    let of_x = IsGcd-from_mod (unsigned_abs p.x) w r h in
    let of_y = IsGcd-from_mod (unsigned_abs p.y) r g k in
    record {
      of_x = dvd_trans g of_y.1 of_x.0;
      of_y = of_y.0;
      of_w = subst (λ m. g ∣ m) ew (dvd_trans g of_y.1 of_x.1);
      greatest = λ d a b c. of_y.2 d b (of_x.2 d a (subst (λ m. d ∣ m) (sym ew) c));
    }

pub size_positive : (w : ℤ) → pos 1 ≤ℤ w → 0 < unsigned_abs w
size_positive (pos n) h = omega (arith, ints)
size_positive (negsuc n) h = absurd (omega (arith, ints))

pub divisor_positive_by : (g n : ℕ) → 0 < n → g ∣ n → 0 < g
divisor_positive_by zero n h k = let none : n ≡ 0 = eq-zero_of_zero-dvd k in absurd (omega arith)
divisor_positive_by (suc g) n h k = omega arith

pub divisor_positive : (p : Point) (g : ℕ) → pos 1 ≤ℤ p.w → IsDivisorOf p g → 0 < g
divisor_positive p g h k = divisor_positive_by g (unsigned_abs p.w) (size_positive p.w h) k.of_w

-- ---- a whole place
pub whole_lowest : (p : Point) → unsigned_abs p.w ≡ 1 → IsLowest p
whole_lowest p e d x y w = eq-one_of_dvd-one (subst (λ m. d ∣ m) e w)

-- ---- one number divided
negated : (x y : ℤ) → neg_ℤ x *ℤ y ≡ neg_ℤ (x *ℤ y)
negated x y = rw (split x, split y) (simp differences (same _ _ _ _ (omega arith)))

quotient_small_by : (d n q : ℕ) → 0 < d → q * d ≡ n → q ≤ n
quotient_small_by zero n q h e = absurd (omega arith)
quotient_small_by (suc d) n q h e = omega arith

pub quotient_small : (d n : ℕ) → 0 < d → d ∣ n → (n / d) ≤ n
quotient_small d n h k = quotient_small_by d n (n / d) h (quotient_times d n h k)

pub quotient_up : (a : ℤ) (q d : ℕ) → q * d ≡ unsigned_abs a → pos 0 ≤ℤ a → pos q *ℤ pos d ≡ a
quotient_up (pos n) q d e h = pos-*ℤ-pos q d ∙ ap pos e
quotient_up (negsuc n) q d e h = absurd (omega (arith, ints))

pub quotient_down : (a : ℤ) (q d : ℕ) → q * d ≡ unsigned_abs a → a <ℤ pos 0 → neg_ℤ (pos q) *ℤ pos d ≡ a
quotient_down (pos n) q d e h = absurd (omega (arith, ints))
quotient_down (negsuc n) q d e h = negated (pos q) (pos d) ∙ ap neg_ℤ (pos-*ℤ-pos q d ∙ ap pos e)

pub exact_quotient : (a : ℤ) (d : ℕ) → 0 < d → d ∣ unsigned_abs a → int_div a (pos d) *ℤ pos d ≡ a
exact_quotient (pos n) d h k = quotient_up (pos n) (n / d) d (quotient_times d n h k) (omega (arith, ints))
exact_quotient (negsuc n) d h k = quotient_down (negsuc n) (suc n / d) d (quotient_times d (suc n) h k) (omega (arith, ints))

-- ---- the bounds of a point stay
cancel_at_most : (a b : ℤ) (g : ℕ) → 0 < g → (a *ℤ pos g) ≤ℤ (b *ℤ pos g) → a ≤ℤ b
cancel_at_most a b g h l =
    by_lt_z b a (λ m. absurd (omega (arith, ints, l, mul_less (pos g) b a (omega (arith, ints)) m, *ℤ_comm (pos g) b, *ℤ_comm (pos g) a))) (λ m. m)

pub grouped : (m w g : ℤ) → (m *ℤ w) *ℤ g ≡ m *ℤ (w *ℤ g)
grouped m w g = rw (split m, split w, split g) (simp differences (same _ _ _ _ (omega arith)))

pub divided_high : (m a b v w : ℤ) (g : ℕ) → 0 < g → a *ℤ pos g ≡ b → v *ℤ pos g ≡ w → b ≤ℤ (m *ℤ w) → a ≤ℤ (m *ℤ v)
divided_high m a b v w g h ea ew l =
    cancel_at_most a (m *ℤ v) g h (rw (ea, grouped m v (pos g), ew) l)

pub divided_low : (m a b v w : ℤ) (g : ℕ) → 0 < g → a *ℤ pos g ≡ b → v *ℤ pos g ≡ w → neg_ℤ (m *ℤ w) ≤ℤ b → neg_ℤ (m *ℤ v) ≤ℤ a
divided_low m a b v w g h ea ew l =
    cancel_at_most (neg_ℤ (m *ℤ v)) a g h (rw (ea, negated (m *ℤ v) (pos g), grouped m v (pos g), ew) l)

pub divided_w_low : (v w : ℤ) (g : ℕ) → 0 < g → v *ℤ pos g ≡ w → pos 1 ≤ℤ w → pos 1 ≤ℤ v
divided_w_low v w g h e l =
    by_lt_z (pos 0) v (λ m. omega (arith, ints)) (λ m. let low = mul_mono v (pos 0) (pos g) (omega (arith, ints)) m in absurd (omega (arith, ints, l, e, low, zero-*ℤ (pos g))))

pub divided_w_high : (v w n : ℤ) (g : ℕ) → 0 < g → v *ℤ pos g ≡ w → pos 1 ≤ℤ w → w ≤ℤ n → v ≤ℤ n
divided_w_high v w n g h e l k =
    let low : pos 0 ≤ℤ v = omega (arith, ints, divided_w_low v w g h e l) in
    let more = mul_mono (pos 1) (pos g) v low (omega (arith, ints)) in
    omega (arith, ints, k, e, more, *ℤ_comm (pos g) v)
