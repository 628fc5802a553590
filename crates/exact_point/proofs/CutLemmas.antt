-- Where a vertical line over a whole x cuts a segment between its ends, and the same divided.
use Prim.Native.Nat.{◌∣◌}
use Rattle.std.proofs.Common.{◌≡◌, ℕ, ℤ, pos, neg_ℤ, ◌+ℤ◌, ◌-ℤ◌, ◌*ℤ◌, ◌≤ℤ◌, ◌<◌, ◌^◌, unsigned_abs, ap, sym, ◌∙◌, arith, subst}
use Rattle.std.proofs.lemmas.Int.{ints, unsigned_abs-mul}
use Rattle.std.proofs.lemmas.Nat.Gcd.{dvd_trans}
use Rattle.std.proofs.Math.Nat.{dvd-mul_left}
use Rattle.std.specs.Int.{IsGcd}
use Rattle.overlay_terms.specs.Plane.{Point, Segment, coordinate_max, denominator_max}
use Rattle.overlay_terms.specs.Within.{IsWithin}
use Rattle.exact_point.specs.CutOver.{IsCutOver, cut_over}
use Rattle.exact_point.specs.Reduced.{IsDivisorOf}
use Rattle.exact_point.proofs.BorderLemmas.{at_border}
use Rattle.exact_point.proofs.CrossingLemmas.{mean_low, mean_high}
use Rattle.exact_point.proofs.Readings.{differ, multiply}
use Rattle.exact_point.proofs.ReducedLemmas.{IsDividedBy, divided_low, divided_high, divided_w_low, divided_w_high, grouped}

-- a place within the coordinates, as the type of a point has it
pub record IsInside (p : Point) : Type 0 where
  pub w_low : pos 1 ≤ℤ p.w
  pub w_high : p.w ≤ℤ pos denominator_max
  pub x_low : neg_ℤ (pos coordinate_max *ℤ p.w) ≤ℤ p.x
  pub x_high : p.x ≤ℤ (pos coordinate_max *ℤ p.w)
  pub y_low : neg_ℤ (pos coordinate_max *ℤ p.w) ≤ℤ p.y
  pub y_high : p.y ≤ℤ (pos coordinate_max *ℤ p.w)

pub cut_inside : (s : Segment) (x : ℤ) → IsCutOver s x → IsInside (cut_over s x)
cut_inside s x h =
    let t : ℤ = x -ℤ s.left.x in
    let w : ℤ = s.right.x -ℤ s.left.x in
    let low : pos 0 ≤ℤ t = omega (arith, ints, h.after_left) in
    let high : t ≤ℤ w = omega (arith, ints, h.before_right) in
    let x_bound = mean_low (neg_ℤ (pos 1048576)) s.left.x s.right.x t w h.left_x.0 h.right_x.0 low high in
    let y_bound = mean_low (neg_ℤ (pos 1048576)) s.left.y s.right.y t w h.left_y.0 h.right_y.0 low high in
    record {
      w_low = omega (arith, ints, h.after_left, h.before_right);
      w_high = omega (arith, ints, h.left_x.0, h.right_x.1);
      x_low = omega (arith, ints, x_bound);
      x_high = mean_high (pos 1048576) s.left.x s.right.x t w h.left_x.1 h.right_x.1 low high;
      y_low = omega (arith, ints, y_bound);
      y_high = mean_high (pos 1048576) s.left.y s.right.y t w h.left_y.1 h.right_y.1 low high;
    }

pub cut_w_small : (s : Segment) (x : ℤ) → IsCutOver s x → IsWithin (2 ^ 21) (cut_over s x).w
cut_w_small s x h = record { low = omega (arith, ints, h.after_left, h.before_right); high = omega (arith, ints, h.left_x.0, h.right_x.1) }

pub cut_y_small : (s : Segment) (x : ℤ) → IsCutOver s x → IsWithin (2 ^ 41) (cut_over s x).y
cut_y_small s x h =
    let inside = cut_inside s x h in
    let w = cut_w_small s x h in
    record { low = omega (arith, ints, inside.y_low, w.high); high = omega (arith, ints, inside.y_high, w.high) }

-- a coordinate t / w of the way, as it is read
pub mean_is : (r e f g h a b t w : ℤ) → r ≡ (e *ℤ h) +ℤ ((f -ℤ e) *ℤ g) → e ≡ a → f ≡ b → g ≡ t → h ≡ w → r ≡ (a *ℤ w) +ℤ ((b -ℤ a) *ℤ t)
mean_is r e f g h a b t w v ea fb gt hw =
    v ∙ ap (λ z. z +ℤ ((f -ℤ e) *ℤ g)) (multiply e h a w ea hw)
    ∙ ap (λ z. (a *ℤ w) +ℤ z) (multiply (f -ℤ e) g (b -ℤ a) t (differ f e b a fb ea) gt)

-- what divides y and the denominator divides x times the denominator
pub cut_divisor : (s : Segment) (x w y : ℤ) (g : ℕ) → w ≡ s.right.x -ℤ s.left.x → y ≡ (cut_over s x).y → IsGcd (unsigned_abs w) (unsigned_abs y) g → IsDivisorOf (cut_over s x) g
cut_divisor s x w y g ew ey h =
    let p : Point = cut_over s x in
    let of_w : g ∣ unsigned_abs p.w = subst (λ (z : ℤ). g ∣ unsigned_abs z) ew h.0 in
    let size = ap unsigned_abs (at_border s.left.x s.right.x x) ∙ unsigned_abs-mul x p.w in
    record {
      of_x = subst (λ (n : ℕ). g ∣ n) (sym size) (dvd_trans g of_w (dvd-mul_left (unsigned_abs p.w) (unsigned_abs x)));
      of_y = subst (λ (z : ℤ). g ∣ unsigned_abs z) ey h.1;
      of_w = of_w;
      greatest = λ d a b n. h.2 d (subst (λ (z : ℤ). d ∣ unsigned_abs z) (sym ew) n) (subst (λ (z : ℤ). d ∣ unsigned_abs z) (sym ey) b);
    }

-- the place with y and the denominator divided, and x over the new denominator
pub cut_divided : (s : Segment) (x n v z : ℤ) (g : ℕ) → n ≡ x *ℤ v → v *ℤ pos g ≡ s.right.x -ℤ s.left.x → z *ℤ pos g ≡ (cut_over s x).y → IsDividedBy (cut_over s x) (record { x = n; y = z; w = v }) g
cut_divided s x n v z g en ev ez = record {
  x = ap (λ (m : ℤ). m *ℤ pos g) en ∙ grouped x v (pos g) ∙ ap (λ m. x *ℤ m) ev ∙ sym (at_border s.left.x s.right.x x);
  y = ez;
  w = ev;
}

pub divided_inside : (p r : Point) (g : ℕ) → 0 < g → IsDividedBy p r g → IsInside p → IsInside r
divided_inside p r g h d i = record {
  w_low = divided_w_low r.w p.w g h d.w i.w_low;
  w_high = divided_w_high r.w p.w (pos 8796093022208) g h d.w i.w_low i.w_high;
  x_low = divided_low (pos 1048576) r.x p.x r.w p.w g h d.x d.w i.x_low;
  x_high = divided_high (pos 1048576) r.x p.x r.w p.w g h d.x d.w i.x_high;
  y_low = divided_low (pos 1048576) r.y p.y r.w p.w g h d.y d.w i.y_low;
  y_high = divided_high (pos 1048576) r.y p.y r.w p.w g h d.y d.w i.y_high;
}
