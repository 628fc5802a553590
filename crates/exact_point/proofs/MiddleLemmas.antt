-- Sums of two products, in halves, and where the middle of two points lies.
use Rattle.std.proofs.Common.{◌≡◌, ℕ, ℤ, pos, ◌+ℤ◌, ◌-ℤ◌, ◌*ℤ◌, ◌+◌, ◌^◌, ◌<◌, ◌≤◌, arith, ap, sym, ◌∙◌, refl, Bool, true, false, ◌&&◌, ◌||◌, FitsSigned, to_z, of_z}
use Rattle.std.specs.Int.{w128}
use Rattle.std.proofs.lemmas.Int.{ints, by_lt_z}
use Rattle.std.specs.Prelude.{int_lt, int_le}
use Rattle.overlay_terms.specs.Within.{IsWithin}
use Rattle.overlay_terms.specs.Plane.{Point, Segment, height_over, is_below}
use Rattle.overlay_terms.specs.Tiles.{midpoint}
use Rattle.overlay_terms.proofs.Bounds.{Reads, reads, within_fits, within_add}
use Rattle.overlay_terms.proofs.Difference.{split, differences, same}
use Rattle.overlay_terms.proofs.InputNumbers.{true_le, true_lt}
use Rattle.exact_point.proofs.Comparing.{below_by_height}
use Rattle.exact_point.proofs.Tests.{lt_no, le_no}

pub within_more : (m n : ℕ) (z : ℤ) → m ≤ n → IsWithin m z → IsWithin n z
within_more m n z l h = record { low = omega (arith, ints, h.low); high = omega (arith, ints, h.high) }

-- the sum of two numbers of the code fits, and reads as their sum
pub add_fits : {m n : ℕ} {e f y z : ℤ} → Reads m e y → Reads n f z → m + n < 2 ^ 127 → FitsSigned w128 (e +ℤ f)
add_fits {m} {n} {e} {f} {y} {z} h k l = rw (h.is, k.is) (within_fits (m + n) (y +ℤ z) (within_add m n y z h.within k.within) l)

pub add_reads : {m n : ℕ} {e f y z : ℤ} → Reads m e y → Reads n f z → m + n < 2 ^ 127 → Reads (m + n) (to_z w128 (of_z w128 (e +ℤ f))) (y +ℤ z)
add_reads {m} {n} {e} {f} {y} {z} h k l = rw (h.is, k.is) (reads (m + n) (y +ℤ z) (within_add m n y z h.within k.within) l)

-- ---- by halves
-- a sum of products is that of the quotients, times 256, and that of the rests
pub in_halves : (q r p t v w : ℤ) → (pos 256 *ℤ ((q *ℤ v) +ℤ (p *ℤ w))) +ℤ ((r *ℤ v) +ℤ (t *ℤ w)) ≡ (((pos 256 *ℤ q) +ℤ r) *ℤ v) +ℤ (((pos 256 *ℤ p) +ℤ t) *ℤ w)
in_halves q r p t v w = rw (split q, split r, split p, split t, split v, split w) (simp differences (same _ _ _ _ (omega arith)))

pub by_halves : (a b v w q r p t h l : ℤ) → (pos 256 *ℤ q) +ℤ r ≡ a → (pos 256 *ℤ p) +ℤ t ≡ b → h ≡ (q *ℤ v) +ℤ (p *ℤ w) → l ≡ (r *ℤ v) +ℤ (t *ℤ w) → (pos 256 *ℤ h) +ℤ l ≡ (a *ℤ v) +ℤ (b *ℤ w)
by_halves a b v w q r p t h l ea eb eh el =
    ap (λ z. (pos 256 *ℤ z) +ℤ l) eh ∙ ap (λ z. (pos 256 *ℤ ((q *ℤ v) +ℤ (p *ℤ w))) +ℤ z) el ∙ in_halves q r p t v w
    ∙ ap (λ z. (z *ℤ v) +ℤ (((pos 256 *ℤ p) +ℤ t) *ℤ w)) ea ∙ ap (λ z. (a *ℤ v) +ℤ (z *ℤ w)) eb

or_first : (a b d : Bool) → a ≡ true → d ≡ true → (a || b) ≡ d
or_first true b true e f = refl
or_first true b false e f = cc
or_first false b d e f = cc

or_third : (a b t d : Bool) → a ≡ false → b ≡ true → t ≡ d → (a || (b && t)) ≡ d
or_third false true t d e f k = k
or_third false false t d e f k = cc
or_third true b t d e f k = cc

or_none : (a b t d : Bool) → a ≡ false → b ≡ false → d ≡ false → (a || (b && t)) ≡ d
or_none false false t false e f k = refl
or_none false false t true e f k = cc
or_none false true t d e f k = cc
or_none true b t d e f k = cc

-- where the larger part is nothing, the rest decides
rest_decides : (m r : ℤ) → m ≡ r → int_lt (pos 0) r ≡ int_lt (pos 0) m
rest_decides m r e = ap (λ z. int_lt (pos 0) z) (sym e)

-- the sign of 256 n + r, where r is less than 256 both ways
sign_of_parts : (n r m : ℤ) → (pos 256 *ℤ n) +ℤ r ≡ m → IsWithin 255 r → (int_lt (pos 0) n || (int_le (pos 0) n && int_lt (pos 0) r)) ≡ int_lt (pos 0) m
sign_of_parts n r m e h =
    by_lt_z (pos 0) n
    (λ l. or_first _ _ _ (true_lt (pos 0) n l) (true_lt (pos 0) m (omega (arith, ints, e, h.low))))
    (λ l. by_lt_z n (pos 0)
    (λ k. or_none _ _ (int_lt (pos 0) r) _ (lt_no (pos 0) n l) (le_no (pos 0) n k) (lt_no (pos 0) m (omega (arith, ints, e, h.high))))
    (λ k. or_third _ _ _ _ (lt_no (pos 0) n l) (true_le (pos 0) n k) (rest_decides m r (omega (arith, ints, e)))))

-- the same with a quotient of the smaller number added to the larger
pub sign_by_parts : (high low q r n t : ℤ) → (pos 256 *ℤ q) +ℤ r ≡ low → IsWithin 255 r → n ≡ high +ℤ q → t ≡ r → (int_lt (pos 0) n || (int_le (pos 0) n && int_lt (pos 0) t)) ≡ int_lt (pos 0) ((pos 256 *ℤ high) +ℤ low)
sign_by_parts high low q r n t e h en et =
    ap (λ z. int_lt (pos 0) n || (int_le (pos 0) n && int_lt (pos 0) z)) et
    ∙ sign_of_parts n r ((pos 256 *ℤ high) +ℤ low) (omega (arith, ints, e, en)) h

-- ---- the middle
-- how far the middle lies after a coordinate is the sum of how far the two points do
pub middle_step : (l x y v w : ℤ) → ((x *ℤ w) +ℤ (y *ℤ v)) -ℤ (l *ℤ (pos 2 *ℤ (v *ℤ w))) ≡ ((x -ℤ (l *ℤ v)) *ℤ w) +ℤ ((y -ℤ (l *ℤ w)) *ℤ v)
middle_step l x y v w = rw (split l, split x, split y, split v, split w) (simp differences (same _ _ _ _ (omega arith)))

-- a cross product with a sum
cross_sum : (a b d e f g v w : ℤ) → (a *ℤ ((d *ℤ w) +ℤ (e *ℤ v))) -ℤ (b *ℤ ((f *ℤ w) +ℤ (g *ℤ v))) ≡ (((a *ℤ d) -ℤ (b *ℤ f)) *ℤ w) +ℤ (((a *ℤ e) -ℤ (b *ℤ g)) *ℤ v)
cross_sum a b d e f g v w = rw (split a, split b, split d, split e, split f, split g, split v, split w) (simp differences (same _ _ _ _ (omega arith)))

-- the height of the middle is the sum of the heights of the two points
pub middle_height : (s : Segment) (p q : Point) → height_over s (midpoint p q) ≡ (height_over s p *ℤ q.w) +ℤ (height_over s q *ℤ p.w)
middle_height s p q =
    let a = s.right.x -ℤ s.left.x in
    let b = s.right.y -ℤ s.left.y in
    ap (λ z. (a *ℤ z) -ℤ (b *ℤ ((midpoint p q).x -ℤ (s.left.x *ℤ (midpoint p q).w)))) (middle_step s.left.y p.y q.y p.w q.w)
    ∙ ap (λ z. (a *ℤ (((p.y -ℤ (s.left.y *ℤ p.w)) *ℤ q.w) +ℤ ((q.y -ℤ (s.left.y *ℤ q.w)) *ℤ p.w))) -ℤ (b *ℤ z)) (middle_step s.left.x p.x q.x p.w q.w)
    ∙ cross_sum a b (p.y -ℤ (s.left.y *ℤ p.w)) (q.y -ℤ (s.left.y *ℤ q.w)) (p.x -ℤ (s.left.x *ℤ p.w)) (q.x -ℤ (s.left.x *ℤ q.w)) p.w q.w

-- how far the middle lies right of a line, from how far the two points do
pub middle_along : (l : ℤ) (p q : Point) (a b d : ℤ) → a ≡ p.x -ℤ (l *ℤ p.w) → b ≡ q.x -ℤ (l *ℤ q.w) → d ≡ (a *ℤ q.w) +ℤ (b *ℤ p.w) → d ≡ (midpoint p q).x -ℤ (l *ℤ (midpoint p q).w)
middle_along l p q a b d ea eb ed =
    ed ∙ ap (λ z. (z *ℤ q.w) +ℤ (b *ℤ p.w)) ea ∙ ap (λ z. ((p.x -ℤ (l *ℤ p.w)) *ℤ q.w) +ℤ (z *ℤ p.w)) eb ∙ sym (middle_step l p.x q.x p.w q.w)

pub second_fails : (x y z : Bool) → y ≡ false → false ≡ (x && y && z)
second_fails true true z e = cc
second_fails true false z e = refl
second_fails false y z e = refl

reached : (x e d : ℤ) → d ≡ x -ℤ e → int_le (pos 0) d ≡ true → int_lt x e ≡ false
reached x e d h k = grind (arith, ints)

not_reached : (x e d : ℤ) → d ≡ x -ℤ e → int_le (pos 0) d ≡ false → int_le e x ≡ false
not_reached x e d h k = grind (arith, ints)

-- not left of its right end: no segment is below
pub not_before_right : (s : Segment) (p : Point) (d : ℤ) → d ≡ p.x -ℤ (s.right.x *ℤ p.w) → int_le (pos 0) d ≡ true → false ≡ is_below s p
not_before_right s p d e h =
    second_fails (int_le (s.left.x *ℤ p.w) p.x) (int_lt p.x (s.right.x *ℤ p.w)) (int_lt (pos 0) (height_over s p)) (reached p.x (s.right.x *ℤ p.w) d e h)

-- between its ends, by x, the height decides
pub below_between : (s : Segment) (p : Point) (a d h : ℤ) → a ≡ p.x -ℤ (s.left.x *ℤ p.w) → int_lt a (pos 0) ≡ false → d ≡ p.x -ℤ (s.right.x *ℤ p.w) → int_le (pos 0) d ≡ false → h ≡ height_over s p → int_lt (pos 0) h ≡ is_below s p
below_between s p a d h ea fa ed fd eh =
    below_by_height s p a (s.right.x *ℤ p.w) p.x h ea fa refl refl (not_reached p.x (s.right.x *ℤ p.w) d ed fd) eh
