-- Tests that leave early, against the tests that look at everything.
use Rattle.std.proofs.Common.{◌≡◌, ℤ, pos, ◌-ℤ◌, ◌*ℤ◌, ◌<ℤ◌, refl, ap, sym, ◌∙◌, arith, true, false, Bool, ◌&&◌}
use Rattle.std.proofs.lemmas.Int.{ints}
use Rattle.std.proofs.Math.IntN.{*ℤ_comm}
use Rattle.std.specs.Ordering.{int_cmp, ordering_then, is_ne, is_eq}
use Rattle.std.specs.Prelude.{int_le, int_lt}
use Rattle.std.specs.declared.cmp.Ordering.{Ordering}
use Rattle.std.specs.declared.cmp.Ordering.TheVariants.{Less, Equal, Greater}
use Rattle.overlay_terms.specs.Plane.{Point, Segment, is_below, height_over}
use Rattle.overlay_terms.proofs.Ratios.{int_cmp-scaled}

-- where x differs, y is not asked for
differs : (r s : Ordering) → is_ne r ≡ true → r ≡ ordering_then r s
differs Less s e = refl
differs Equal s e = cc
differs Greater s e = refl

agrees : (r s : Ordering) → is_ne r ≡ false → s ≡ ordering_then r s
agrees Less s e = cc
agrees Equal s e = refl
agrees Greater s e = cc

pub first_decides : (r x s : Ordering) (b : Bool) → r ≡ x → b ≡ is_ne r → b ≡ true → r ≡ ordering_then x s
first_decides r x s b e d t = differs r s (sym d ∙ t) ∙ ap (λ o. ordering_then o s) e

pub second_decides : (r x s t : Ordering) (b : Bool) → r ≡ x → b ≡ is_ne r → b ≡ false → t ≡ s → t ≡ ordering_then x s
second_decides r x s t b e d f k = k ∙ agrees r s (sym d ∙ f) ∙ ap (λ o. ordering_then o s) e

pub by_products : (r : Ordering) (a b m n : ℤ) → r ≡ int_cmp a b → a ≡ m → b ≡ n → r ≡ int_cmp m n
by_products r a b m n e ea eb = e ∙ ap (λ z. int_cmp z b) ea ∙ ap (λ z. int_cmp m z) eb

-- over one denominator the numerators alone decide
over_one : (x a w : ℤ) → pos 0 <ℤ w → int_cmp x a ≡ int_cmp (x *ℤ w) (a *ℤ w)
over_one x a w h = int_cmp-scaled w x a h ∙ ap (λ z. int_cmp z (w *ℤ a)) (*ℤ_comm w x) ∙ ap (λ z. int_cmp (x *ℤ w) z) (*ℤ_comm w a)

pub same_denominator : (x a y b w v : ℤ) → pos 0 <ℤ w → w ≡ v → ordering_then (int_cmp x a) (int_cmp y b) ≡ ordering_then (int_cmp (x *ℤ v) (a *ℤ w)) (int_cmp (y *ℤ v) (b *ℤ w))
same_denominator x a y b w v h e =
    ap (λ o. ordering_then o (int_cmp y b)) (over_one x a w h) ∙ ap (λ o. ordering_then (int_cmp (x *ℤ w) (a *ℤ w)) o) (over_one y b w h)
    ∙ ap (λ z. ordering_then (int_cmp (x *ℤ z) (a *ℤ w)) (int_cmp (y *ℤ z) (b *ℤ w))) e

-- ---- three tests joined
pub first_fails : (x y z : Bool) → x ≡ false → false ≡ (x && y && z)
first_fails true y z e = cc
first_fails false y z e = refl

pub second_fails : (x y z : Bool) → y ≡ false → false ≡ (x && y && z)
second_fails true true z e = cc
second_fails true false z e = refl
second_fails false y z e = refl

pub last_decides : (x y z b : Bool) → x ≡ true → y ≡ true → b ≡ z → b ≡ (x && y && z)
last_decides true true z b e f k = k
last_decides true false z b e f k = cc
last_decides false y z b e f k = cc

pub first_holds : (x y z b c : Bool) → x ≡ true → b ≡ y → c ≡ z → (b && c) ≡ (x && y && z)
first_holds true y z b c e f k = ap (λ v. v && c) f ∙ ap (λ v. y && v) k
first_holds false y z b c e f k = cc

not_left : (l p a : ℤ) → a ≡ p -ℤ l → int_lt a (pos 0) ≡ true → int_le l p ≡ false
not_left l p a e h = grind (arith, ints)

from_left : (l p a : ℤ) → a ≡ p -ℤ l → int_lt a (pos 0) ≡ false → int_le l p ≡ true
from_left l p a e h = grind (arith, ints)

before_right : (r s p q : ℤ) → s ≡ r → q ≡ p → int_le s q ≡ false → int_lt p r ≡ true
before_right r s p q e f h = grind (arith, ints)

at_right : (r s p q : ℤ) → s ≡ r → q ≡ p → int_le s q ≡ true → int_lt p r ≡ false
at_right r s p q e f h = grind (arith, ints)

pub equal_to : (r s : Ordering) (b : Bool) → r ≡ s → b ≡ is_ne r → b ≡ false → is_eq s ≡ true
equal_to r s b e d f = ap is_eq (sym e) ∙ by_case r (sym d ∙ f)
  where
    by_case : (r : Ordering) → is_ne r ≡ false → is_eq r ≡ true
    by_case Less e = cc
    by_case Equal e = refl
    by_case Greater e = cc

-- ---- whether a segment is below a point
pub not_below : (s : Segment) (p : Point) (a : ℤ) → a ≡ p.x -ℤ (s.left.x *ℤ p.w) → int_lt a (pos 0) ≡ true → false ≡ is_below s p
not_below s p a e h =
    first_fails (int_le (s.left.x *ℤ p.w) p.x) (int_lt p.x (s.right.x *ℤ p.w)) (int_lt (pos 0) (height_over s p)) (not_left (s.left.x *ℤ p.w) p.x a e h)

pub past_end : (s : Segment) (p : Point) (r x : ℤ) → r ≡ s.right.x *ℤ p.w → x ≡ p.x → int_le r x ≡ true → false ≡ is_below s p
past_end s p r x er ex tr =
    second_fails (int_le (s.left.x *ℤ p.w) p.x) (int_lt p.x (s.right.x *ℤ p.w)) (int_lt (pos 0) (height_over s p)) (at_right (s.right.x *ℤ p.w) r p.x x er ex tr)

pub below_by_height : (s : Segment) (p : Point) (a r x h : ℤ) → a ≡ p.x -ℤ (s.left.x *ℤ p.w) → int_lt a (pos 0) ≡ false → r ≡ s.right.x *ℤ p.w → x ≡ p.x → int_le r x ≡ false → h ≡ height_over s p → int_lt (pos 0) h ≡ is_below s p
below_by_height s p a r x h ea fa er ex fr eh =
    last_decides (int_le (s.left.x *ℤ p.w) p.x) (int_lt p.x (s.right.x *ℤ p.w)) (int_lt (pos 0) (height_over s p)) (int_lt (pos 0) h)
    (from_left (s.left.x *ℤ p.w) p.x a ea fa) (before_right (s.right.x *ℤ p.w) r p.x x er ex fr) (ap (λ z. int_lt (pos 0) z) eh)
