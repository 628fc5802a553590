-- How the code reads whole coordinates, and the differences and products that it makes of them.
use Rattle.std.proofs.Common.{◌≡◌, ℕ, ℤ, pos, ◌+ℤ◌, ◌-ℤ◌, ◌*ℤ◌, ◌≤ℤ◌, ◌^◌, ◌<◌, refl, arith, ap, sym, subst, ◌∙◌, lit<, to_z, of_z}
use Rattle.std.specs.Int.{w64, w128}
use Rattle.overlay_terms.specs.Plane.{coordinate_max, denominator_max, InRange}
use Rattle.overlay_terms.specs.Within.{IsWithin}
use Rattle.std.proofs.lemmas.Int.{ints}
use Rattle.overlay_terms.proofs.Bounds.{read, within_add, within_mul, within_sub}
use Rattle.exact_point.proofs.NarrowBounds.{narrow_read}

pub whole_is : {r a : ℤ} → InRange r → r ≡ a → to_z w64 (of_z w64 r) ≡ a
whole_is {r} {a} h e = narrow_read coordinate_max r (record { low = h.0; high = h.1 }) (lit< tt) ∙ e

pub whole_read : (r : ℤ) → InRange r → InRange (to_z w64 (of_z w64 r))
whole_read r h = subst (λ (z : ℤ). InRange z) (sym (whole_is h refl)) h

pub narrow_within : (n : ℕ) (z : ℤ) → IsWithin n z → n < 2 ^ 63 → IsWithin n (to_z w64 (of_z w64 z))
narrow_within n z h k = subst (λ (z : ℤ). IsWithin n z) (sym (narrow_read n z h k)) h

-- a coordinate has the size of a way
pub whole_within : (r : ℤ) → InRange r → IsWithin (2 ^ 21) (to_z w64 (of_z w64 r))
whole_within r h = narrow_within (2 ^ 21) r (record { low = omega (arith, ints, h.0); high = omega (arith, ints, h.1) }) (lit< tt)

pub differ : (e f a b : ℤ) → e ≡ a → f ≡ b → e -ℤ f ≡ a -ℤ b
differ e f a b ea fb = ap (λ z. z -ℤ f) ea ∙ ap (λ z. a -ℤ z) fb

pub multiply : (e f a b : ℤ) → e ≡ a → f ≡ b → e *ℤ f ≡ a *ℤ b
multiply e f a b ea fb = ap (λ z. z *ℤ f) ea ∙ ap (λ z. a *ℤ z) fb

-- the way from one coordinate to another
pub way_is : {m e f a b : ℤ} → IsWithin (2 ^ 21) m → m ≡ e -ℤ f → e ≡ a → f ≡ b → to_z w64 (of_z w64 m) ≡ a -ℤ b
way_is {m} {e} {f} {a} {b} h v ea fb = narrow_read (2 ^ 21) m h (lit< tt) ∙ v ∙ differ e f a b ea fb

pub offset_is : {m e f a b : ℤ} → IsWithin (2 ^ 64) m → m ≡ e -ℤ f → e ≡ a → f ≡ b → to_z w128 (of_z w128 m) ≡ a -ℤ b
offset_is {m} {e} {f} {a} {b} h v ea fb = read (2 ^ 64) m h (lit< tt) ∙ v ∙ differ e f a b ea fb

-- a cross product of four numbers
pub crossed : (e f g h a b c d : ℤ) → e ≡ a → f ≡ b → g ≡ c → h ≡ d → (e *ℤ h) -ℤ (f *ℤ g) ≡ (a *ℤ d) -ℤ (b *ℤ c)
crossed e f g h a b c d ea fb gc hd = differ (e *ℤ h) (f *ℤ g) (a *ℤ d) (b *ℤ c) (multiply e h a d ea hd) (multiply f g b c fb gc)

pub whole_crossed : {r e f g h a b c d : ℤ} → IsWithin denominator_max r → r ≡ (e *ℤ h) -ℤ (f *ℤ g) → e ≡ a → f ≡ b → g ≡ c → h ≡ d → to_z w64 (of_z w64 r) ≡ (a *ℤ d) -ℤ (b *ℤ c)
whole_crossed {r} {e} {f} {g} {h} {a} {b} {c} {d} s v ea fb gc hd = narrow_read denominator_max r s (lit< tt) ∙ v ∙ crossed e f g h a b c d ea fb gc hd

pub near_crossed : {r e f g h a b c d : ℤ} → IsWithin (2 ^ 21) e → IsWithin (2 ^ 21) f → IsWithin (2 ^ 62) g → IsWithin (2 ^ 62) h → r ≡ (e *ℤ h) -ℤ (f *ℤ g) → e ≡ a → f ≡ b → g ≡ c → h ≡ d → to_z w128 (of_z w128 r) ≡ (a *ℤ d) -ℤ (b *ℤ c)
near_crossed {r} {e} {f} {g} {h} {a} {b} {c} {d} es fs gs hs v ea fb gc hd =
    let small = within_sub (2 ^ 83) (2 ^ 83) (e *ℤ h) (f *ℤ g) (within_mul (2 ^ 21) (2 ^ 62) e h es hs) (within_mul (2 ^ 21) (2 ^ 62) f g fs gs) in
    read (2 ^ 84) r (subst (λ (z : ℤ). IsWithin (2 ^ 84) z) (sym v) small) (lit< tt) ∙ v ∙ crossed e f g h a b c d ea fb gc hd

-- the sum of two numbers
pub sum_is : {r m n a b : ℤ} → IsWithin (2 ^ 64) m → IsWithin (2 ^ 64) n → r ≡ to_z w128 (of_z w128 m) +ℤ to_z w128 (of_z w128 n) → m ≡ a → n ≡ b → to_z w128 (of_z w128 r) ≡ a +ℤ b
sum_is {r} {m} {n} {a} {b} ms ns v ma nb =
    ap (λ z. to_z w128 (of_z w128 z)) (v ∙ added (read (2 ^ 64) m ms (lit< tt)) (read (2 ^ 64) n ns (lit< tt)))
    ∙ read (2 ^ 65) (m +ℤ n) (within_add (2 ^ 64) (2 ^ 64) m n ms ns) (lit< tt) ∙ added ma nb
  where
    added : {e f a b : ℤ} → e ≡ a → f ≡ b → e +ℤ f ≡ a +ℤ b
    added {e} {f} {a} {b} ea fb = ap (λ z. z +ℤ f) ea ∙ ap (λ z. a +ℤ z) fb

-- a part of a way, and the way
pub part_small : (t w : ℤ) → pos 0 ≤ℤ t → t ≤ℤ w → w ≤ℤ pos denominator_max → IsWithin denominator_max t
part_small t w l h k = record { low = omega (arith, ints); high = omega (arith, ints) }

pub way_small : (t w : ℤ) → pos 0 ≤ℤ t → t ≤ℤ w → w ≤ℤ pos denominator_max → IsWithin denominator_max w
way_small t w l h k = record { low = omega (arith, ints); high = omega (arith, ints) }

pub part_low : (t w : ℤ) → pos 0 ≤ℤ t → t ≤ℤ w → w ≤ℤ pos denominator_max → pos 0 ≤ℤ to_z w64 (of_z w64 t)
part_low t w l h k = subst (λ (z : ℤ). pos 0 ≤ℤ z) (sym (narrow_read denominator_max t (part_small t w l h k) (lit< tt))) l

pub part_high : (t w : ℤ) → pos 0 ≤ℤ t → t ≤ℤ w → w ≤ℤ pos denominator_max → to_z w64 (of_z w64 t) ≤ℤ to_z w64 (of_z w64 w)
part_high t w l h k = rw (narrow_read denominator_max t (part_small t w l h k) (lit< tt), narrow_read denominator_max w (way_small t w l h k) (lit< tt)) h

pub way_high : (t w : ℤ) → pos 0 ≤ℤ t → t ≤ℤ w → w ≤ℤ pos denominator_max → to_z w64 (of_z w64 w) ≤ℤ pos denominator_max
way_high t w l h k = subst (λ (z : ℤ). z ≤ℤ pos denominator_max) (sym (narrow_read denominator_max w (way_small t w l h k) (lit< tt))) k
