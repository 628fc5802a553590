-- By x, then by y: which way one place lies from another, as a sign of the two differences.
use Rattle.std.proofs.Common.{◌≡◌, ℤ, pos, ◌-ℤ◌, ◌*ℤ◌, ◌<ℤ◌, ◌≤ℤ◌, ◌⊎◌, inl, inr, refl, ap, ◌∙◌, arith, not}
use Rattle.std.proofs.lemmas.Int.{ints, by_lt_z}
use Rattle.std.proofs.Math.IntN.{*ℤ_comm, *ℤ-zero, zero-*ℤ}
use Rattle.std.specs.Cmp.{int_ranks}
use Rattle.std.specs.Bool.{IsTrue}
use Rattle.std.specs.Ordering.{int_cmp, is_lt, is_gt, ordering_then, MatchOrdering}
use Rattle.std.specs.declared.cmp.Ordering.{Ordering}
use Rattle.std.specs.declared.cmp.Ordering.TheVariants.{Less, Equal, Greater}
use Rattle.overlay_terms.proofs.Difference.{mul_pos, mul_mono}
use Rattle.exact_point.proofs.Signs.{negative_times}

-- the step (x, y) leads right, or straight up
abbrev pub Forward : ℤ → ℤ → Type 0
Forward x y = (pos 0 <ℤ x) ⊎ ((x ≡ pos 0) × (pos 0 <ℤ y))

-- the step (x, y) leads right, straight up, or nowhere
abbrev pub NotBack : ℤ → ℤ → Type 0
NotBack x y = (pos 0 <ℤ x) ⊎ ((x ≡ pos 0) × (pos 0 ≤ℤ y))

by_less : (r s : Ordering) (x a y b : ℤ) → MatchOrdering r (x <ℤ a) (x ≡ a) (a <ℤ x) → MatchOrdering s (y <ℤ b) (y ≡ b) (b <ℤ y) → ordering_then r s ≡ Less → Forward (a -ℤ x) (b -ℤ y)
by_less Less s x a y b h k e = inl (omega (arith, ints))
by_less Equal Less x a y b h k e = inr (omega (arith, ints), omega (arith, ints))
by_less Equal Equal x a y b h k e = cc
by_less Equal Greater x a y b h k e = cc
by_less Greater s x a y b h k e = cc

-- a place before another
pub forward : (x a y b : ℤ) → ordering_then (int_cmp x a) (int_cmp y b) ≡ Less → Forward (a -ℤ x) (b -ℤ y)
forward x a y b = by_less _ _ x a y b (int_ranks x a) (int_ranks y b)

by_not_less : (r s : Ordering) (x a y b : ℤ) → MatchOrdering r (x <ℤ a) (x ≡ a) (a <ℤ x) → MatchOrdering s (y <ℤ b) (y ≡ b) (b <ℤ y) → IsTrue (not (is_lt (ordering_then r s))) → NotBack (x -ℤ a) (y -ℤ b)
by_not_less Less s x a y b h k e = cc
by_not_less Equal Less x a y b h k e = cc
by_not_less Equal Equal x a y b h k e = inr (omega (arith, ints), omega (arith, ints))
by_not_less Equal Greater x a y b h k e = inr (omega (arith, ints), omega (arith, ints))
by_not_less Greater s x a y b h k e = inl (omega (arith, ints))

-- a place that is not before another
pub not_before : (x a y b : ℤ) → IsTrue (not (is_lt (ordering_then (int_cmp x a) (int_cmp y b)))) → NotBack (x -ℤ a) (y -ℤ b)
not_before x a y b = by_not_less _ _ x a y b (int_ranks x a) (int_ranks y b)

by_not_greater : (r s : Ordering) (x a y b : ℤ) → MatchOrdering r (x <ℤ a) (x ≡ a) (a <ℤ x) → MatchOrdering s (y <ℤ b) (y ≡ b) (b <ℤ y) → IsTrue (not (is_gt (ordering_then r s))) → NotBack (a -ℤ x) (b -ℤ y)
by_not_greater Less s x a y b h k e = inl (omega (arith, ints))
by_not_greater Equal Less x a y b h k e = inr (omega (arith, ints), omega (arith, ints))
by_not_greater Equal Equal x a y b h k e = inr (omega (arith, ints), omega (arith, ints))
by_not_greater Equal Greater x a y b h k e = cc
by_not_greater Greater s x a y b h k e = cc

-- a place that is not after another
pub not_after : (x a y b : ℤ) → IsTrue (not (is_gt (ordering_then (int_cmp x a) (int_cmp y b)))) → NotBack (a -ℤ x) (b -ℤ y)
not_after x a y b = by_not_greater _ _ x a y b (int_ranks x a) (int_ranks y b)

back_not_less : (r s : Ordering) (x a y b : ℤ) → MatchOrdering r (x <ℤ a) (x ≡ a) (a <ℤ x) → MatchOrdering s (y <ℤ b) (y ≡ b) (b <ℤ y) → NotBack (x -ℤ a) (y -ℤ b) → IsTrue (not (is_lt (ordering_then r s)))
back_not_less Less s x a y b h k (inl l) = absurd (omega (arith, ints))
back_not_less Less s x a y b h k (inr l) = absurd (omega (arith, ints, l.0))
back_not_less Equal Less x a y b h k (inl l) = absurd (omega (arith, ints))
back_not_less Equal Less x a y b h k (inr l) = absurd (omega (arith, ints, l.1))
back_not_less Equal Equal x a y b h k l = refl
back_not_less Equal Greater x a y b h k l = refl
back_not_less Greater s x a y b h k l = refl

pub is_not_before : (x a y b : ℤ) → NotBack (x -ℤ a) (y -ℤ b) → IsTrue (not (is_lt (ordering_then (int_cmp x a) (int_cmp y b))))
is_not_before x a y b = back_not_less _ _ x a y b (int_ranks x a) (int_ranks y b)

back_not_greater : (r s : Ordering) (x a y b : ℤ) → MatchOrdering r (x <ℤ a) (x ≡ a) (a <ℤ x) → MatchOrdering s (y <ℤ b) (y ≡ b) (b <ℤ y) → NotBack (a -ℤ x) (b -ℤ y) → IsTrue (not (is_gt (ordering_then r s)))
back_not_greater Greater s x a y b h k (inl l) = absurd (omega (arith, ints))
back_not_greater Greater s x a y b h k (inr l) = absurd (omega (arith, ints, l.0))
back_not_greater Equal Greater x a y b h k (inl l) = absurd (omega (arith, ints))
back_not_greater Equal Greater x a y b h k (inr l) = absurd (omega (arith, ints, l.1))
back_not_greater Equal Equal x a y b h k l = refl
back_not_greater Equal Less x a y b h k l = refl
back_not_greater Less s x a y b h k l = refl

pub is_not_after : (x a y b : ℤ) → NotBack (a -ℤ x) (b -ℤ y) → IsTrue (not (is_gt (ordering_then (int_cmp x a) (int_cmp y b))))
is_not_after x a y b = back_not_greater _ _ x a y b (int_ranks x a) (int_ranks y b)

-- ---- factors
by_zero : (a b : ℤ) → b ≡ pos 0 → a *ℤ b ≡ pos 0
by_zero a b e = ap (λ z. a *ℤ z) e ∙ *ℤ-zero a

zero_by : (a b : ℤ) → a ≡ pos 0 → a *ℤ b ≡ pos 0
zero_by a b e = ap (λ z. z *ℤ b) e ∙ zero-*ℤ b

-- a part of a forward step does not lead back
pub stays_forward : (k a b : ℤ) → pos 0 ≤ℤ k → Forward a b → NotBack (k *ℤ a) (k *ℤ b)
stays_forward k a b h (inl l) =
    by_lt_z (pos 0) k (λ m. inl (mul_pos k a m l))
    (λ m. let z : k ≡ pos 0 = omega (arith, ints) in inr (zero_by k a z, omega (arith, ints, zero_by k b z)))
stays_forward k a b h (inr (e, l)) =
    by_lt_z (pos 0) k (λ m. inr (by_zero k a e, omega (arith, ints, mul_pos k b m l)))
    (λ m. let z : k ≡ pos 0 = omega (arith, ints) in inr (by_zero k a e, omega (arith, ints, zero_by k b z)))

-- a multiple of a forward step that does not lead back is no negative one
by_step : (k a b x y : ℤ) → k <ℤ pos 0 → Forward a b → k *ℤ a ≡ x → k *ℤ b ≡ y → NotBack x y → ⊥
by_step k a b x y h (inl l) e f (inl m) = omega (arith, ints, negative_times k a h l)
by_step k a b x y h (inl l) e f (inr (m, n)) = omega (arith, ints, negative_times k a h l)
by_step k a b x y h (inr (g, l)) e f (inl m) = omega (arith, ints, by_zero k a g)
by_step k a b x y h (inr (g, l)) e f (inr (m, n)) = omega (arith, ints, negative_times k b h l)

kept_by_factor : (m x y : ℤ) → pos 0 <ℤ m → NotBack x y → NotBack (m *ℤ x) (m *ℤ y)
kept_by_factor m x y h (inl l) = inl (mul_pos m x h l)
kept_by_factor m x y h (inr (e, l)) =
    inr (by_zero m x e, omega (arith, ints, mul_mono (pos 0) y m (omega (arith, ints)) l, *ℤ_comm y m, zero-*ℤ m))

pub no_negative : (k a b m x y : ℤ) → pos 0 <ℤ m → Forward a b → NotBack x y → k *ℤ a ≡ m *ℤ x → k *ℤ b ≡ m *ℤ y → pos 0 ≤ℤ k
no_negative k a b m x y h l n e f =
    by_lt_z k (pos 0) (λ s. absurd (by_step k a b (m *ℤ x) (m *ℤ y) s l e f (kept_by_factor m x y h n))) (λ s. s)
