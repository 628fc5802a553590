-- Whole numbers: products, signs and the order.
use Rattle.std.proofs.Common.{◌≡◌, ℤ, pos, neg_ℤ, ◌-ℤ◌, ◌*ℤ◌, ◌≤ℤ◌, ◌<ℤ◌, true, false, ap, ◌∙◌, arith}
use Rattle.std.specs.Prelude.{int_le, int_lt}
use Rattle.std.proofs.lemmas.Int.{ints}
use Rattle.std.proofs.Math.IntN.{*ℤ_comm, zero-*ℤ}
use Rattle.overlay_terms.proofs.Difference.{split, differences, diff-neg, same}

-- ---- products
-- three factors, the second and the last turned round
pub last_out : (a b c : ℤ) → a *ℤ (b *ℤ c) ≡ (a *ℤ c) *ℤ b
last_out a b c = rw (split a, split b, split c) (simp differences (same _ _ _ _ (omega arith)))

-- a cross product with both parts turned round has the other sign
pub turn_back : (a b c d : ℤ) → (c *ℤ b) -ℤ (d *ℤ a) ≡ neg_ℤ ((a *ℤ d) -ℤ (b *ℤ c))
turn_back a b c d = rw (split a, split b, split c, split d) (simp (diff-neg, differences) (same _ _ _ _ (omega arith)))

-- the cross product of two numbers with themselves is 0
pub no_turn : (a b : ℤ) → (a *ℤ b) -ℤ (b *ℤ a) ≡ pos 0
no_turn a b = omega (arith, ints, *ℤ_comm a b)

-- a number times the difference of two that are the same
pub no_product : (e a b : ℤ) → a ≡ b → e *ℤ (a -ℤ b) ≡ pos 0
no_product e a b h = ap (λ z. e *ℤ z) (none a b h) ∙ *ℤ_comm e (pos 0) ∙ zero-*ℤ e
  where
    none : (x y : ℤ) → x ≡ y → x -ℤ y ≡ pos 0
    none x y e = omega (arith, ints)

-- ---- signs
pub negated_positive : (a : ℤ) → a <ℤ pos 0 → pos 0 <ℤ neg_ℤ a
negated_positive a h = omega (arith, ints)

pub negated_more : (x y : ℤ) → x ≡ neg_ℤ y → y <ℤ pos 0 → pos 0 <ℤ x
negated_more x y e h = omega (arith, ints, e, h)

pub less_none : (a : ℤ) → a <ℤ pos 0 → a ≡ pos 0 → ⊥
less_none a h e = omega (arith, ints)

pub more_none : (a : ℤ) → pos 0 <ℤ a → a ≡ pos 0 → ⊥
more_none a h e = omega (arith, ints)

pub less_by : (a b : ℤ) → pos 0 <ℤ (b -ℤ a) → a <ℤ b
less_by a b h = omega (arith, ints)

-- ---- the order and its tests
pub most_same : (a b : ℤ) → a ≡ b → a ≤ℤ b
most_same a b e = omega (arith, ints)

pub same_most : (a b : ℤ) → a ≤ℤ b → b ≤ℤ a → a ≡ b
same_most a b h k = omega (arith, ints)

pub less_is_most : (a b : ℤ) → a <ℤ b → int_le a b ≡ true
less_is_most a b h = grind (arith, ints)

pub same_is_most : (a b : ℤ) → a ≡ b → int_le a b ≡ true
same_is_most a b h = grind (arith, ints)

pub more_is_not_most : (a b : ℤ) → b <ℤ a → int_le a b ≡ false
more_is_not_most a b h = grind (arith, ints)

pub most_is_not_less : (a b : ℤ) → b ≤ℤ a → int_lt a b ≡ false
most_is_not_less a b h = grind (arith, ints)
