-- The order of directions that lead right or straight up: by slope, straight up last.
use Rattle.std.specs.Prelude.{◌≡◌, ℕ, ℤ, pos, ◌-ℤ◌, ◌*ℤ◌, ◌<ℤ◌, refl}
use Rattle.std.proofs.Common.{inl, inr, arith, ap, sym, ◌∙◌, subst}
use Rattle.std.proofs.lemmas.Int.{ints}
use Rattle.std.proofs.Math.IntN.{*ℤ_comm, *ℤ-zero, zero-*ℤ}
use Rattle.std.specs.Cmp.{IsTotalOrder, int_cmp_is, int_ranks}
use Rattle.std.specs.Ordering.{int_cmp, nat_cmp, ordering_then, MatchOrdering}
use Rattle.std.specs.declared.cmp.Ordering.{Ordering}
use Rattle.std.specs.declared.cmp.Ordering.TheVariants.{Less, Equal, Greater}
use Rattle.std.proofs.lemmas.Cmp.{on_total, then_total, nat_cmp_total}
use Rattle.overlay_terms.proofs.Difference.{mul_pos}
use Rattle.overlay_terms.proofs.Ratios.{Ratio, ratio_cmp, ratio_cmp_total}
use Rattle.exact_point.proofs.Lexical.{Forward}

-- a step right, or straight up
pub record Step : Type 0 where
  pub across : ℤ
  pub up : ℤ
  pub forward : Forward across up

-- the cross product of two steps: positive where the second turns left from the first
abbrev pub step_turn : Step → Step → ℤ
step_turn a b = (a.across *ℤ b.up) -ℤ (a.up *ℤ b.across)

-- Less where the second turns left from the first
abbrev pub step_cmp : Step → Step → Ordering
step_cmp a b = int_cmp (pos 0) (step_turn a b)

-- straight up is last
rank_by : (x y : ℤ) → Forward x y → ℕ
rank_by x y (inl h) = 0
rank_by x y (inr h) = 1

rank_of : Step → ℕ
rank_of s = rank_by s.across s.up s.forward

slope_by : (x y : ℤ) → Forward x y → Ratio
slope_by x y (inl h) = record { n = y; d = x; positive = h }
slope_by x y (inr h) = record { n = pos 0; d = pos 1; positive = omega (arith, ints) }

slope_of : Step → Ratio
slope_of s = slope_by s.across s.up s.forward

slope_cmp : Step → Step → Ordering
slope_cmp a b = ordering_then (nat_cmp (rank_of a) (rank_of b)) (ratio_cmp (slope_of a) (slope_of b))

slope_cmp_total : IsTotalOrder slope_cmp
unfolding slope_cmp
slope_cmp_total = then_total (on_total rank_of nat_cmp_total) (on_total slope_of ratio_cmp_total)

-- one answer for two differences that are one
shifted : (u v z : ℤ) → z ≡ u -ℤ v → (o : Ordering) → MatchOrdering o (v <ℤ u) (v ≡ u) (u <ℤ v)
    → MatchOrdering o (pos 0 <ℤ z) (pos 0 ≡ z) (z <ℤ (pos 0))
shifted u v z e Less h = omega (arith, ints)
shifted u v z e Equal h = omega (arith, ints)
shifted u v z e Greater h = omega (arith, ints)

by_slopes : (a b c d : ℤ) → int_cmp (pos 0) ((a *ℤ d) -ℤ (b *ℤ c)) ≡ int_cmp (b *ℤ c) (d *ℤ a)
by_slopes a b c d =
    ap (λ z. int_cmp (pos 0) (z -ℤ (b *ℤ c))) (*ℤ_comm a d)
    ∙ sym (int_cmp_is (pos 0) ((d *ℤ a) -ℤ (b *ℤ c)) (int_cmp (b *ℤ c) (d *ℤ a)) (shifted (d *ℤ a) (b *ℤ c) _ refl _ (int_ranks (b *ℤ c) (d *ℤ a))))

agree : (a b c d : ℤ) (f : Forward a b) (g : Forward c d) → int_cmp (pos 0) ((a *ℤ d) -ℤ (b *ℤ c))
    ≡ ordering_then (nat_cmp (rank_by a b f) (rank_by c d g)) (ratio_cmp (slope_by a b f) (slope_by c d g))
unfolding rank_by slope_by
agree a b c d (inl h) (inl k) = by_slopes a b c d
agree a b c d (inl h) (inr k) =
    sym (int_cmp_is (pos 0) ((a *ℤ d) -ℤ (b *ℤ c)) Less (omega (arith, ints, mul_pos a d h k.1, ap (λ z. b *ℤ z) k.0, *ℤ-zero b)))
agree a b c d (inr h) (inl k) =
    sym (int_cmp_is (pos 0) ((a *ℤ d) -ℤ (b *ℤ c)) Greater (omega (arith, ints, mul_pos b c h.1 k, ap (λ z. z *ℤ d) h.0, zero-*ℤ d)))
agree a b c d (inr h) (inr k) =
    sym (int_cmp_is (pos 0) ((a *ℤ d) -ℤ (b *ℤ c)) Equal (omega (arith, ints, ap (λ z. b *ℤ z) k.0, *ℤ-zero b, ap (λ z. z *ℤ d) h.0, zero-*ℤ d)))

same_cmp : slope_cmp ≡ step_cmp
unfolding slope_cmp rank_of slope_of
same_cmp = λ i a b. sym (agree a.across a.up b.across b.up a.forward b.forward) i

-- the order by turns is total
pub step_cmp_total : IsTotalOrder step_cmp
step_cmp_total = subst IsTotalOrder same_cmp slope_cmp_total
