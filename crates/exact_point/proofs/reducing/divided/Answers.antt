use Rattle.std.proofs.Common.{◌≡◌, ℕ, ℤ, pos, neg_ℤ, ◌*ℤ◌, ◌-ℤ◌, ◌<ℤ◌, ◌≤ℤ◌, ◌<◌, ◌/◌, ◌≤◌, ◌^◌, arith, unsigned_abs, to_z, of_z, ap, ◌∙◌, true, false}
use Prim.Native.Nat.{◌∣◌}
use Rattle.std.specs.Int.{w128}
use Rattle.std.proofs.lemmas.Int.{ints, to_z-of_z}
use lib.Signed.{lt_z}
use Rattle.exact_point.proofs.ReducedLemmas.{quotient_times, quotient_small, quotient_up, quotient_down}
use Rattle.exact_point.proofs.reducing.divided.Goals as goal

-- what the code makes of the quotient, for a number below 0 and for the others
turned : (a b : ℤ) (n d : ℕ) → unsigned_abs a ≤ 2 ^ 63 → 0 < d → d ∣ unsigned_abs a → b ≡ a → n ≡ unsigned_abs b → lt_z b (pos 0) ≡ true → to_z w128 (of_z w128 (pos 0 -ℤ to_z w128 (n / d))) *ℤ pos d ≡ a
turned a b n d small h k eb en low =
    let size : n ≡ unsigned_abs a = en ∙ ap unsigned_abs eb in
    let whole = quotient_times d (unsigned_abs a) h k in
    let less = quotient_small d (unsigned_abs a) h k in
    let q : n / d ≡ unsigned_abs a / d = ap (λ m. m / d) size in
    let below : a <ℤ pos 0 = grind (arith, ints) in
    let reads : to_z w128 (of_z w128 (pos 0 -ℤ to_z w128 (n / d))) ≡ neg_ℤ (pos (unsigned_abs a / d)) = omega (arith, ints) in
    ap (λ z. z *ℤ pos d) reads ∙ quotient_down a (unsigned_abs a / d) d whole below

kept : (a b : ℤ) (n d : ℕ) → unsigned_abs a ≤ 2 ^ 63 → 0 < d → d ∣ unsigned_abs a → b ≡ a → n ≡ unsigned_abs b → lt_z b (pos 0) ≡ false → to_z w128 (n / d) *ℤ pos d ≡ a
kept a b n d small h k eb en high =
    let size : n ≡ unsigned_abs a = en ∙ ap unsigned_abs eb in
    let whole = quotient_times d (unsigned_abs a) h k in
    let less = quotient_small d (unsigned_abs a) h k in
    let q : n / d ≡ unsigned_abs a / d = ap (λ m. m / d) size in
    let above : pos 0 ≤ℤ a = grind (arith, ints) in
    let reads : to_z w128 (n / d) ≡ pos (unsigned_abs a / d) = omega (arith, ints) in
    ap (λ z. z *ℤ pos d) reads ∙ quotient_up a (unsigned_abs a / d) d whole above

pub returns-then-a-lt0 : goal.returns-then-a-lt0
returns-then-a-lt0 c =
    turned c.args.a (to_z w128 (of_z w128 c.args.a)) _ _ c.requires.small c.requires.positive c.requires.divides (to_z-of_z w128 c.args.a c.ranges.a) c.unsigned_abs.ensures.value c.if-a-lt0.true

pub returns-else-a-lt0 : goal.returns-else-a-lt0
returns-else-a-lt0 c =
    kept c.args.a (to_z w128 (of_z w128 c.args.a)) _ _ c.requires.small c.requires.positive c.requires.divides (to_z-of_z w128 c.args.a c.ranges.a) c.unsigned_abs.ensures.value c.if-a-lt0.false
