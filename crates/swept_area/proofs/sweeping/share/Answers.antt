use Rattle.std.proofs.Common.{◌≡◌, ℤ, pos, neg_ℤ, ◌^◌, ◌+ℤ◌, ◌*ℤ◌, ◌<ℤ◌, lit<, ap, sym, subst, ◌∙◌, to_z, of_z, arith}
use Rattle.std.specs.Int.{w128, int_div_euclid, int_rem_euclid}
use Rattle.std.proofs.lemmas.Int.{ints}
use Rattle.overlay_terms.specs.Within.{IsWithin}
use Rattle.overlay_terms.proofs.Bounds.{read}
use Rattle.swept_area.specs.Pieces.{IsNearLine}
use Rattle.swept_area.proofs.Floors.{divided, floor_from, floor_to, rest_within}
use Rattle.swept_area.proofs.LineLemmas.{by_rest}
use Rattle.swept_area.proofs.sweeping.share.Goals as goal

turn_within : (t l : ℤ) → IsWithin (2 ^ 21) l → IsNearLine t l → IsWithin (2 ^ 64) t
turn_within t l small near = record { low = omega (arith, ints, small.high, near.0); high = omega (arith, ints, small.high, near.1) }

minus : (l : ℤ) → neg_ℤ (pos (2 ^ 43)) *ℤ l ≡ neg_ℤ (pos (2 ^ 43) *ℤ l)
minus l = omega (arith, ints)

whole_within : (t l : ℤ) → pos 0 <ℤ l → IsNearLine t l → IsWithin (2 ^ 43) (int_div_euclid t l)
whole_within t l h near =
    record {
      low = floor_from (neg_ℤ (pos (2 ^ 43))) t l h (omega (arith, ints, near.0, minus l));
      high = floor_to (pos (2 ^ 43)) t l h near.1;
    }

joined_is : (q r v m t l w : ℤ) → q ≡ int_div_euclid t l → r ≡ int_rem_euclid t l → v ≡ w → m ≡ l → pos 0 <ℤ l → (q *ℤ v) +ℤ int_div_euclid (r *ℤ v) m ≡ int_div_euclid (t *ℤ w) l
joined_is q r v m t l w eq er ev em h =
    rw (eq, er, ev, em) (sym (by_rest t (int_div_euclid t l) (int_rem_euclid t l) l w h (divided t l h)))

pub returns-clause-value : goal.returns-clause-value
returns-clause-value c =
    let l_is = read _ _ c.args.line.now.small (lit< tt) in
    let t_is = read _ _ (turn_within c.args.line.now.turn c.args.line.now.length c.args.line.now.small c.args.line.now.near) (lit< tt) in
    let q = c.div_euclid-whole.ensures ∙ ap (λ (z : ℤ). int_div_euclid z (to_z w128 (of_z w128 c.args.line.now.length))) t_is ∙ ap (λ (z : ℤ). int_div_euclid c.args.line.now.turn z) l_is in
    let r = c.rem_euclid-rest.ensures.value ∙ ap (λ (z : ℤ). int_rem_euclid z (to_z w128 (of_z w128 c.args.line.now.length))) t_is ∙ ap (λ (z : ℤ). int_rem_euclid c.args.line.now.turn z) l_is in
    let q_small : IsWithin (2 ^ 43) c.div_euclid-whole.result = subst (λ (z : ℤ). IsWithin (2 ^ 43) z) (sym q) (whole_within c.args.line.now.turn c.args.line.now.length c.args.line.now.low c.args.line.now.near) in
    let r_small : IsWithin (2 ^ 21) c.rem_euclid-rest.result = subst (λ (z : ℤ). IsWithin (2 ^ 21) z) (sym r) (rest_within (2 ^ 21) c.args.line.now.turn c.args.line.now.length c.args.line.now.low c.args.line.now.small) in
    read _ _ c.joined.ensures.small (lit< tt) ∙ c.joined.ensures.value
    ∙ joined_is _ _ _ _ c.args.line.now.turn c.args.line.now.length c.args.v (read _ _ q_small (lit< tt) ∙ q) (read _ _ r_small (lit< tt) ∙ r)
    (read _ _ c.requires.v_small (lit< tt)) l_is c.args.line.now.low
