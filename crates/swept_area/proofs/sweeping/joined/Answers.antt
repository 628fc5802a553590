use Rattle.std.proofs.Common.{◌≡◌, ℤ, pos, ◌^◌, ◌<ℤ◌, lit<, ap, sym, subst, ◌∙◌, to_z, of_z}
use Rattle.std.specs.Int.{w128, int_div_euclid}
use Rattle.overlay_terms.specs.Within.{IsWithin}
use Rattle.overlay_terms.proofs.Bounds.{Reads, read, reads, mul_reads}
use Rattle.exact_point.proofs.MiddleLemmas.{add_fits, add_reads}
use Rattle.swept_area.proofs.Floors.{quotient_within}
use Rattle.swept_area.proofs.sweeping.joined.Goals as goal

-- what a quotient reads as
quotient_reads : (q e d a l : ℤ) → q ≡ int_div_euclid e d → e ≡ a → d ≡ l → pos 0 <ℤ l → IsWithin (2 ^ 103) a → Reads (2 ^ 103) (to_z w128 (of_z w128 q)) (int_div_euclid a l)
quotient_reads q e d a l is same_a same_l h k =
    let whole : q ≡ int_div_euclid a l = is ∙ ap (λ (z : ℤ). int_div_euclid z d) same_a ∙ ap (λ (z : ℤ). int_div_euclid a z) same_l in
    let small : IsWithin (2 ^ 103) q = subst (λ (z : ℤ). IsWithin (2 ^ 103) z) (sym whole) (quotient_within (2 ^ 103) a l h k) in
    record { is = read (2 ^ 103) q small (lit< tt) ∙ whole; within = quotient_within (2 ^ 103) a l h k }

pub overflow_add-result : goal.overflow_add-result
overflow_add-result c =
    let wv = mul_reads (reads _ _ c.requires.whole_small (lit< tt)) (reads _ _ c.requires.v_small (lit< tt)) (lit< tt) in
    let rv = mul_reads (reads _ _ c.requires.rest_small (lit< tt)) (reads _ _ c.requires.v_small (lit< tt)) (lit< tt) in
    add_fits wv (quotient_reads _ _ _ _ _ c.div_euclid.ensures rv.is (read _ _ c.requires.length_small (lit< tt)) c.requires.low rv.within) (lit< tt)

pub returns-clause-value : goal.returns-clause-value
returns-clause-value c =
    let wv = mul_reads (reads _ _ c.requires.whole_small (lit< tt)) (reads _ _ c.requires.v_small (lit< tt)) (lit< tt) in
    let rv = mul_reads (reads _ _ c.requires.rest_small (lit< tt)) (reads _ _ c.requires.v_small (lit< tt)) (lit< tt) in
    (add_reads wv (quotient_reads _ _ _ _ _ c.div_euclid.ensures rv.is (read _ _ c.requires.length_small (lit< tt)) c.requires.low rv.within) (lit< tt)).is

pub returns-clause-small : goal.returns-clause-small
returns-clause-small c =
    let wv = mul_reads (reads _ _ c.requires.whole_small (lit< tt)) (reads _ _ c.requires.v_small (lit< tt)) (lit< tt) in
    let rv = mul_reads (reads _ _ c.requires.rest_small (lit< tt)) (reads _ _ c.requires.v_small (lit< tt)) (lit< tt) in
    let all = add_reads wv (quotient_reads _ _ _ _ _ c.div_euclid.ensures rv.is (read _ _ c.requires.length_small (lit< tt)) c.requires.low rv.within) (lit< tt) in
    rw all.is all.within
