use Rattle.std.proofs.Common.{ℤ, pos, neg_ℤ, lit<, ap, sym, refl, subst, ◌∙◌, arith}
use Rattle.std.proofs.lemmas.Int.{ints}
use Rattle.overlay_terms.proofs.Bounds.{Reads, read, reads, sub_reads}
use Rattle.swept_area.specs.Swept.{length_of}
use Rattle.swept_area.specs.Pieces.{IsNearLine, segment_from}
use Rattle.swept_area.proofs.Farther.{rising_from}
use Rattle.swept_area.proofs.LineLemmas.{turn_rising, turn_falling, less_is_neg, near_turned}
use Rattle.swept_area.proofs.line.turn_from.Goals as goal

none : Reads 0 (pos 0) (pos 0)
none = record { is = refl; within = record { low = omega (arith, ints); high = omega (arith, ints) } }

pub returns-then-rises-clause-value : goal.returns-then-rises-clause-value
returns-then-rises-clause-value c =
    read _ _ c.cross_from-cross.ensures.small (lit< tt) ∙ c.cross_from-cross.ensures.value
    ∙ sym (turn_rising (segment_from c.args.by.now c.args.seg.now) (rising_from c.args.by.now c.args.seg.now ∙ sym c.rises.ensures ∙ c.if-rises.true))

pub returns-then-rises-clause-near : goal.returns-then-rises-clause-near
returns-then-rises-clause-near c =
    subst (λ (z : ℤ). IsNearLine z (length_of c.args.seg.now)) (sym (read _ _ c.cross_from-cross.ensures.small (lit< tt))) c.cross_from-cross.ensures.near

pub returns-clause-value : goal.returns-clause-value
returns-clause-value c =
    (sub_reads none (reads _ _ c.cross_from-cross.ensures.small (lit< tt)) (lit< tt)).is
    ∙ less_is_neg c.cross_from-cross.result ∙ ap neg_ℤ c.cross_from-cross.ensures.value
    ∙ sym (turn_falling (segment_from c.args.by.now c.args.seg.now) (rising_from c.args.by.now c.args.seg.now ∙ sym c.rises.ensures ∙ c.if-rises.false))

pub returns-clause-small : goal.returns-clause-small
returns-clause-small c =
    let all = sub_reads none (reads _ _ c.cross_from-cross.ensures.small (lit< tt)) (lit< tt) in
    rw all.is all.within

pub returns-clause-near : goal.returns-clause-near
returns-clause-near c =
    let all = sub_reads none (reads _ _ c.cross_from-cross.ensures.small (lit< tt)) (lit< tt) in
    subst (λ (z : ℤ). IsNearLine z (length_of c.args.seg.now)) (sym all.is)
    (near_turned c.cross_from-cross.result (length_of c.args.seg.now) c.cross_from-cross.ensures.near)
