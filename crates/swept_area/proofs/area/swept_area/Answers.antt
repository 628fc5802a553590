use Rattle.std.proofs.Common.{◌≡◌, ℤ, ◌+ℤ◌, ◌+◌, lit<, ap, sym, subst, ◌∙◌, arith, to_z-of_z, FitsSigned}
use Rattle.std.specs.Int.{w128}
use Rattle.overlay_terms.proofs.Bounds.{read}
use Rattle.swept_area.specs.Swept.{signed_of}
use Rattle.swept_area.specs.Pieces.{sided_from}
use Rattle.swept_area.proofs.AreaLemmas.{one_more}
use Rattle.swept_area.proofs.area.swept_area.Goals as goal

added : (x y a b : ℤ) → x ≡ a → y ≡ b → x +ℤ y ≡ a +ℤ b
added x y a b e f = ap (λ (z : ℤ). z +ℤ y) e ∙ ap (λ (z : ℤ). a +ℤ z) f

pub loop-piece-preserved : goal.loop-piece-preserved
loop-piece-preserved c =
    let sum = c.in-Some.ensures in
    let here = c.loop-piece-test.true in
    to_z-of_z (subst (λ (z : ℤ). FitsSigned w128 z) (sym sum.1) sum.0) ∙ sum.1
    ∙ added _ _ _ _ c.loop-piece.invariant
    (read _ _ c.swept.ensures.small (lit< tt) ∙ c.swept.ensures.value ∙ ap (λ p. signed_of (sided_from c.args.by.now p)) c.piece-item.is)
    ∙ sym (one_more c.args.by.now c.args.pieces.now c.loop-piece.piece-index c.piece-item.result here)

pub returns-in_default-clause-none : goal.returns-in_default-clause-none
returns-in_default-clause-none c =
    let here = c.loop-piece-test.true in
    let sum = added _ _ _ _ c.loop-piece.invariant
    (read _ _ c.swept.ensures.small (lit< tt) ∙ c.swept.ensures.value ∙ ap (λ p. signed_of (sided_from c.args.by.now p)) c.piece-item.is)
    ∙ sym (one_more c.args.by.now c.args.pieces.now c.loop-piece.piece-index c.piece-item.result here) in
    λ _. (c.loop-piece.piece-index + 1, omega (arith, here), λ fits. c.in_default.ensures (subst (λ (z : ℤ). FitsSigned w128 z) (sym sum) fits))
