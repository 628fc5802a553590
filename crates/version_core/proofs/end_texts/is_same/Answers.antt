use Rattle.std.proofs.Common.{◌≡◌, sym, ◌∙◌}
use Rattle.std.proofs.lemmas.Bool.Decides.{Decides-eqb}
use Rattle.overlay_terms.specs.SameInput.{same_segment-Decides}
use Rattle.exact_point.specs.declared.point_name.PointName.TheVariants.{Cross, Border}
use Rattle.version_core.proofs.end_texts.is_same.Goals as goal

pub returns-then-eq : goal.returns-then-eq
returns-then-eq c h =
    let names = c.in-Cross-Cross in
    let first : names.a ≡ names.c = (same_segment-Decides names.a names.c).0 (sym c.eq.ensures ∙ c.if-eq.true) in
    let second : names.b ≡ names.d = (same_segment-Decides names.b names.d).0 (sym c.eq-then-eq.ensures ∙ h) in
    names.is-0 ∙ (λ i. Cross (first i) (second i)) ∙ sym names.is-1

pub returns-then-eq-2 : goal.returns-then-eq-2
returns-then-eq-2 c h =
    let names = c.in-Border-Border in
    let cut : names.s ≡ names.t = (same_segment-Decides names.s names.t).0 (sym c.eq-in-Border-Border.ensures ∙ c.if-eq-2.true) in
    let column : names.k ≡ names.l = (Decides-eqb names.k names.l).0 h in
    names.is-0 ∙ (λ i. Border (cut i) (column i)) ∙ sym names.is-1
