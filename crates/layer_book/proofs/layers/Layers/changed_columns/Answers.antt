use Rattle.std.proofs.Common.{map, ap, sym, ◌∙◌}
use Rattle.overlay_terms.specs.Trees.{Steps}
use Rattle.overlay_terms.proofs.KeptDerived.{derived_stands}
use Rattle.overlay_terms.specs.SameInput.{same_steps, same_steps-Decides}
use Rattle.layer_book.proofs.InputReach.{bases_counted}
use Rattle.layer_book.proofs.TouchedLemmas.{steps_differ, marks_tell}
use Rattle.layer_book.proofs.layers.Layers.changed_columns.Goals as goal

pub steps_in_reach-requires : goal.steps_in_reach-requires
steps_in_reach-requires c = derived_stands c.args.self.now c.args.name.now c.requires.before

pub steps_in_reach-requires-2 : goal.steps_in_reach-requires-2
steps_in_reach-requires-2 c = derived_stands c.args.after.now c.args.name.now c.requires.afterwards

pub bases_in_reach-requires : goal.bases_in_reach-requires
bases_in_reach-requires c = derived_stands c.args.self.now c.args.name.now c.requires.before

pub bases_in_reach-requires-2 : goal.bases_in_reach-requires-2
bases_in_reach-requires-2 c = derived_stands c.args.after.now c.args.name.now c.requires.afterwards

pub returns-then-not-eq : goal.returns-then-not-eq
returns-then-not-eq c =
    steps_differ c.args.self.now c.args.after.now c.args.name.now
    (sym (c.eq.ensures ∙ (λ i. same_steps (c.in_ok-new_steps.ensures i) (c.in_ok-old_steps.ensures i))) ∙ c.if-not-eq.true)

pub changed_columns-requires : goal.changed_columns-requires
changed_columns-requires c =
    bases_counted (λ b. b.now) c.args.after.now c.args.name.now c.deref.result.now c.in_ok-new_steps.new_steps (ap (map (λ b. b.now)) c.deref.ensures.value ∙ c.in_ok-new_bases.ensures) c.in_ok-new_steps.ensures
    ∙ ap (λ (s : Steps). s.bases) ((same_steps-Decides c.in_ok-new_steps.new_steps c.in_ok-old_steps.old_steps).0 (sym c.eq.ensures ∙ c.if-not-eq.false))
    ∙ sym (bases_counted (λ b. b.now) c.args.self.now c.args.name.now c.deref-2.result.now c.in_ok-old_steps.old_steps (ap (map (λ b. b.now)) c.deref-2.ensures.value ∙ c.in_ok-old_bases.ensures) c.in_ok-old_steps.ensures)

pub returns : goal.returns
returns c =
    c.changed_columns.ensures
    ∙ marks_tell c.args.self.now c.args.after.now c.args.name.now (map (λ b. b.now) c.deref.result.now) (map (λ b. b.now) c.deref-2.result.now)
    (ap (map (λ b. b.now)) c.deref.ensures.value ∙ c.in_ok-new_bases.ensures) (ap (map (λ b. b.now)) c.deref-2.ensures.value ∙ c.in_ok-old_bases.ensures)
    (sym (c.eq.ensures ∙ (λ i. same_steps (c.in_ok-new_steps.ensures i) (c.in_ok-old_steps.ensures i))) ∙ c.if-not-eq.false)
