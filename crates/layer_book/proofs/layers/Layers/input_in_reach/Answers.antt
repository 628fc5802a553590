use Rattle.std.proofs.Common.{◌∙◌, ap, map}
use Rattle.overlay_terms.proofs.KeptDerived.{derived_stands}
use Rattle.layer_book.proofs.MarkedLayers.{rings_of}
use Rattle.layer_book.proofs.InputReach.{bases_counted, input_ok}
use Rattle.layer_book.proofs.layers.Layers.input_in_reach.Goals as goal

pub reach-wanted-requires : goal.reach-wanted-requires
reach-wanted-requires c = derived_stands c.args.self.now c.args.name.now c.requires

pub wanted_steps-requires-clause-standing : goal.wanted_steps-requires-clause-standing
wanted_steps-requires-clause-standing c = derived_stands c.args.self.now c.args.name.now c.requires

pub of-requires : goal.of-requires
of-requires c =
    bases_counted (λ b. b.now) c.args.self.now c.args.name.now c.deref.result.now c.in_ok-steps.steps
    (ap (map (λ b. b.now)) c.deref.ensures.value ∙ (c.in_ok-reached.ensures ∙ ap rings_of c.reach-wanted.ensures.exactly)) c.in_ok-steps.ensures

pub returns : goal.returns
returns c =
    input_ok c.args.self.now c.args.name.now c.args.column (map (λ b. b.now) c.deref.result.now) c.in_ok-steps.steps c.of.result
    (ap (map (λ b. b.now)) c.deref.ensures.value ∙ (c.in_ok-reached.ensures ∙ ap rings_of c.reach-wanted.ensures.exactly)) c.in_ok-steps.ensures c.of.ensures
