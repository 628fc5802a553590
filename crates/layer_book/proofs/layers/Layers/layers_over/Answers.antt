use Rattle.std.proofs.Common.{refl, sym, ◌∙◌, ◌<◌, length, arith}
use Rattle.std.proofs.lemmas.Grind.{common_steps}
use Rattle.layer_book.proofs.Answering.{labelled-nil}
use Rattle.layer_book.proofs.ReachingLemmas.{none_reach, reaching_more, reaching_whole}
use Rattle.layer_book.proofs.layers.Layers.layers_over.Goals as goal

pub returns-then-not-stands-clause-marks : goal.returns-then-not-stands-clause-marks
returns-then-not-stands-clause-marks c = λ i layer e.
    none_reach c.args.name.now c.args.self.now layer.name 32 i (sym c.stands.ensures ∙ c.if-not-stands.true)

pub loop-i-init : goal.loop-i-init
loop-i-init c = record { room = refl; told = sym (labelled-nil c.args.self.now) }

pub loop-i-preserved : goal.loop-i-preserved
loop-i-preserved c =
    let in_layers : c.loop-i.i < length c.args.self.now = omega (arith, c.len-i-end.ensures.value, c.loop-i-test.true) in
    let few : c.loop-i.i < 32 = omega (arith, in_layers, c.len-i-end.ensures.valid.sound.few) in
    record {
      room = grind (arith, common_steps, c.loop-i.invariant.room);
      told = reaching_more c.args.name.now c.args.self.now c.loop-i.over c.loop-i.i c.reaches_at.result in_layers (omega (arith, c.loop-i.invariant.room, few)) c.loop-i.invariant.told c.reaches_at.ensures;
    }

pub returns-clause-marks : goal.returns-clause-marks
returns-clause-marks c = λ i layer e.
    reaching_whole c.args.name.now c.args.self.now c.loop-i.over c.loop-i.i i layer c.len-i-end.ensures.valid.sound.orderly (sym c.stands.ensures ∙ c.if-not-stands.false)
    (omega (arith, c.len-i-end.ensures.value)) c.loop-i.invariant.told e
