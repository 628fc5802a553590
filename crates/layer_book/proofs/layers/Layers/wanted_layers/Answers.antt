use Rattle.std.proofs.Common.{◌∙◌, ◌<◌, ◌∷◌, [], sym, ap, map, take, length, refl, ◌++◌, arith}
use Rattle.std.proofs.lemmas.Grind.{common_steps}
use Rattle.std.proofs.lemmas.List.{map-append, take_more_set}
use Rattle.layer_expr.specs.StepList.{reached, reached_of}
use Rattle.layer_book.proofs.MarkedLayers.{marked_layers-nil, reached_more, marked_same, marked_whole, read_mark}
use Rattle.layer_book.proofs.Lines.{none_there}
use Rattle.layer_book.proofs.layers.Layers.wanted_layers.Goals as goal
use Rattle.layer_book.proofs.layers.Layers.wanted_layers.Goals.{in-Some+then-wanted-i, in-Some+else-wanted-i, in_default}

pub loop-i-init : goal.loop-i-init
loop-i-init c = record { room = refl; few = omega arith; so_far = ap (map reached_of) (sym (marked_layers-nil c.args.wanted.now)) }

pub loop-i-preserved : goal.loop-i-preserved
loop-i-preserved c =
    let ws = c.args.wanted.now in
    let layers = c.args.self.now in
    let so_far = c.loop-i.layers in
    let count = c.loop-i.count in
    let in_layers : c.loop-i.i < length layers = omega (arith, c.len-i-end.ensures.value, c.loop-i-test.true) in
    let near : count < length so_far = omega (arith, in_layers, c.loop-i.invariant.few, c.loop-i.invariant.room, c.len-i-end.ensures.valid.sound.few) in
    elim c.match-at.branch [
      | in-Some+then-wanted-i w ↦
          rw (w.layers-is, w.count-is)
          (record {
            room = grind (arith, common_steps, c.loop-i.invariant.room);
            few = omega (arith, c.loop-i.invariant.few);
            so_far = reached_more ws layers c.loop-i.i _ _ _ (sym w.in-Some.ensures) (read_mark ws c.loop-i.i ∙ w.if-wanted-i.true) c.loop-i.invariant.so_far
                (ap reached (take_more_set so_far count w.with_expression.result near) ∙ map-append _ (take count so_far) (w.with_expression.result ∷ []) ∙ ap (λ one. reached (take count so_far) ++ one) w.with_expression.ensures);
          })
      | in-Some+else-wanted-i w ↦
          rw (w.layers-is, w.count-is)
          (record {
            room = c.loop-i.invariant.room;
            few = omega (arith, c.loop-i.invariant.few);
            so_far = c.loop-i.invariant.so_far ∙ ap (map reached_of) (sym (marked_same ws layers c.loop-i.i _ (sym w.in-Some.ensures) (read_mark ws c.loop-i.i ∙ w.if-wanted-i.false)));
          })
      | in_default w ↦ absurd (none_there layers c.loop-i.i (omega (arith, c.len-i-end.ensures.value)) w.in_default.ensures)
    ]

pub returns : goal.returns
returns c = record {
  layers = c.loop-i.invariant.so_far ∙ ap (map reached_of) (marked_whole c.args.wanted.now c.args.self.now c.loop-i.i (omega (arith, c.len-i-end.ensures.value)));
  few = omega (arith, c.loop-i.invariant.few, c.len-i-end.ensures.value, c.len-i-end.ensures.valid.sound.few);
}
