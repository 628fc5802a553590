use Rattle.std.proofs.Common.{refl, ap, sym, ◌∙◌, ◌<◌, false, take, get_or, length, arith}
use Rattle.std.proofs.lemmas.Grind.{common_steps}
use Rattle.exact_point.specs.Place.{place}
use Rattle.layer_book.specs.Question.{IsInside, IsEdge, content_answer, labelled, if_wanted, content_at}
use Rattle.layer_book.proofs.Answering.{labelled-nil, table_more, table_whole}
use Rattle.layer_book.proofs.layers.Layers.answers.Goals as goal

pub loop-i-init : goal.loop-i-init
loop-i-init c = record { inside_room = refl; edge_room = refl; inside = sym (labelled-nil c.args.self.now); edge = sym (labelled-nil c.args.self.now) }

pub loop-i-preserved : goal.loop-i-preserved
loop-i-preserved c =
    let ws = c.args.wanted.now in
    let layers = c.args.self.now in
    let p = place c.args.point.now in
    let i = c.loop-i.i in
    let in_layers : i < length layers = omega (arith, c.len-i-end.ensures.value, c.loop-i-test.true) in
    let few : i < 32 = omega (arith, in_layers, c.len-i-end.ensures.valid.sound.few) in
    let in_marks : i < length ws = omega (arith, few, c.told-wanted) in
    record {
      inside_room = grind (arith, common_steps, c.loop-i.invariant.inside_room);
      edge_room = grind (arith, common_steps, c.loop-i.invariant.edge_room);
      inside = table_more IsInside ws layers p c.loop-i.inside i c.answer_at-seen.result.inside in_layers in_marks (omega (arith, c.loop-i.invariant.inside_room, few)) c.loop-i.invariant.inside (c.answer_at-seen.ensures.inside ∙ ap (λ q. content_answer IsInside q (labelled layers (take i c.loop-i.inside)) (if_wanted (get_or ws i false) (content_at layers i))) c.of-spot.ensures);
      edge = table_more IsEdge ws layers p c.loop-i.edge i c.answer_at-seen.result.edge in_layers in_marks (omega (arith, c.loop-i.invariant.edge_room, few)) c.loop-i.invariant.edge (c.answer_at-seen.ensures.edge ∙ ap (λ q. content_answer IsEdge q (labelled layers (take i c.loop-i.edge)) (if_wanted (get_or ws i false) (content_at layers i))) c.of-spot.ensures);
    }

pub returns-clause-inside : goal.returns-clause-inside
returns-clause-inside c =
    table_whole IsInside c.args.wanted.now c.args.self.now (place c.args.point.now) c.loop-i.inside c.loop-i.i (omega (arith, c.len-i-end.ensures.value)) (omega (arith, c.len-i-end.ensures.valid.sound.few, c.told-wanted)) c.loop-i.invariant.inside

pub returns-clause-edge : goal.returns-clause-edge
returns-clause-edge c =
    table_whole IsEdge c.args.wanted.now c.args.self.now (place c.args.point.now) c.loop-i.edge c.loop-i.i (omega (arith, c.len-i-end.ensures.value)) (omega (arith, c.len-i-end.ensures.valid.sound.few, c.told-wanted)) c.loop-i.invariant.edge
