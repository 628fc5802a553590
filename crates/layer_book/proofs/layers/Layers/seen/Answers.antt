use Rattle.std.proofs.Common.{arith, ap, ◌∙◌}
use Rattle.exact_point.specs.Place.{place}
use Rattle.layer_book.specs.Question.{IsInside, IsEdge, at_index}
use Rattle.layer_book.proofs.Wanted.{wanted_answer}
use Rattle.layer_book.proofs.layers.Layers.seen.Goals as goal

pub returns-clause-inside : goal.returns-clause-inside
returns-clause-inside c =
    let book = c.reach_of-wanted.ensures.valid in
    let known = c.answers-known.result.inside in
    λ name at. c.known_at.ensures ∙ ap (at_index known) at.1
    ∙ wanted_answer IsInside (place c.args.point.now) c.args.self.now c.reach_of-wanted.result known name book.sound.orderly (omega (arith, book.sound.few, c.reach_of-wanted.ensures.room)) c.reach_of-wanted.ensures.closed at.0 (c.reach_of-wanted.ensures.asked name at) c.answers-known.ensures.inside

pub returns-clause-edge : goal.returns-clause-edge
returns-clause-edge c =
    let book = c.reach_of-wanted.ensures.valid in
    let known = c.answers-known.result.edge in
    λ name at. c.known_at-2.ensures ∙ ap (at_index known) at.1
    ∙ wanted_answer IsEdge (place c.args.point.now) c.args.self.now c.reach_of-wanted.result known name book.sound.orderly (omega (arith, book.sound.few, c.reach_of-wanted.ensures.room)) c.reach_of-wanted.ensures.closed at.0 (c.reach_of-wanted.ensures.asked name at) c.answers-known.ensures.edge
