use Rattle.std.proofs.Common.{◌≡◌, ap, ◌∙◌, rules}
use Rattle.point_looks.specs.Spot.{point_of}
use Rattle.layer_book.specs.Layer.{content}
use Rattle.layer_book.specs.Question.{IsInside, IsEdge, content_answer, content_at, if_wanted, labelled}
use Rattle.layer_book.proofs.Answering.{inside_by_index, edge_by_index}
use Rattle.layer_book.proofs.layers.Layers.answer_at.Goals as goal

pub returns-in-Some-default-Derived-clause-inside : goal.returns-in-Some-default-Derived-clause-inside
returns-in-Some-default-Derived-clause-inside c =
    let layer = c.in-Some-default-Derived.field-0-1.now in
    let asked : content layer ≡ if_wanted c.args.wanted (content_at c.args.self.now c.args.i) = search rules in
    let answer : c.node_inside.result ≡ content_answer IsInside (point_of c.args.spot.now) (labelled c.args.self.now c.args.inside.now) (content layer) =
    rw c.in-Some-default-Derived.field-0-1-is
    (c.node_inside.ensures ∙ inside_by_index c.args.self.now c.args.inside.now c.requires.insides _ c.in-Some-default-Derived.expression.value (c.root.ensures.value ∙ c.deref-in-Some-default-Derived.ensures)) in
    answer ∙ ap (content_answer IsInside (point_of c.args.spot.now) (labelled c.args.self.now c.args.inside.now)) asked

pub returns-in-Some-default-Derived-clause-edge : goal.returns-in-Some-default-Derived-clause-edge
returns-in-Some-default-Derived-clause-edge c =
    let layer = c.in-Some-default-Derived.field-0-1.now in
    let asked : content layer ≡ if_wanted c.args.wanted (content_at c.args.self.now c.args.i) = search rules in
    let answer : c.node_edge.result ≡ content_answer IsEdge (point_of c.args.spot.now) (labelled c.args.self.now c.args.edge.now) (content layer) =
    rw c.in-Some-default-Derived.field-0-1-is
    (c.node_edge.ensures ∙ edge_by_index c.args.self.now c.args.edge.now c.requires.edges _ c.in-Some-default-Derived.expression.value (c.root-in-Some-default-Derived.ensures.value ∙ c.deref-in-Some-default-Derived-2.ensures)) in
    answer ∙ ap (content_answer IsEdge (point_of c.args.spot.now) (labelled c.args.self.now c.args.edge.now)) asked
