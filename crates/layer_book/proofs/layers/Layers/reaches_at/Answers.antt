use Rattle.std.proofs.Common.{Some, ap, sym, ◌∙◌}
use Rattle.layer_book.specs.Layer.{content}
use Rattle.layer_book.specs.Question.{labelled}
use Rattle.layer_book.proofs.Answering.{edge_by_index}
use Rattle.layer_book.proofs.ReachingLemmas.{expression_tells}
use Rattle.layer_book.proofs.layers.Layers.reaches_at.Goals as goal

pub returns-else-eq : goal.returns-else-eq
returns-else-eq c =
    let layers = c.args.self.now in
    let known = c.args.known.now in
    let own = c.in-Some-default-Derived.own.now in
    let expression = c.in-Some-default-Derived.expression.value in
    expression_tells c.args.name.now own (labelled layers known) expression layers c.args.i c.node_edge.result
    (ap (λ l. Some (record { name = own; content = content l })) (sym c.in-Some-default-Derived.field-0-1-is) ∙ c.in-Some-default-Derived.ensures)
    (sym c.eq-in-Some-default-Derived.ensures ∙ c.if-eq.false)
    (c.node_edge.ensures ∙ edge_by_index layers known c.requires _ expression (c.root.ensures.value ∙ c.deref.ensures))
