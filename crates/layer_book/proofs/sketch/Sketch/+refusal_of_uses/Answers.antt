use Rattle.std.proofs.Common.{ap, ◌∙◌}
use Rattle.std.specs.Option.{option_map}
use Rattle.overlay_terms.specs.Trees.{leaves}
use Rattle.overlay_terms.specs.Commands.{refusal_of_uses}
use Rattle.layer_expr.specs.Expr.{tree}
use Rattle.layer_book.specs.Fault.{fault_of}
use Rattle.layer_book.specs.Sketch.{sketched}
use Rattle.layer_book.proofs.Lookups.{on_left, on_right}
use Rattle.layer_book.proofs.sketch.Sketch.+refusal_of_uses.Goals as goal

pub returns-in-Some : goal.returns-in-Some
returns-in-Some t c =
    let layers = sketched c.args.self.now in
    let defined = c.args.defined.now in
    rw c.in-Combine.is (on_left layers defined (leaves (tree c.in-Combine.left.value)) (leaves (tree c.in-Combine.right.value)) c.in-Some.fault
    (c.in-Some.ensures ∙ ap (λ node. option_map fault_of (refusal_of_uses layers defined (leaves (tree node)))) c.deref.ensures))

pub returns-in-None : goal.returns-in-None
returns-in-None t c =
    let layers = sketched c.args.self.now in
    let defined = c.args.defined.now in
    rw c.in-Combine.is (on_right layers defined (leaves (tree c.in-Combine.left.value)) (leaves (tree c.in-Combine.right.value)) c.refusal_of_uses-in-None.result
    (c.in-None.ensures ∙ ap (λ node. option_map fault_of (refusal_of_uses layers defined (leaves (tree node)))) c.deref.ensures)
    (c.refusal_of_uses-in-None.ensures ∙ ap (λ node. option_map fault_of (refusal_of_uses layers defined (leaves (tree node)))) c.deref-in-None.ensures))
