use Rattle.std.proofs.Common.{sym, ap, ◌∙◌}
use Rattle.overlay_terms.specs.Trees.{definition}
use Rattle.layer_expr.proofs.NameNumbers.{source_among-found, source_among-passed}
use Rattle.layer_expr.proofs.step_list.source_named.Goals as goal

pub returns-in-Some : goal.returns-in-Some
returns-in-Some c = sym (source_among-found c.args.name.now c.args.layers.now c.in-Some.number (sym c.in-Some.ensures.place))

pub returns-in-None : goal.returns-in-None
returns-in-None c =
    ap definition c.definition_number.ensures.place ∙ sym (source_among-passed c.args.name.now c.args.layers.now (sym c.in-None.ensures.place))
