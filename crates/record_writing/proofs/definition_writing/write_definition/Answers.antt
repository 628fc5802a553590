use Rattle.std.proofs.Common.{refl, ◌∙◌, ap}
use Rattle.std.proofs.lemmas.Result.{IfOk-weaker}
use Rattle.store_terms.specs.DefinitionRecord.{definition_of_record}
use Rattle.store_terms.proofs.RecordLemmas.{definition_is_its_text}
use Rattle.record_writing.proofs.definition_writing.write_definition.Goals as goal

pub returns-clause-reads_back : goal.returns-clause-reads_back
returns-clause-reads_back c =
    IfOk-weaker c.write_expr.result _ _
    (λ text is. ap definition_of_record is
    ∙ (definition_is_its_text _ c.args.expression.now).1 (c.root.ensures.valid, refl)) c.write_expr.ensures
