use Rattle.std.proofs.Common.{sym, ◌∙◌}
use Rattle.std.proofs.lemmas.List.{length-map}
use Rattle.layer_book.specs.Command.{command}
use Rattle.script_form.proofs.OpenBatchLemmas.{pushed, refused}
use Rattle.script_form.proofs.joining.push_next.Goals as goal

pub returns-in-Ok-push-clause-reads : goal.returns-in-Ok-push-clause-reads
returns-in-Ok-push-clause-reads c = λ requests read. pushed requests _ _ _ _ c.in-Ok-push.ensures.items read c.in-Ok.ensures.ok

pub returns-in-Err-clause-reads : goal.returns-in-Err-clause-reads
returns-in-Err-clause-reads c = λ requests read.
    refused requests _ _ _ _ _ c.unread.ensures c.in-Err.ensures.refused read (sym c.requires ∙ sym (length-map c.args.commands.items command))
