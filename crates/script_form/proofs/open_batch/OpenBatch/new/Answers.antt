use Rattle.std.proofs.Common.{refl, ap, ◌∙◌, w64}
use Rattle.std.proofs.lemmas.Int.{to_z-of_z}
use Rattle.script_form.specs.Turns.{asked_size}
use Rattle.script_form.proofs.OpenBatchLemmas.{begun, none_read}
use Rattle.script_form.proofs.open_batch.OpenBatch.new.Goals as goal

pub returns-in-Some : goal.returns-in-Some
returns-in-Some c =
    let size = c.batch_size.ensures.value ∙ ap asked_size (to_z-of_z w64 c.args.size c.ranges.size) in
    begun c.args.size _ _ _ c.in-Some.is size refl refl (none_read _ c.room.ensures.ok c.room.ensures.err)
