-- Why a batch is refused, and why not.
use Rattle.std.specs.Prelude.{◌≡◌, Option, Some, None}
use Rattle.std.specs.Option.{option_map}
use Rattle.std.proofs.Common.{refl}
use Rattle.overlay_terms.specs.Batches.{BatchRefusal}
use Rattle.layer_book.specs.BatchFault.{batch_fault_of}

-- a refusal that is not there is reported by no fault
pub no_batch_reason : (reason : Option BatchRefusal) → None ≡ option_map batch_fault_of reason → reason ≡ None
no_batch_reason None e = refl
no_batch_reason (Some reason) e = absurd (cc)
