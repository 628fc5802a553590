-- The faults of batches by their numbers.
use Rattle.std.proofs.Common.{◌≡◌, ℕ, ◌==◌, cond, true, List, Option, Some, None, refl, sym, ap, ◌∙◌, ◌⊎◌, inl, inr}
use Rattle.std.specs.Option.{option_map}
use Rattle.overlay_terms.specs.Batches.{Batch, BatchRefusal, at, whole, reason_of, batch_refusal_at}
use Rattle.overlay_terms.specs.Commands as terms
use Rattle.overlay_terms.specs.Commands.{Refusal}
use Rattle.overlay_terms.specs.Histories as versions
use Rattle.layer_book.specs.Fault.{fault_of}
use Rattle.layer_book.specs.BatchFault as batch_faults
use Rattle.layer_book.specs.declared.batch_fault.BatchFault.{BatchFault}
use Rattle.layer_book.specs.declared.batch_fault.BatchFault.TheVariants.{At, Whole}
use Rattle.layer_book.specs.declared.fault.LayerFault.TheVariants as layer
use Rattle.versions.specs.declared.fault.VersionFault.TheVariants.{Layer}
use Rattle.book_history.specs.Fault.{IsBatchRefused}
use Rattle.script_form.specs.Fault.{code_of}
use Rattle.script_form.specs.Replies.{error_line, refused_line}
use Rattle.script_form.specs.declared.fault.CommandFault.{CommandFault}
use Rattle.script_form.specs.declared.fault.CommandFault.TheVariants.{Version, OutOfMemory, Closing, Gone}
use Rattle.server_session.specs.Fault.{IsBatchFault, IsBatchNumber, IsNumbered}

-- by its number
abbrev pub fault_numbered : ℕ → CommandFault
fault_numbered code =
    cond (code == 10) (Version (Layer layer.UnknownLayer))
    (cond (code == 11) (Version (Layer layer.NotBase))
    (cond (code == 12) (Version (Layer layer.NotDerived))
    (cond (code == 13) (Version (Layer layer.LaterLayer))
    (cond (code == 14) (Version (Layer layer.InUse))
    (cond (code == 15) (Version (Layer layer.TooManyLayers))
    (cond (code == 16) (Version (Layer layer.VersionLimit))
    (cond (code == 43) Closing
    (cond (code == 44) Gone OutOfMemory))))))))

-- the bytes that say why a batch is refused
abbrev pub batch_fault_text : BatchFault → List ℕ
batch_fault_text (At place code) = refused_line place (fault_numbered code)
batch_fault_text (Whole code) = error_line (fault_numbered code)

pub numbered_reason : (reason : Refusal) → fault_numbered (batch_faults.code_for reason) ≡ Version (Layer (fault_of reason))
numbered_reason terms.unknown_layer = refl
numbered_reason terms.not_base = refl
numbered_reason terms.not_derived = refl
numbered_reason terms.later_layer = refl
numbered_reason terms.in_use = refl
numbered_reason terms.too_many_layers = refl
numbered_reason terms.version_limit = refl

-- no other has its number
by_number : (fault : CommandFault) → IsBatchFault fault → fault ≡ fault_numbered (code_of fault)
by_number fault (inl (reason, is)) = is ∙ sym (numbered_reason reason) ∙ ap (λ (f : CommandFault). fault_numbered (code_of f)) (sym is)
by_number fault (inr (inl is)) = is ∙ ap (λ (f : CommandFault). fault_numbered (code_of f)) (sym is)
by_number fault (inr (inr (inl is))) = is ∙ ap (λ (f : CommandFault). fault_numbered (code_of f)) (sym is)
by_number fault (inr (inr (inr is))) = is ∙ ap (λ (f : CommandFault). fault_numbered (code_of f)) (sym is)

pub is_numbered : (code : ℕ) (fault : CommandFault) → IsNumbered code fault → fault ≡ fault_numbered code
is_numbered code fault numbered = by_number fault numbered.one_of ∙ ap fault_numbered numbered.number

-- the fault of a refusal has its number
numbered_refusal : (code : ℕ) (reason : Refusal) (fault : CommandFault) → fault ≡ Version (Layer (fault_of reason)) → code ≡ batch_faults.code_for reason → IsNumbered code fault
numbered_refusal code reason fault is number = record { one_of = inl (reason, is); number = ap code_of is ∙ sym number }

numbered_closing : (code : ℕ) → code ≡ 43 → IsNumbered code Closing
numbered_closing code number = record { one_of = inr (inl refl); number = sym number }

numbered_gone : (code : ℕ) → code ≡ 44 → IsNumbered code Gone
numbered_gone code number = record { one_of = inr (inr (inl refl)); number = sym number }

numbered_memory : (code : ℕ) → code ≡ 40 → IsNumbered code OutOfMemory
numbered_memory code number = record { one_of = inr (inr (inr refl)); number = sym number }

-- what a refusal of a batch is reported by
pub batch_reported : (o : Option BatchRefusal) (fault : BatchFault) → option_map batch_faults.batch_fault_of o ≡ Some fault
    → (refusal : BatchRefusal) × (o ≡ Some refusal) × (fault ≡ batch_faults.batch_fault_of refusal)
batch_reported None fault e = absurd (cc)
batch_reported (Some refusal) fault e = (refusal, refl, cc)

-- the fault of a batch has a number of one of them
pub batch_number : (version : versions.Version) (commands : Batch) (fault : BatchFault) → IsBatchRefused true version commands fault → IsBatchNumber (batch_faults.code_of fault)
batch_number version commands fault (inl gone) = (Gone, numbered_gone _ (ap batch_faults.code_of gone))
batch_number version commands fault (inr (inl closing)) = (Closing, numbered_closing _ (ap batch_faults.code_of closing.1))
batch_number version commands fault (inr (inr (inl memory))) = (OutOfMemory, numbered_memory _ (ap batch_faults.code_of memory.0))
batch_number version commands fault (inr (inr (inr by))) =
    let r = batch_reported (batch_refusal_at version.number version.layers commands) fault by in
    let reason = reason_of r.0 in
    (Version (Layer (fault_of reason)), numbered_refusal _ reason (Version (Layer (fault_of reason))) refl (ap batch_faults.code_of r.2 ∙ code_of_refusal r.0)) where
      code_of_refusal : (refusal : BatchRefusal) → batch_faults.code_of (batch_faults.batch_fault_of refusal) ≡ batch_faults.code_for (reason_of refusal)
      code_of_refusal (at place reason) = refl
      code_of_refusal (whole reason) = refl
