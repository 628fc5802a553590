-- The faults of batches: their numbers, how replies begin with them, and which fault each refusal of a batch is.
use Rattle.std.specs.Prelude.{ℕ, List, ◌++◌, codes, decimal, Option}
use Rattle.std.specs.Option.{option_map}
use Rattle.overlay_terms.specs.Commands.{Refusal}
use Rattle.overlay_terms.specs.Batches.{BatchRefusal, at, whole}
use Rattle.layer_book.specs.Fault as layer
use Rattle.layer_book.specs.declared.batch_fault.BatchFault.{BatchFault}
use Rattle.layer_book.specs.declared.batch_fault.BatchFault.TheVariants.{At, Whole}

-- the number under which a fault is printed
abbrev pub code_of : BatchFault → ℕ
code_of (At place code) = code
code_of (Whole code) = code

-- how a reply begins: with the place of the command, if the fault is one's, then the number
abbrev pub text_of : BatchFault → List ℕ
text_of (At place code) = codes "refused " ++ (decimal place ++ (codes " error " ++ decimal code))
text_of (Whole code) = codes "error " ++ decimal code

-- the number that a refusal is reported by
abbrev pub code_for : Refusal → ℕ
code_for reason = layer.code_of (layer.fault_of reason)

-- the fault that the refusal of a batch is reported by
abbrev pub batch_fault_of : BatchRefusal → BatchFault
batch_fault_of (at place reason) = At place (code_for reason)
batch_fault_of (whole reason) = Whole (code_for reason)

-- the batch with this reason is refused by the fault that follows: the reason's, or where there is none, by 40
abbrev pub RefusedAllBy : Option BatchRefusal → BatchFault → Type 0
RefusedAllBy reason = layer.RefusedBy (Whole 40) (option_map batch_fault_of reason)
