-- What a source of lines gives.
use Rattle.std.specs.Prelude.{ℕ, List, Option}
use Rattle.program_store.specs.declared.source.Source.{Source}
use Rattle.program_store.specs.declared.source.Source.TheVariants.{Input, File}

-- the bytes that a source has still to give, where they are known: just those of its input, or of its file
abbrev pub remaining_in : {I F : Type 0} → (I → Option (List ℕ)) → (F → Option (List ℕ)) → Source I F → Option (List ℕ)
remaining_in of_input of_file (Input input) = of_input input
remaining_in of_input of_file (File file) = of_file file
