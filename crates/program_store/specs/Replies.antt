-- What the place of replies holds.
use Rattle.std.specs.Prelude.{ℕ, List, Option}
use Rattle.program_store.specs.declared.replies.Replies.{Replies}
use Rattle.program_store.specs.declared.replies.Replies.TheVariants.{Output, File}

-- the bytes that were written to it, where they are known: just those of its output, or of its file
abbrev pub contents_of : {O F : Type 0} → (O → Option (List ℕ)) → (F → Option (List ℕ)) → Replies O F → Option (List ℕ)
contents_of of_output of_file (Output output) = of_output output
contents_of of_output of_file (File file) = of_file file
