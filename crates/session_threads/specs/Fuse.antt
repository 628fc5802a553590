-- A reader that gives nothing after its end.
use Rattle.std.specs.Prelude.{ℕ, Bool, List, [], Option, Some, if◌then◌else◌}
use Rattle.session_threads.specs.declared.fuse.Fuse.{Fuse}

-- whether its end has come
abbrev pub has_ended : {R : Type 0} → Fuse R → Bool
has_ended fused = fused.ended

-- the bytes that it has still to give, where they are known: none after its end, and before it those of the reader in it
abbrev pub until_end : {R : Type 0} → (R → Option (List ℕ)) → Fuse R → Option (List ℕ)
until_end remaining fused = if fused.ended then Some [] else remaining fused.reader
