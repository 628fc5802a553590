-- How a run ends: what its sessions, its replies and its store come to.
use Rattle.std.specs.Prelude.{ℕ, List, Bool, true, false, not, ◌&&◌, ◌||◌, nat_eq, nat_le, if◌then◌else◌}
use Rattle.std.specs.Prelude.{Option, Some, None, Result, Ok, Err, is_some}
use Rattle.std.specs.Arc.{arc_value}
use Rattle.std.specs.List.{list_all}
use Rattle.program_words.specs.declared.keeping.Keeping.{Keeping}
use Rattle.program_words.specs.declared.keeping.Opening.{Opening}
use Rattle.program_words.specs.declared.keeping.Opening.TheVariants.{ReadOnly}
use Rattle.commit_plan.specs.declared.fault.StoreFault.{StoreFault}
use Rattle.commit_plan.specs.declared.fault.StoreFault.TheVariants as store
use Rattle.script_form.specs.declared.session_end.SessionEnd.{SessionEnd}
use Rattle.script_form.specs.declared.session_end.SessionEnd.TheVariants.{End, Failed}
use Rattle.session_threads.specs.Running.{was_begun}
use Rattle.session_threads.specs.declared.port.Finished.{Finished}
use Rattle.store_flushing.specs.declared.closed.Closed.{Closed}
use Rattle.program_store.specs.declared.ending.Ends.{Ends}
use Rattle.program_store.specs.declared.fault.ProgramFault.{ProgramFault}
use Rattle.program_store.specs.declared.fault.ProgramFault.TheVariants.{OutOfMemory, Store, Words, Write}

-- a script was read to its end
abbrev pub is_end : SessionEnd → Bool
is_end End = true
is_end (Failed code) = false

-- a session's replies could be written
abbrev pub was_written : SessionEnd → Bool
was_written End = true
was_written (Failed code) = not (nat_eq code 49)

-- how all sessions ended
abbrev pub ends_of : {W : Type 0} → List (Finished W) → Ends
ends_of all = record {
  at_end = list_all (λ one. is_end one.end) all;
  run = list_all (λ one. was_begun one.end) all;
  written = list_all (λ one. was_written one.end) all;
}

-- what a run comes to: the store's fault, that replies could not be printed, a fault of a session that no reply reports
-- (it was not run, or its replies could not be written), the first that applies; else whether the newest version is
-- stored and each script was read to its end
abbrev pub conclusion : Result Bool ProgramFault → Bool → Ends → Result Bool ProgramFault
conclusion (Err fault) printed ends = Err fault
conclusion (Ok stored) printed ends =
    if not printed then Err Write else (if not ends.run then Err OutOfMemory
    else (if not ends.written then Err Write else Ok (stored && ends.at_end)))

-- the exit status of a run: 0 where nothing is missing; wrong words have one of their own
abbrev pub exit_status : Result Bool ProgramFault → ℕ
exit_status (Ok true) = 0
exit_status (Err Words) = 2
exit_status other = 1

-- nothing is kept of what is only read
abbrev pub is_read_only : Opening → Bool
is_read_only ReadOnly = true
is_read_only other = false

-- all is where the words have it: in memory alone where they name no store, or in the store, which has the newest
-- version
abbrev pub is_kept : {D : Type 0} → Keeping → Closed D → Bool
is_kept keeping closed =
    is_read_only keeping.opening || not (is_some keeping.store)
    || nat_le (arc_value closed.version).number closed.stored

-- what is reported where the newest version is not stored: the store's fault, if it has one; of a store that failed,
-- the device's fault that it failed by
abbrev pub unstored : Option StoreFault → Result Bool ProgramFault
unstored None = Ok false
unstored (Some store.Failed) = Err (Store store.Device)
unstored (Some fault) = Err (Store fault)

-- whether the newest version is where it is to be, and the store's fault where it reported one
abbrev pub kept_by : {D : Type 0} → Keeping → Closed D → Result Bool ProgramFault
kept_by keeping closed = if is_kept keeping closed then Ok true else unstored closed.fault
