-- Batches of the code that wait for lines, and what a line makes of them.
use Rattle.std.specs.Prelude.{◌≡◌, ℕ, [], ◌∷◌, ◌++◌}
use Rattle.std.specs.Prelude.{Bool, true, false, List, map, length, Option, Some, None, Result, Ok, Err, Vec}
use Rattle.overlay_terms.specs.Batches.{Batch}
use Rattle.layer_book.specs.Command.{command}
use Rattle.layer_book.specs.declared.command.Command.{Command}
use Rattle.script_form.specs.declared.fault.CommandFault.{CommandFault}
use Rattle.script_form.specs.BatchLines.{AreCommandsOf, IsFirstUnread}
use Rattle.script_form.specs.Requests.{Request, request}
use Rattle.script_form.specs.Turns.{Turn, alone, together, Waiting, with_line, is_full, waiting_after, ended_by}
use Rattle.script_form.specs.declared.open_batch.OpenBatch.{OpenBatch}
use Rattle.script_form.specs.declared.joining.Joined.{Joined}
use Rattle.script_form.specs.declared.joining.Joined.TheVariants as joined
use Rattle.script_form.specs.declared.open_batch.LinesFault.{LinesFault}
use Rattle.script_form.specs.declared.open_batch.LinesFault.TheVariants.{Unread, OutOfMemory}
use Rattle.script_form.specs.declared.line_turn.LineTurn.{LineTurn}
use Rattle.script_form.specs.declared.line_turn.LineTurn.TheVariants.{Waits, Alone, Whole}

-- why lines are not read: for the first that is no command; or memory ran out for one
abbrev pub AreUnread : List Request → LinesFault → Type 0
AreUnread requests (Unread place fault) = IsFirstUnread requests place fault
AreUnread requests OutOfMemory = Unit {0}

-- all lines of a batch were read as a batch, or not
abbrev pub AreRead : List Request → Result Batch LinesFault → Type 0
AreRead requests (Ok batch) = AreCommandsOf requests batch
AreRead requests (Err fault) = AreUnread requests fault

-- a command for each line so far, or the fault
abbrev pub AreReadSoFar : {Z : Type 0} → List Request → Result (Vec Command Z) LinesFault → Type 0
AreReadSoFar requests (Ok commands) = AreCommandsOf requests (map command commands.items)
AreReadSoFar requests (Err fault) = AreUnread requests fault

-- the code's batch is this one
pub record IsOpenBatch (waiting : Waiting) (open_batch : OpenBatch) : Type 0 where
  pub same_size : open_batch.size ≡ waiting.size
  pub as_many : open_batch.came ≡ length waiting.came
  pub read : AreReadSoFar waiting.came open_batch.read

-- the code's batch is the one that waits, if one does
abbrev pub IsOpen : Option Waiting → Option OpenBatch → Type 0
IsOpen None None = Unit {0}
IsOpen (Some waiting) (Some open_batch) = IsOpenBatch waiting open_batch
IsOpen waiting open_batch = ⊥

-- the turn that a line ended, if it ended one
abbrev pub IsEnded : List Turn → LineTurn → Type 0
IsEnded turns Waits = turns ≡ []
IsEnded turns (Alone asked) = turns ≡ alone (request asked) ∷ []
IsEnded turns (Whole read) = (requests : List Request) × (turns ≡ together requests ∷ []) × AreRead requests read

-- a line is taken: which batch waits then, and which turn ended
pub record IsLineGathered (waiting : Option Waiting) (asked : Request) (new : Option OpenBatch)
    (turn : LineTurn) : Type 0 where
  pub open_then : IsOpen (waiting_after waiting asked) new
  pub ended : IsEnded (ended_by waiting asked) turn

abbrev pub TakesLine : Option OpenBatch → Request → Option OpenBatch → LineTurn → Type 0
TakesLine old asked new turn = (waiting : Option Waiting) → IsOpen waiting old → IsLineGathered waiting asked new turn

-- what a line of a batch makes of it: the batch with this line waits for more, or all of its lines came
abbrev pub IsJoined : Waiting → Joined → Type 0
IsJoined waiting (joined.Waits open_batch) = (is_full waiting ≡ false) × IsOpenBatch waiting open_batch
IsJoined waiting (joined.Whole read) = (is_full waiting ≡ true) × AreRead waiting.came read

abbrev pub Joins : OpenBatch → Request → Joined → Type 0
Joins old asked result = (waiting : Waiting) → IsOpenBatch waiting old → IsJoined (with_line waiting asked) result

-- one line more is read
abbrev pub ReadsNext : {Y Z : Type 0} → Result (Vec Command Y) LinesFault → Request → Result (Vec Command Z) LinesFault
    → Type 0
ReadsNext read asked result =
    (requests : List Request) → AreReadSoFar requests read → AreReadSoFar (requests ++ asked ∷ []) result

-- one line more is read after commands
abbrev pub ReadsAfter : {Z : Type 0} → Batch → Request → Result (Vec Command Z) LinesFault → Type 0
ReadsAfter commands asked result =
    (requests : List Request) → AreCommandsOf requests commands → AreReadSoFar (requests ++ asked ∷ []) result

-- what was read, as a batch
abbrev pub ReadsAll : {Z : Type 0} → Result (Vec Command Z) LinesFault → Result Batch LinesFault → Type 0
ReadsAll read result = (requests : List Request) → AreReadSoFar requests read → AreRead requests result

-- the fault of a line, by whether it is that of memory
abbrev pub unread : Bool → ℕ → CommandFault → LinesFault
unread true place fault = OutOfMemory
unread false place fault = Unread place fault
