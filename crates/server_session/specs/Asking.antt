-- What the lines of a script ask a session to change.
use Rattle.std.specs.Prelude.{◌≡◌, ℕ, List, [], ◌∷◌, Option, Some, None, Contains}
use Rattle.overlay_terms.specs.Commands.{Command}
use Rattle.overlay_terms.specs.Batches.{Batch}
use Rattle.script_form.specs.BatchLines.{AreCommandsOf, IsCommandOf}
use Rattle.script_form.specs.Lines.{whole_lines}
use Rattle.script_form.specs.OpenBatch.{IsOpen}
use Rattle.script_form.specs.Requests.{Request, request_of}
use Rattle.script_form.specs.Turns.{Turn, Waiting, alone, together, cut_off, ended_by, all_turns_of}
use Rattle.script_form.specs.declared.open_batch.OpenBatch.{OpenBatch}
use Rattle.server_session.specs.SessionState.{HasTaken, turns_ended, turns_at_end}
use Rattle.server_session.specs.declared.session_state.SessionState.{SessionState}

-- the commands that a turn asks for: a line alone for its own, a batch for those of all its lines, one that is cut off
-- for none
abbrev pub AsksFor : Turn → Batch → Type 0
AsksFor (alone request) commands = (command : Command) × IsCommandOf request command × (commands ≡ command ∷ [])
AsksFor (together requests) commands = AreCommandsOf requests commands
AsksFor (cut_off requests) commands = ⊥

-- the commands that one of these turns asks for
abbrev pub OneAsksFor : List Turn → Batch → Type 0
OneAsksFor turns commands = (turn : Turn) × Contains turns turn × AsksFor turn commands

-- those that a script asks for; where nobody knows its bytes, any
abbrev pub ScriptAsksFor : Option (List ℕ) → Batch → Type 0
ScriptAsksFor None commands = Unit {0}
ScriptAsksFor (Some bytes) commands = OneAsksFor (all_turns_of (whole_lines bytes)) commands

-- what a script asks for may be submitted
abbrev pub MayAskAll : (Batch → Type 0) → Option (List ℕ) → Type 0
MayAskAll asked script = (commands : Batch) → ScriptAsksFor script commands → asked commands

-- what these turns ask for may be submitted
abbrev pub MayAsk : (Batch → Type 0) → List Turn → Type 0
MayAsk asked turns = (commands : Batch) → OneAsksFor turns commands → asked commands

-- what a line alone asks for
abbrev pub MayAskAlone : (Batch → Type 0) → Request → Type 0
MayAskAlone asked request = (command : Command) → IsCommandOf request command → asked (command ∷ [])

-- what a line asks for with those of the batch that waits, if it is their last
abbrev pub MayAskAtLine : (Batch → Type 0) → Option OpenBatch → List ℕ → Type 0
MayAskAtLine asked open_before line = (waiting : Option Waiting) × IsOpen waiting open_before × MayAsk asked (ended_by waiting (request_of line))

-- what the turns ask for that the next bytes of a session on its way end
abbrev pub MayAskNext : (Batch → Type 0) → SessionState → List ℕ → Type 0
MayAskNext asked state bytes = (taken : List ℕ) × HasTaken state taken × MayAsk asked (turns_ended taken bytes)

-- and those that the end of its script ends
abbrev pub MayAskLast : (Batch → Type 0) → SessionState → Type 0
MayAskLast asked state = (taken : List ℕ) × HasTaken state taken × MayAsk asked (turns_at_end taken)
