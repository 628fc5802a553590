-- A session on its way through its script: what it has taken, and what it appends to its writer as it takes more.
use Rattle.std.specs.Prelude.{◌≡◌, ℕ, Bool, List, ◌++◌, take, drop, length, Option}
use Rattle.std.specs.Io.KnownBytes.{Appends}
use Rattle.book_history.specs.Known.{Known}
use Rattle.script_form.specs.OpenBatch.{IsOpen}
use Rattle.script_form.specs.Lines.{line_room, ended_lines, unended, whole_lines}
use Rattle.script_form.specs.Turns.{Turn, turns_of, all_turns_of, waiting_after_lines}
use Rattle.server_session.specs.Session.{IsSharedRun, IsCutOff}
use Rattle.server_session.specs.declared.session_state.SessionState.{SessionState}
use Rattle.script_form.specs.Transcript.{BookStore}

-- whether its script ended, or a write failed
abbrev pub has_ended : SessionState → Bool
has_ended state = state.ended

-- it has taken these bytes: it keeps those after the last line feed, as far as they tell the line, and the batch that waits
pub record HasTaken (state : SessionState) (taken : List ℕ) : Type 0 where
  pub line : state.line ≡ take line_room (unended taken)
  pub waits : IsOpen (waiting_after_lines (ended_lines taken)) state.waiting

-- the turns that bytes end, which come after others: those that were not ended before
abbrev pub turns_ended : List ℕ → List ℕ → List Turn
turns_ended taken bytes = drop (length (turns_of (ended_lines taken))) (turns_of (ended_lines (taken ++ bytes)))

-- the turns that the end of the script ends: that of a last line that lacks its line feed, and that of a batch that waits
abbrev pub turns_at_end : List ℕ → List Turn
turns_at_end taken = drop (length (turns_of (ended_lines taken))) (all_turns_of (whole_lines taken))

-- these turns are run, and their replies and nothing else are appended
pub record AnswersTurns (stored : BookStore) (was : Known) (turns : List Turn) (now : Known) (output all : Option (List ℕ)) : Type 0 where
  pub replies : List ℕ
  pub reported : IsSharedRun stored was turns now replies
  pub appended : Appends output all replies

-- a write failed on the way through these turns
pub record AnswersInPart (stored : BookStore) (was : Known) (turns : List Turn) (now : Known) (output all : Option (List ℕ)) : Type 0 where
  pub written : List ℕ
  pub cut : IsCutOff stored was now turns written
  pub appended : Appends output all written

-- a session is on its way: these bytes of its script come next; turns without a reply are those that had not ended before
pub record IsOnWay (state : SessionState) (next : List ℕ) (left : List Turn) : Type 0 where
  pub taken : List ℕ
  pub has : HasTaken state taken
  pub parts : all_turns_of (whole_lines (taken ++ next)) ≡ turns_of (ended_lines taken) ++ left

-- these bytes are the next of its script
abbrev pub AreNext : SessionState → List ℕ → List Turn → Type 0
AreNext state bytes left = (more : List ℕ) × IsOnWay state (bytes ++ more) left
