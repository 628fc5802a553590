-- What turns decide of a history: the version after each of them.
use Rattle.std.specs.Prelude.{◌≡◌, ℕ, Bool, ◌||◌, List, [], ◌∷◌, ◌++◌, map, flat_map, bytes_eq}
use Rattle.overlay_terms.specs.Layers.{Layer}
use Rattle.overlay_terms.specs.Batches.{Batch}
use Rattle.overlay_terms.specs.Histories.{Version, History, IsHistory, newest, accepted_in}
use Rattle.script_form.specs.declared.fault.CommandFault.TheVariants.{OutOfMemory, Closing, Gone}
use Rattle.script_form.specs.Replies.{error_line}
use Rattle.script_form.specs.Transcript.{BookStore, IsTurn, IsTranscript}
use Rattle.script_form.specs.Turns.{Turn}

-- a turn that was answered, of a line or of a batch with its lines: the history that it led to, the batches that its
-- session made, and the reply
pub record Answered : Type 0 where
  pub turn : Turn
  pub after : History
  pub made : List Batch
  pub reply : List ℕ

-- the history that turns have led to
abbrev pub history_after : History → List Answered → History
history_after seen [] = seen
history_after seen (one ∷ more) = history_after one.after more

-- the turns alone, without what they led to
abbrev pub turns_in : List Answered → List Turn
turns_in all = map (λ (one : Answered). one.turn) all

-- all batches that were made by turns
abbrev pub made_by : List Answered → List Batch
made_by all = flat_map (λ (one : Answered). one.made) all

-- turns of a session that were answered one after another, from what it had seen
abbrev pub AreAnswered : BookStore → ℕ → History → List Answered → Type 0
AreAnswered stored session seen [] = Unit {0}
AreAnswered stored session seen (one ∷ more) =
    IsTurn stored session seen one.turn one.after one.made one.reply × AreAnswered stored session one.after more

-- a run of turns, as a transcript has it: the turns, the history that they led to, the batches that were made, and the
-- replies
pub record Run : Type 0 where
  pub turns : List Turn
  pub after : History
  pub made : List Batch
  pub replies : List ℕ

abbrev pub IsRun : BookStore → ℕ → History → Run → Type 0
IsRun stored session seen run = IsTranscript stored session seen run.turns run.after run.made run.replies

-- the same, turn by turn
pub record AreTurnsOf (stored : BookStore) (session : ℕ) (seen : History) (run : Run) : Type 0 where
  pub all : List Answered
  pub reported : AreAnswered stored session seen all
  pub same_turns : turns_in all ≡ run.turns
  pub same_after : history_after seen all ≡ run.after
  pub same_made : made_by all ≡ run.made
  pub same_replies : flat_map (λ (one : Answered). one.reply) all ≡ run.replies

-- each transcript goes turn by turn
abbrev pub TranscriptsHaveTurns : BookStore → Type 0
TranscriptsHaveTurns stored =
    (session : ℕ) (seen : History) (run : Run) →
    IsRun stored session seen run → AreTurnsOf stored session seen run

-- whether a reply refuses for what neither lines nor layers decide: memory ran out, the book closes or is not as far
abbrev pub is_from_outside : List ℕ → Bool
is_from_outside reply =
    bytes_eq reply (error_line OutOfMemory) || (bytes_eq reply (error_line Closing) || bytes_eq reply (error_line Gone))

-- turns of a session that was alone: they led to a history, and the batches that were accepted meanwhile are just those
-- that they made
pub record AreAlone (stored : BookStore) (session : ℕ) (seen : History) (all : List Answered) : Type 0 where
  pub reported : AreAnswered stored session seen all
  pub history : IsHistory (history_after seen all)
  pub alone : accepted_in (history_after seen all).entries ≡ accepted_in seen.entries ++ made_by all

-- what is decided of a version: its number and its layers
pub record Decided : Type 0 where
  pub number : ℕ
  pub layers : List Layer

-- a version without its tiles, and without what is durable
abbrev pub decided : Version → Decided
decided version = record { number = version.number; layers = version.layers }

-- the same of the newest version after each turn
abbrev pub decided_by : List Answered → List Decided
decided_by all = map (λ (one : Answered). decided (newest one.after)) all

-- which of some turns were refused from outside
abbrev pub outside_of : List Answered → List Bool
outside_of all = map (λ (one : Answered). is_from_outside one.reply) all

-- two runs go alike: the versions after their turns have the same numbers and layers, and the same batches were made
pub record GoAlike (all others : List Answered) : Type 0 where
  pub versions : decided_by all ≡ decided_by others
  pub batches : map (λ (one : Answered). one.made) all ≡ map (λ (one : Answered). one.made) others

-- two runs of the same turns from versions that are alike, of which the same were refused from outside, go alike; the
-- turns are what the lines ask for, and so the same where the lines are
abbrev pub LinesDecide : BookStore → BookStore → Type 0
LinesDecide stored other_stored =
    (session other : ℕ) (seen other_seen : History) (all others : List Answered) →
    AreAlone stored session seen all → AreAlone other_stored other other_seen others →
    decided (newest seen) ≡ decided (newest other_seen) → turns_in all ≡ turns_in others →
    outside_of all ≡ outside_of others → GoAlike all others
