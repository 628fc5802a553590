-- The words of the steps on the way through a script. What a session promises is in `Session`
-- and `SessionState`, without them.
use Rattle.std.specs.Prelude.{◌≡◌, ℕ, ◌⊎◌, Bool, List, Option, Result, MatchResult}
use Rattle.std.specs.Io.KnownBytes.{Appends}
use Rattle.book_history.specs.Known.{Known}
use Rattle.script_form.specs.declared.session_end.SessionEnd.{SessionEnd}
use Rattle.script_form.specs.declared.session_end.SessionEnd.TheVariants.{End, Failed}
use Rattle.script_form.specs.declared.open_batch.OpenBatch.{OpenBatch}
use Rattle.script_form.specs.OpenBatch.{IsOpen}
use Rattle.script_form.specs.Turns.{Turn, Waiting, cut_off_in}
use Rattle.script_form.specs.Writing.{IsCutShort, Writes}
use Rattle.server_session.specs.SessionState.{HasTaken, turns_at_end, AnswersTurns, AnswersInPart}
use Rattle.server_session.specs.Turn.{TakesTurn}
use Rattle.server_session.specs.declared.session_state.SessionState.{SessionState}
use Rattle.script_form.specs.Transcript.{BookStore}

-- a line is taken, and the reply of the turn that it ends is written
abbrev pub AnswersLine : {A E : Type 0} → BookStore → Result A E → Known → Option OpenBatch → List ℕ → Known → Option OpenBatch → Option (List ℕ) → Option (List ℕ) → Type 0
AnswersLine stored result was before line now after output all =
    (reply : List ℕ) × TakesTurn stored was before line now after reply × Writes result output all reply

-- turns are answered, or a write failed on the way
abbrev pub AnswersOrFails : {A E : Type 0} → BookStore → Result A E → Known → List Turn → Known → Option (List ℕ) → Option (List ℕ) → Type 0
AnswersOrFails stored result was turns now output all =
    MatchResult result (λ _. AnswersTurns stored was turns now output all) (λ _. AnswersInPart stored was turns now output all)

-- after the last line: a batch that waits is cut off
abbrev pub EndsBatch : {A E : Type 0} → BookStore → Result A E → Option OpenBatch → Option (List ℕ) → Option (List ℕ) → Type 0
EndsBatch stored result open_before output all =
    (me : Known) (waiting : Option Waiting) → IsOpen waiting open_before → AnswersOrFails stored result me (cut_off_in waiting) me output all

-- how a session ends that answers these turns, the last of its script
abbrev pub EndsWith : BookStore → SessionEnd → Known → List Turn → Known → Option (List ℕ) → Option (List ℕ) → Type 0
EndsWith stored End was turns now output all = AnswersTurns stored was turns now output all
EndsWith stored (Failed code) was turns now output all = (code ≡ 49) × AnswersInPart stored was turns now output all

-- the end of the script, whatever was taken of it
abbrev pub Finishes : BookStore → SessionEnd → SessionState → Known → Known → Option (List ℕ) → Option (List ℕ) → Type 0
Finishes stored end state was now output all =
    (taken : List ℕ) → HasTaken state taken → EndsWith stored end was (turns_at_end taken) now output all

-- how a session ends after a fault's line
abbrev pub EndsBy : SessionEnd → ℕ → List ℕ → Option (List ℕ) → Option (List ℕ) → Type 0
EndsBy End number line output all = ⊥
EndsBy (Failed code) number line output all =
    ((code ≡ number) × Appends output all line) ⊎ ((code ≡ 49) × (front : List ℕ) × IsCutShort line front × Appends output all front)
