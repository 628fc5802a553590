-- A session of a book that threads share: what it writes for what it reads, until its script ends or a fault ends it.
-- `stored` is what is known of the book's store.
use Rattle.std.specs.Prelude.{◌≡◌, ℕ, ◌+◌, ◌≤◌, ◌⊎◌, Bool, List, [], ◌∷◌, ◌++◌, take, length, Option}
use Rattle.std.specs.Io.KnownBytes.{Appends, Consumes, IsAtEnd}
use Rattle.overlay_terms.specs.Batches.{Batch}
use Rattle.overlay_terms.specs.Histories.{BeginsWith}
use Rattle.book_history.specs.Known.{Known, seen}
use Rattle.script_form.specs.declared.fault.CommandFault.TheVariants.{ReadLimit, Read}
use Rattle.script_form.specs.declared.session_end.SessionEnd.{SessionEnd}
use Rattle.script_form.specs.declared.session_end.SessionEnd.TheVariants.{End, Failed}
use Rattle.script_form.specs.Lines.{ended_lines, whole_lines}
use Rattle.script_form.specs.Replies.{error_line}
use Rattle.script_form.specs.Writing.{IsCutShort}
use Rattle.script_form.specs.Transcript.{BookStore, IsTranscript}
use Rattle.script_form.specs.Turns.{Turn, turns_of, all_turns_of}

-- a session is of the same book under the same number, and what it has seen goes on
pub record Stays (was now : Known) : Type 0 where
  pub book : now.book ≡ was.book
  pub session : now.session ≡ was.session
  pub goes_on : BeginsWith (seen now) (seen was)

-- the replies to these turns, by histories from what the session had seen to what it has seen then; it made just what they made
pub record IsSharedRun (stored : BookStore) (was : Known) (turns : List Turn) (now : Known) (replies : List ℕ) : Type 0 where
  pub made : List Batch
  pub reported : IsTranscript stored was.session (seen was) turns (seen now) made replies
  pub only : now.made ≡ was.made ++ made

-- how a session ended: what it had known and knows, `taken`, `left` to the reader, `written`; `most`: its most bytes.
-- Its script ended: each line, or the batch that it is of, has its reply
pub record IsEnded (most : ℕ) (stored : BookStore) (was now : Known) (taken : List ℕ) (left : Option (List ℕ)) (written : List ℕ) : Type 0 where
  pub all_taken : IsAtEnd left
  pub short : length taken ≤ most
  pub reported : IsSharedRun stored was (all_turns_of (whole_lines taken)) now written

-- before a fault: the turns of the lines that these bytes end have replies, and then `line` is written; a waiting batch
-- has none
pub record IsFaultReported (stored : BookStore) (was now : Known) (bytes line written : List ℕ) : Type 0 where
  pub replies : List ℕ
  pub reported : IsSharedRun stored was (turns_of (ended_lines bytes)) now replies
  pub fault : written ≡ replies ++ line

-- a write failed on the way through some turns: those before have their replies; the last one is run, and of its reply
-- a front alone is written, which lacks at least the last byte; none later is run
pub record IsCutOff (stored : BookStore) (was now : Known) (turns : List Turn) (written : List ℕ) : Type 0 where
  pub before : List Turn
  pub last : Turn
  pub later : List Turn
  pub read : turns ≡ before ++ last ∷ later
  pub between : Known
  pub stays : Stays was between
  pub replies : List ℕ
  pub whole : IsSharedRun stored was before between replies
  pub reply : List ℕ
  pub reported : IsSharedRun stored between (last ∷ []) now reply
  pub front : List ℕ
  pub cut : IsCutShort reply front
  pub written_is : written ≡ replies ++ front

-- a write failed: on the way through the turns that were ended within the limit, or through those of the whole script
-- where it was read to its end; or in the line of another fault, when all of them had their replies
abbrev pub IsWriteFault : ℕ → BookStore → Known → Known → List ℕ → Option (List ℕ) → List ℕ → Type 0
IsWriteFault most stored was now taken left written =
    IsCutOff stored was now (turns_of (ended_lines (take most taken))) written
    ⊎ (IsAtEnd left × (length taken ≤ most) × IsCutOff stored was now (all_turns_of (whole_lines taken)) written)
    ⊎ ((front : List ℕ) × IsCutShort (error_line ReadLimit) front × (length taken ≡ most + 1)
    × IsFaultReported stored was now (take most taken) front written)
    ⊎ ((front : List ℕ) × IsCutShort (error_line Read) front × (length taken ≤ most)
    × IsFaultReported stored was now taken front written)

-- how a session ends: with its script; or by 47, since a byte too many came; by 48, since a read failed; by 49, since a
-- write failed; or by 40, since there was no memory for the session itself: it read and wrote nothing, and saw and made
-- nothing
abbrev pub EndsSo : ℕ → BookStore → SessionEnd → Known → Known → List ℕ → Option (List ℕ) → List ℕ → Type 0
EndsSo most stored End was now taken left written = IsEnded most stored was now taken left written
EndsSo most stored (Failed code) was now taken left written =
    ((code ≡ 47) × (length taken ≡ most + 1)
    × IsFaultReported stored was now (take most taken) (error_line ReadLimit) written)
    ⊎ ((code ≡ 48) × (length taken ≤ most) × IsFaultReported stored was now taken (error_line Read) written)
    ⊎ ((code ≡ 49) × IsWriteFault most stored was now taken left written)
    ⊎ ((code ≡ 40) × (taken ≡ []) × (written ≡ []) × (now ≡ was))

-- what was taken from the reader and put to the writer, and how the session of a script of at most so many bytes ended
pub record IsSessionWithin (most : ℕ) (stored : BookStore) (end : SessionEnd) (was now : Known) (input left output all : Option (List ℕ)) : Type 0 where
  pub taken : List ℕ
  pub written : List ℕ
  pub reads : Consumes input left taken
  pub writes : Appends output all written
  pub ended : EndsSo most stored end was now taken left written
