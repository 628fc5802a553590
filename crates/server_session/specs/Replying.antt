-- What a session may write.
use Rattle.std.specs.Prelude.{◌≡◌, ◌⊎◌, ℕ, ◌<◌, Bool, IsTrue, List, [], ◌∷◌, length, Option, Some, IfSome}
use Rattle.overlay_terms.specs.Batches.{Batch}
use Rattle.overlay_terms.specs.Histories.{Entry, History, BeginsWith}
use Rattle.book_history.specs.Known.{Known, seen}
use Rattle.book_history.specs.declared.fault.ReportedFault.{ReportedFault}
use Rattle.script_form.specs.declared.fault.CommandFault.{CommandFault}
use Rattle.script_form.specs.declared.fault.CommandFault.TheVariants.{CommandSyntax, OutOfMemory}
use Rattle.script_form.specs.Lines.{whole_lines}
use Rattle.script_form.specs.Replies.{error_line, refused_line}
use Rattle.script_form.specs.Requests.{Request}
use Rattle.script_form.specs.Transcript.{BookStore, StoreReport, store_by}
use Rattle.script_form.specs.Turns.{Turn, all_turns_of}
use Rattle.server_session.specs.Answering.{Answers, SubmitsAll}
use Rattle.server_session.specs.Session.{IsSharedRun, Stays}
use Rattle.server_session.specs.Stores.{MayBeReportedAt}

-- the bytes of a script are known, and none of its turns has a reply yet
pub record IsAtStart (script : Option (List ℕ)) (left : List Turn) : Type 0 where
  pub bytes : List ℕ
  pub known : script ≡ Some bytes
  pub all : left ≡ all_turns_of (whole_lines bytes)

-- a script has more bytes than it may have, unless nobody knows them
abbrev pub IsPastMost : ℕ → Option (List ℕ) → Type 0
IsPastMost most script = IfSome script (λ bytes. most < length bytes)

-- the next turn has its reply, from where the session goes on, of a book with or without a store; `may`: what may be
-- reported of the store
pub record IsNextReply (from : Bool → Known → Type 0) (may : History → StoreReport → Type 0) (now : Known) (text : List ℕ) (left : List Turn) : Type 0 where
  pub has_store : Bool
  pub was : Known
  pub goes_on : from has_store was
  pub stays : Stays was now
  pub turn : Turn
  pub later : List Turn
  pub next : left ≡ turn ∷ later
  pub answered : IsSharedRun (store_by may has_store) was (turn ∷ []) now text

-- a fault of the lines of a batch: one of them is none of its commands; or it is cut off; or memory ran out for them
abbrev pub IsFaultText : List ℕ → Type 0
IsFaultText text =
    ((place : ℕ) × (fault : CommandFault) × (text ≡ refused_line place fault))
    ⊎ (text ≡ error_line CommandSyntax) ⊎ (text ≡ error_line OutOfMemory)

-- a fault for which the session made nothing
pub record IsFaultSince (was now : Known) (text : List ℕ) : Type 0 where
  pub fault : IsFaultText text
  pub nothing_made : now.made ≡ was.made

-- a reply of a session that knew `was` before: a fault, or the answer to a request or a batch, at what it knows now
abbrev pub IsReplySince : BookStore → Known → Known → List ℕ → Type 0
IsReplySince stored was now text =
    IsFaultSince was now text ⊎ ((request : Request) × Answers stored was request now text) ⊎ ((commands : Batch) × SubmitsAll was commands now text)

-- a reply from where the session goes on, wherever in a script: also after the end of one whose bytes are not known
abbrev pub IsSomeReply : (Bool → Known → Type 0) → (History → StoreReport → Type 0) → Known → List ℕ → Type 0
IsSomeReply from may now text = (has_store : Bool) × (was : Known) × from has_store was × Stays was now × IsReplySince (store_by may has_store) was now text

-- what was stored, and for what the store failed, may be reported: by a book with a store, of each history that goes on
-- from what a session has seen
abbrev pub MayReport : (List Entry → ℕ → Type 0) → (List Entry → ReportedFault → Type 0) → Bool → Known → (History → StoreReport → Type 0) → Type 0
MayReport stored failed there was may =
    IsTrue there → (history : History) (report : StoreReport) → BeginsWith history (seen was) → MayBeReportedAt stored failed history report → may history report
