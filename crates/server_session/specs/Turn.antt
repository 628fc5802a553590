-- What a line makes of a session.
use Rattle.std.specs.Prelude.{◌≡◌, ℕ, List, [], ◌∷◌, ◌++◌, Option, Some, None}
use Rattle.book_history.specs.Known.{Known}
use Rattle.script_form.specs.OpenBatch.{IsOpen}
use Rattle.script_form.specs.Requests.{request_of}
use Rattle.script_form.specs.Replies.{reply_text}
use Rattle.script_form.specs.Turns.{Turn, Waiting, waiting_after, ended_by, cut_off_in}
use Rattle.script_form.specs.declared.line_reply.LineReply.{LineReply}
use Rattle.script_form.specs.declared.open_batch.OpenBatch.{OpenBatch}
use Rattle.server_session.specs.Session.{IsSharedRun, Stays}
use Rattle.script_form.specs.Transcript.{BookStore}

-- a line is taken, a batch waiting or not: the turn that it ends is answered by this session; and which batch waits then
pub record IsLineTaken (stored : BookStore) (was : Known) (waiting : Option Waiting) (line : List ℕ) (now : Known) (open_then : Option OpenBatch) (reply : List ℕ) : Type 0 where
  pub waits : IsOpen (waiting_after waiting (request_of line)) open_then
  pub answered : IsSharedRun stored was (ended_by waiting (request_of line)) now reply

-- the same, and the session stays of its book
pub record TakesTurn (stored : BookStore) (was : Known) (open_before : Option OpenBatch) (line : List ℕ) (now : Known) (open_then : Option OpenBatch) (reply : List ℕ) : Type 0 where
  pub stays : Stays was now
  pub taken : (waiting : Option Waiting) → IsOpen waiting open_before → IsLineTaken stored was waiting line now open_then reply

-- the bytes of a line's reply: none where it ends no turn
abbrev pub fault_text : Option LineReply → List ℕ
fault_text None = []
fault_text (Some reply) = reply_text reply

-- whether a line ends a turn, where a batch waits or none does: one that ends none leaves the session as it was
abbrev pub EndsTurn : Option OpenBatch → List ℕ → Known → Known → Option LineReply → Type 0
EndsTurn open_before line was now None = (now ≡ was) × ((waiting : Option Waiting) → IsOpen waiting open_before → ended_by waiting (request_of line) ≡ [])
EndsTurn open_before line was now (Some reply) =
    (waiting : Option Waiting) → IsOpen waiting open_before → (turn : Turn) × (ended_by waiting (request_of line) ≡ turn ∷ [])

-- the turns that are left at a line: the one that it ends, if it ends one, is the next
pub record IsAtLine (open_before : Option OpenBatch) (line : List ℕ) (left : List Turn) : Type 0 where
  pub waiting : Option Waiting
  pub is_open : IsOpen waiting open_before
  pub later : List Turn
  pub parts : left ≡ ended_by waiting (request_of line) ++ later

-- after the last line: the batch that waits, if one does, is all that is left
pub record IsAtLast (open_before : Option OpenBatch) (left : List Turn) : Type 0 where
  pub waiting : Option Waiting
  pub is_open : IsOpen waiting open_before
  pub last : left ≡ cut_off_in waiting
