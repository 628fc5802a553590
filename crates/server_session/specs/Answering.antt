-- What a request, a command and a batch make of a session.
use Rattle.std.specs.Prelude.{◌≡◌, ℕ, ◌⊎◌, Bool, List, ◌++◌, Result, Ok, Err}
use Rattle.overlay_terms.specs.Commands.{Command}
use Rattle.overlay_terms.specs.Batches.{Batch}
use Rattle.book_history.specs.Known.{Known, seen}
use Rattle.script_form.specs.declared.fault.CommandFault.{CommandFault}
use Rattle.script_form.specs.declared.fault.CommandFault.TheVariants.{OutOfMemory}
use Rattle.script_form.specs.declared.line_reply.LineReply.{LineReply}
use Rattle.script_form.specs.declared.open_batch.LinesFault.{LinesFault}
use Rattle.script_form.specs.OpenBatch.{AreRead}
use Rattle.script_form.specs.Replies.{error_line, reply_text}
use Rattle.script_form.specs.Requests.{Request}
use Rattle.script_form.specs.Transcript.{BookStore, IsRefused, IsSubmitted, IsSubmittedAll, IsAnswered, IsBatchAnswered, IsOutOfMemory}
use Rattle.server_session.specs.Session.{Stays}

-- the bytes that say a reply or a fault
abbrev pub result_text : Result LineReply CommandFault → List ℕ
result_text (Ok reply) = reply_text reply
result_text (Err fault) = error_line fault

-- the session goes on, and a request is answered at what it has seen then, or memory ran out for it; `stored` is what
-- is known of the book's store
pub record Answers (stored : BookStore) (was : Known) (request : Request) (now : Known) (reply : List ℕ) : Type 0 where
  pub stays : Stays was now
  pub made : List Batch
  pub answered : IsOutOfMemory request made reply ⊎ IsAnswered stored was.session (seen was) request (seen now) made reply
  pub only : now.made ≡ was.made ++ made

-- a command is submitted, or memory ran out
pub record Submits (was : Known) (command : Command) (now : Known) (reply : List ℕ) : Type 0 where
  pub stays : Stays was now
  pub made : List Batch
  pub submitted : IsRefused OutOfMemory made reply ⊎ IsSubmitted was.session (seen was) command (seen now) made reply
  pub only : now.made ≡ was.made ++ made

-- a batch is submitted, or memory ran out
pub record SubmitsAll (was : Known) (batch : Batch) (now : Known) (reply : List ℕ) : Type 0 where
  pub stays : Stays was now
  pub made : List Batch
  pub submitted : IsRefused OutOfMemory made reply ⊎ IsSubmittedAll was.session (seen was) batch (seen now) made reply
  pub only : now.made ≡ was.made ++ made

-- the lines of a batch are answered, or memory ran out for them
pub record IsAnswerToAll (was : Known) (requests : List Request) (now : Known) (reply : List ℕ) : Type 0 where
  pub made : List Batch
  pub answered : IsRefused OutOfMemory made reply ⊎ IsBatchAnswered was.session (seen was) requests (seen now) made reply
  pub only : now.made ≡ was.made ++ made

-- by what they were read as
pub record AnswersAll (was : Known) (read : Result Batch LinesFault) (now : Known) (reply : List ℕ) : Type 0 where
  pub stays : Stays was now
  pub answered : (requests : List Request) → AreRead requests read → IsAnswerToAll was requests now reply
