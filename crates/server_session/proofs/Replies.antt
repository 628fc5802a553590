-- What a session writes is right at what it has seen.
use Rattle.std.proofs.Common.{◌≡◌, ℕ, inl, inr, List, [], refl}
use Rattle.overlay_terms.specs.Batches.{Batch}
use Rattle.book_history.specs.Known.{Known}
use Rattle.script_form.specs.declared.fault.CommandFault.TheVariants.{CommandSyntax}
use Rattle.script_form.specs.declared.open_batch.LinesFault.{LinesFault}
use Rattle.script_form.specs.declared.open_batch.LinesFault.TheVariants as lines
use Rattle.script_form.specs.Replies.{error_line}
use Rattle.script_form.specs.Requests.{Request, nothing}
use Rattle.script_form.specs.Transcript.{BookStore}
use Rattle.server_session.specs.Answering.{Answers, SubmitsAll}
use Rattle.server_session.specs.Fault.{lines_reported}
use Rattle.server_session.specs.Replying.{IsReplySince}
use Rattle.server_session.proofs.AnswerLemmas.{answers_there}

-- a batch that is cut off
pub cut_off_right : (stored : BookStore) (now : Known) → IsReplySince stored now now (error_line CommandSyntax)
cut_off_right stored now = inl (record { fault = inr (inl refl); nothing_made = refl })

-- a line that belongs to a batch has no reply
pub nothing_right : (stored : BookStore) (now : Known) → IsReplySince stored now now []
nothing_right stored now = inr (inl (nothing, answers_there stored now nothing [] (inr (refl, refl))))

pub answer_right : (stored : BookStore) (was now : Known) (request : Request) (text : List ℕ) → Answers stored was request now text → IsReplySince stored was now text
answer_right stored was now request text answers = inr (inl (request, answers))

pub batch_right : (stored : BookStore) (was now : Known) (commands : Batch) (text : List ℕ) → SubmitsAll was commands now text → IsReplySince stored was now text
batch_right stored was now commands text submits = inr (inr (commands, submits))

pub unread_right : (stored : BookStore) (now : Known) (fault : LinesFault) (text : List ℕ) → text ≡ lines_reported fault → IsReplySince stored now now text
unread_right stored now (lines.Unread place fault) text is = inl (record { fault = inl (place, fault, is); nothing_made = refl })
unread_right stored now lines.OutOfMemory text is = inl (record { fault = inr (inr is); nothing_made = refl })
