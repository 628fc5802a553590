-- What is said of a book's store may be said by another measure.
use Rattle.std.proofs.Common.{ℕ, ◌⊎◌, ⊎_elim, Bool, IsTrue, List, Option, inl, inr, [], ◌∷◌}
use Rattle.overlay_terms.specs.Batches.{Batch}
use Rattle.overlay_terms.specs.Histories.{History, BeginsWith}
use Rattle.book_history.specs.Known.{Known, seen}
use Rattle.script_form.specs.declared.session_end.SessionEnd.{SessionEnd}
use Rattle.script_form.specs.declared.session_end.SessionEnd.TheVariants.{End, Failed}
use Rattle.script_form.specs.Requests.{Request, sync}
use Rattle.script_form.specs.Transcript.{StoreReport, of_number, of_fault, store_by, IsAnswered, IsOutOfMemory, IsTurnAnswered, IsTranscript}
use Rattle.script_form.specs.Turns.{Turn, alone, together, cut_off}
use Rattle.server_session.specs.Answering.{Answers}
use Rattle.server_session.specs.Replying.{IsReplySince}
use Rattle.server_session.specs.Session.{IsSharedRun, IsFaultReported, IsCutOff, IsWriteFault, EndsSo, IsSessionWithin}
use Rattle.server_session.proofs.Turns.{begins_trans}

-- of a book with a store, by the histories that go on from a first one
module _ (reported more : History → StoreReport → Type 0) (there : Bool) (first : History)
    (weak : IsTrue there → (history : History) (report : StoreReport) → BeginsWith history first → reported history report → more history report) where
  -- SYNC alone asks the store
  answered : (session : ℕ) (before after : History) (request : Request) (made : List Batch) (reply : List ℕ) → BeginsWith after first
      → IsAnswered (store_by reported there) session before request after made reply → IsAnswered (store_by more there) session before request after made reply
  answered session before after sync made reply on (inl none) = inl none
  answered session before after sync made reply on (inr (inl gone)) = inr (inl gone)
  answered session before after sync made reply on (inr (inr (inl (one, is)))) =
      inr (inr (inl (one, record { nothing_made = is.nothing_made; reached = is.reached; may = weak one after of_number on is.may; says = is.says })))
  answered session before after sync made reply on (inr (inr (inr (one, is)))) = inr (inr (inr (
    one,
    record { behind = is.behind; fault = is.fault; of_store = is.of_store; may = ⊎_elim inl (λ reported. inr (weak one after (of_fault is.fault) on reported)) is.may; refused = is.refused },
  )))
  answered session before after other made reply on is = is

  turn_answered : (session : ℕ) (before after : History) (turn : Turn) (made : List Batch) (reply : List ℕ) → BeginsWith after first
      → IsTurnAnswered (store_by reported there) session before turn after made reply → IsTurnAnswered (store_by more there) session before turn after made reply
  turn_answered session before after (alone request) made reply on (inl memory) = inl memory
  turn_answered session before after (alone request) made reply on (inr is) = inr (answered session before after request made reply on is)
  turn_answered session before after (together requests) made reply on is = is
  turn_answered session before after (cut_off requests) made reply on is = is

  transcript : (session : ℕ) (seen : History) (turns : List Turn) (after : History) (made : List Batch) (replies : List ℕ) → BeginsWith seen first
      → IsTranscript (store_by reported there) session seen turns after made replies → IsTranscript (store_by more there) session seen turns after made replies
  transcript session seen [] after made replies on is = is
  transcript session seen (turn ∷ turns) after made replies on (mid, these, others, reply, rest, taken, run, all_made, all_reported) =
      let later = begins_trans first seen mid on taken.goes_on in (
        mid,
        these,
        others,
        reply,
        rest,
        record { goes_on = taken.goes_on; answered = turn_answered session seen mid turn these reply later taken.answered },
        transcript session mid turns after others rest later run,
        all_made,
        all_reported,
      )

  pub run : (was : Known) (turns : List Turn) (now : Known) (replies : List ℕ) → BeginsWith (seen was) first → IsSharedRun (store_by reported there) was turns now replies → IsSharedRun (store_by more there) was turns now replies
  run was turns now replies on is = record { made = is.made; reported = transcript was.session (seen was) turns (seen now) is.made replies on is.reported; only = is.only }

  fault_reported : (was now : Known) (bytes line written : List ℕ) → BeginsWith (seen was) first
      → IsFaultReported (store_by reported there) was now bytes line written → IsFaultReported (store_by more there) was now bytes line written
  fault_reported was now bytes line written on is = record { replies = is.replies; reported = run was _ now is.replies on is.reported; fault = is.fault }

  cut : (was now : Known) (turns : List Turn) (written : List ℕ) → BeginsWith (seen was) first → IsCutOff (store_by reported there) was now turns written → IsCutOff (store_by more there) was now turns written
  cut was now turns written on is = record {
    before = is.before;
    last = is.last;
    later = is.later;
    read = is.read;
    between = is.between;
    stays = is.stays;
    replies = is.replies;
    whole = run was is.before is.between is.replies on is.whole;
    reply = is.reply;
    reported = run is.between _ now is.reply (begins_trans first (seen was) (seen is.between) on is.stays.goes_on) is.reported;
    front = is.front;
    cut = is.cut;
    written_is = is.written_is;
  }

  write_fault : (most : ℕ) (was now : Known) (taken : List ℕ) (left : Option (List ℕ)) (written : List ℕ) → BeginsWith (seen was) first
      → IsWriteFault most (store_by reported there) was now taken left written → IsWriteFault most (store_by more there) was now taken left written
  write_fault most was now taken left written on (inl is) = inl (cut was now _ written on is)
  write_fault most was now taken left written on (inr (inl (at_end, short, is))) = inr (inl (at_end, short, cut was now _ written on is))
  write_fault most was now taken left written on (inr (inr (inl (front, short, more_came, is)))) = inr (inr (inl (front, short, more_came, fault_reported was now _ front written on is)))
  write_fault most was now taken left written on (inr (inr (inr (front, short, within, is)))) = inr (inr (inr (front, short, within, fault_reported was now _ front written on is)))

  ends_so : (most : ℕ) (end : SessionEnd) (was now : Known) (taken : List ℕ) (left : Option (List ℕ)) (written : List ℕ) → BeginsWith (seen was) first
      → EndsSo most (store_by reported there) end was now taken left written → EndsSo most (store_by more there) end was now taken left written
  ends_so most End was now taken left written on is = record { all_taken = is.all_taken; short = is.short; reported = run was _ now written on is.reported }
  ends_so most (Failed code) was now taken left written on (inl (number, more_came, is)) = inl (number, more_came, fault_reported was now _ _ written on is)
  ends_so most (Failed code) was now taken left written on (inr (inl (number, within, is))) = inr (inl (number, within, fault_reported was now _ _ written on is))
  ends_so most (Failed code) was now taken left written on (inr (inr (inl (number, is)))) = inr (inr (inl (number, write_fault most was now taken left written on is)))
  ends_so most (Failed code) was now taken left written on (inr (inr (inr is))) = inr (inr (inr is))

  -- a request
  answer : (was : Known) (request : Request) (now : Known) (reply : List ℕ) → BeginsWith (seen now) first → Answers (store_by reported there) was request now reply → Answers (store_by more there) was request now reply
  answer was request now reply on is = record {
    stays = is.stays;
    made = is.made;
    answered = either is.answered;
    only = is.only;
  } where
    either : IsOutOfMemory request is.made reply ⊎ IsAnswered (store_by reported there) was.session (seen was) request (seen now) is.made reply
        → IsOutOfMemory request is.made reply ⊎ IsAnswered (store_by more there) was.session (seen was) request (seen now) is.made reply
    either (inl memory) = inl memory
    either (inr so) = inr (answered was.session (seen was) (seen now) request is.made reply on so)

  pub reply_since : (was now : Known) (text : List ℕ) → BeginsWith (seen now) first → IsReplySince (store_by reported there) was now text → IsReplySince (store_by more there) was now text
  reply_since was now text on (inl fault) = inl fault
  reply_since was now text on (inr (inl (request, is))) = inr (inl (request, answer was request now text on is))
  reply_since was now text on (inr (inr submits)) = inr (inr submits)

  -- a session
  pub session_weaker : (most : ℕ) (end : SessionEnd) (was now : Known) (input left output all : Option (List ℕ)) → BeginsWith (seen was) first
      → IsSessionWithin most (store_by reported there) end was now input left output all → IsSessionWithin most (store_by more there) end was now input left output all
  session_weaker most end was now input left output all on is =
      record { taken = is.taken; written = is.written; reads = is.reads; writes = is.writes; ended = ends_so most end was now is.taken left is.written on is.ended }
