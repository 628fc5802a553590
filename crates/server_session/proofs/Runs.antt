-- Runs of turns, one after the other.
use Rattle.std.proofs.Common.{◌≡◌, ℕ, ◌⊎◌, inl, inr, Bool, true, false, cond, Option, Some, None, List, [], ◌∷◌, ◌++◌, length, refl, sym, ap, ◌∙◌, subst, append_assoc, append-nil, arith}
use Rattle.std.proofs.lemmas.List.{length-append}
use Rattle.std.proofs.KnownBytes.{Appends-nil, Appends-trans}
use Rattle.overlay_terms.specs.Batches.{Batch}
use Rattle.book_history.specs.Known.{Known, seen}
use Rattle.script_form.specs.declared.open_batch.OpenBatch.{OpenBatch}
use Rattle.script_form.specs.OpenBatch.{IsOpen}
use Rattle.script_form.specs.Requests.{Request, request_of}
use Rattle.script_form.specs.Transcript.{BookStore, IsTurn, IsTranscript}
use Rattle.script_form.specs.Turns.{Turn, Waiting, alone, together, begun_by, unless_begun, ended_by, is_nothing, is_full, waiting_after, with_line}
use Rattle.script_form.specs.Writing.{IsCutShort}
use Rattle.script_form.proofs.TranscriptLemmas.{transcript-one, transcript-join}
use Rattle.server_session.specs.Session.{IsSharedRun, IsCutOff, Stays}
use Rattle.server_session.specs.SessionState.{AnswersTurns, AnswersInPart}
use Rattle.server_session.specs.Turn.{TakesTurn}
use Rattle.server_session.proofs.Turns.{stays_self, stays_trans}

-- no turn
pub run-none : (stored : BookStore) (me : Known) → IsSharedRun stored me [] me []
run-none stored me = record { made = []; reported = (refl, refl, refl); only = sym (append-nil me.made) }

-- one turn
pub run-one : (stored : BookStore) (was now : Known) (turn : Turn) (made : List Batch) (reply : List ℕ)
    → IsTurn stored was.session (seen was) turn (seen now) made reply → now.made ≡ was.made ++ made → IsSharedRun stored was (turn ∷ []) now reply
run-one stored was now turn made reply taken only =
    record { made = made; reported = transcript-one stored was.session (seen was) turn (seen now) made reply taken; only = only }

-- a run, and a run after it
pub run-join : (stored : BookStore) (was mid now : Known) (turns more : List Turn) (replies rest : List ℕ) → Stays was mid
    → IsSharedRun stored was turns mid replies → IsSharedRun stored mid more now rest → IsSharedRun stored was (turns ++ more) now (replies ++ rest)
run-join stored was mid now turns more replies rest stays run next = record {
  made = run.made ++ next.made;
  reported = transcript-join stored was.session (seen was) turns (seen mid) run.made replies run.reported more (seen now) next.made rest
      (subst (λ s. IsTranscript stored s (seen mid) more (seen now) next.made rest) stays.session next.reported);
  only = next.only ∙ ap (λ m. m ++ next.made) run.only ∙ append_assoc was.made run.made next.made;
}

-- a line is taken as any other that asks for the same
pub takes_turn-same : (stored : BookStore) (line other : List ℕ) → request_of line ≡ request_of other → (was now : Known) (before after : Option OpenBatch) (reply : List ℕ)
    → TakesTurn stored was before line now after reply → TakesTurn stored was before other now after reply
takes_turn-same stored line other same was now before after reply takes = record {
  stays = takes.stays;
  taken = λ waiting open_before.
      let t = takes.taken waiting open_before in
      record {
        waits = subst (λ (request : Request). IsOpen (waiting_after waiting request) after) same t.waits;
        answered = subst (λ (request : Request). IsSharedRun stored was (ended_by waiting request) now reply) same t.answered;
      };
}

-- a line ends one turn or none
pub ended_one : (waiting : Option Waiting) (request : Request) → (ended_by waiting request ≡ []) ⊎ ((turn : Turn) × (ended_by waiting request ≡ turn ∷ []))
ended_one None request =
    elim (begun_by request) as (λ begun. (unless_begun begun request ≡ []) ⊎ ((turn : Turn) × (unless_begun begun request ≡ turn ∷ []))) [
      | None ↦ inr (alone request, refl)
      | Some waiting ↦ inl refl
    ]
ended_one (Some waiting) request =
    elim (is_nothing request) as (λ b. (cond b [] (of_batch (is_full (with_line waiting request))) ≡ []) ⊎ ((turn : Turn) × (cond b [] (of_batch (is_full (with_line waiting request))) ≡ turn ∷ []))) [
      | true ↦ inl refl
      | false ↦ one (is_full (with_line waiting request))
    ] where
      of_batch : Bool → List Turn
      of_batch b = cond b (together (with_line waiting request).came ∷ []) []

      one : (b : Bool) → (of_batch b ≡ []) ⊎ ((turn : Turn) × (of_batch b ≡ turn ∷ []))
      one true = inr (together (with_line waiting request).came, refl)
      one false = inl refl

-- a reply that is cut short is that of one turn
pub cut_one : (stored : BookStore) (was now : Known) (turns : List Turn) (reply front : List ℕ) → (turns ≡ []) ⊎ ((turn : Turn) × (turns ≡ turn ∷ []))
    → IsSharedRun stored was turns now reply → IsCutShort reply front → IsCutOff stored was now turns front
cut_one stored was now turns reply front (inl none) run short =
    let nothing = subst (λ (ts : List Turn). IsSharedRun stored was ts now reply) none run in
    absurd (omega (arith, length-append front short.unwritten, ap length short.split, ap length nothing.reported.2, short.lost))
cut_one stored was now turns reply front (inr (turn, one)) run short = record {
  before = [];
  last = turn;
  later = [];
  read = one;
  between = was;
  stays = stays_self was;
  replies = [];
  whole = run-none stored was;
  reply = reply;
  reported = subst (λ (ts : List Turn). IsSharedRun stored was ts now reply) one run;
  front = front;
  cut = short;
  written_is = refl;
}

-- turns that are answered, and turns after them on the way through which a write failed
pub cut_behind : (stored : BookStore) (was mid now : Known) (turns more : List Turn) (replies written : List ℕ) → Stays was mid → IsSharedRun stored was turns mid replies
    → IsCutOff stored mid now more written → IsCutOff stored was now (turns ++ more) (replies ++ written)
cut_behind stored was mid now turns more replies written stays run cut = record {
  before = turns ++ cut.before;
  last = cut.last;
  later = cut.later;
  read = ap (λ (ts : List Turn). turns ++ ts) cut.read ∙ sym (append_assoc turns cut.before (cut.last ∷ cut.later));
  between = cut.between;
  stays = stays_trans was mid cut.between stays cut.stays;
  replies = replies ++ cut.replies;
  whole = run-join stored was mid cut.between turns cut.before replies cut.replies stays run cut.whole;
  reply = cut.reply;
  reported = cut.reported;
  front = cut.front;
  cut = cut.cut;
  written_is = ap (λ w. replies ++ w) cut.written_is ∙ sym (append_assoc replies cut.replies cut.front);
}

-- what was cut off among some turns was cut off among more
pub cut_longer : (stored : BookStore) (was now : Known) (turns more : List Turn) (written : List ℕ) → IsCutOff stored was now turns written → IsCutOff stored was now (turns ++ more) written
cut_longer stored was now turns more written cut = record {
  before = cut.before;
  last = cut.last;
  later = cut.later ++ more;
  read = ap (λ (ts : List Turn). ts ++ more) cut.read ∙ append_assoc cut.before (cut.last ∷ cut.later) more;
  between = cut.between;
  stays = cut.stays;
  replies = cut.replies;
  whole = cut.whole;
  reply = cut.reply;
  reported = cut.reported;
  front = cut.front;
  cut = cut.cut;
  written_is = cut.written_is;
}

-- ==== Turns that are answered at a writer

pub answers_none : (stored : BookStore) (me : Known) (output : Option (List ℕ)) → AnswersTurns stored me [] me output output
answers_none stored me output = record { replies = []; reported = run-none stored me; appended = Appends-nil output }

pub answers_join : (stored : BookStore) (was mid now : Known) (turns more : List Turn) (output between all : Option (List ℕ)) → Stays was mid
    → AnswersTurns stored was turns mid output between → AnswersTurns stored mid more now between all → AnswersTurns stored was (turns ++ more) now output all
answers_join stored was mid now turns more output between all stays one two = record {
  replies = one.replies ++ two.replies;
  reported = run-join stored was mid now turns more one.replies two.replies stays one.reported two.reported;
  appended = Appends-trans output between all one.replies two.replies one.appended two.appended;
}

pub stops_behind : (stored : BookStore) (was mid now : Known) (turns more : List Turn) (output between all : Option (List ℕ)) → Stays was mid
    → AnswersTurns stored was turns mid output between → AnswersInPart stored mid more now between all → AnswersInPart stored was (turns ++ more) now output all
stops_behind stored was mid now turns more output between all stays one two = record {
  written = one.replies ++ two.written;
  cut = cut_behind stored was mid now turns more one.replies two.written stays one.reported two.cut;
  appended = Appends-trans output between all one.replies two.written one.appended two.appended;
}

pub stops_before : (stored : BookStore) (was now : Known) (turns more : List Turn) (output all : Option (List ℕ)) → AnswersInPart stored was turns now output all
    → AnswersInPart stored was (turns ++ more) now output all
stops_before stored was now turns more output all part = record { written = part.written; cut = cut_longer stored was now turns more part.written part.cut; appended = part.appended }

-- the same turns in other words
pub answers_as : (stored : BookStore) (was now : Known) (turns other : List Turn) (output all : Option (List ℕ)) → turns ≡ other
    → AnswersTurns stored was turns now output all → AnswersTurns stored was other now output all
answers_as stored was now turns other output all same answers = subst (λ (ts : List Turn). AnswersTurns stored was ts now output all) same answers

pub stops_as : (stored : BookStore) (was now : Known) (turns other : List Turn) (output all : Option (List ℕ)) → turns ≡ other
    → AnswersInPart stored was turns now output all → AnswersInPart stored was other now output all
stops_as stored was now turns other output all same part = subst (λ (ts : List Turn). AnswersInPart stored was ts now output all) same part
