-- What bytes make of a session on its way, and what the end of its script does.
use Rattle.std.proofs.Common.{◌≡◌, ℕ, zero, suc, ◌<◌, ◌≤◌, ◌⊎◌, inl, inr, Bool, true, false, Option, Some, None, is_some, Result, Ok, Err, IsErr, OnOk, OnErr, MatchResult, List, [], ◌∷◌, ◌++◌, map, length, take, drop, lit<, refl, sym, ap, ◌∙◌, subst, append_assoc, append-nil, arith}
use Rattle.std.proofs.Math.Seq.{drop-append_seam}
use Rattle.std.proofs.lemmas.Bool.{false≢true, true≢false}
use Rattle.std.proofs.lemmas.List.{length-take}
use Rattle.std.specs.Io.KnownBytes.{Appends}
use Rattle.book_history.specs.Known.{Known}
use Rattle.script_form.specs.declared.fault.CommandFault.TheVariants.{CommandSyntax}
use Rattle.script_form.specs.declared.open_batch.OpenBatch.{OpenBatch}
use Rattle.script_form.specs.OpenBatch.{IsOpen}
use Rattle.script_form.specs.Lines.{line_room, has_no_feed, without_cr, ended_lines, unended, last_line, whole_lines}
use Rattle.script_form.specs.Replies.{error_line}
use Rattle.script_form.specs.Requests.{request_of}
use Rattle.script_form.specs.Writing.{IsCutShort, Writes}
use Rattle.script_form.specs.Turns.{Turn, Waiting, cut_off, cut_off_in, ended_by, turns_from, turns_of, all_turns_of, waiting_after, waiting_after_lines}
use Rattle.script_form.proofs.LongLines.{request_of-cut, request_of-cut_ended, take-join, take-nil}
use Rattle.script_form.proofs.Pieces.{ended_lines-line, ended_lines-more, ended_lines-part, unended-line, unended-part}
use Rattle.script_form.proofs.TurnLemmas.{turns_of-more, turns_of-push, waiting_after_lines-push}
use Rattle.server_session.specs.Loop.{AnswersLine, EndsBatch}
use Rattle.server_session.specs.Session.{IsSharedRun, Stays}
use Rattle.server_session.specs.SessionState.{HasTaken, turns_ended, turns_at_end, AnswersTurns, AnswersInPart}
use Rattle.server_session.specs.Turn.{IsLineTaken, TakesTurn}
use Rattle.server_session.specs.declared.session_state.SessionState.{SessionState}
use Rattle.server_session.proofs.Runs.{run-one, takes_turn-same, ended_one, cut_one, answers_none, answers_join, answers_as, stops_behind, stops_before, stops_as}
use Rattle.server_session.proofs.Turns.{stays_self}
use Rattle.script_form.specs.Transcript.{BookStore}

-- ==== The turns that bytes end

behind_front : (xs ys zs : List Turn) → zs ≡ xs ++ ys → drop (length xs) zs ≡ ys
behind_front xs ys zs is = ap (drop (length xs)) is ∙ drop-append_seam xs ys

turns_ended-are : (taken bytes : List ℕ) (turns : List Turn) → turns_of (ended_lines (taken ++ bytes)) ≡ turns_of (ended_lines taken) ++ turns → turns_ended taken bytes ≡ turns
turns_ended-are taken bytes turns is = behind_front (turns_of (ended_lines taken)) turns (turns_of (ended_lines (taken ++ bytes))) is

-- they come after those that were ended, which stay
pub turns_ended-behind : (taken bytes : List ℕ) → turns_of (ended_lines (taken ++ bytes)) ≡ turns_of (ended_lines taken) ++ turns_ended taken bytes
turns_ended-behind taken bytes =
    let on = ended_lines-more taken bytes in
    let more : List Turn = turns_from (waiting_after_lines (ended_lines taken)) (map request_of on.more) in
    let is : turns_of (ended_lines (taken ++ bytes)) ≡ turns_of (ended_lines taken) ++ more = ap turns_of on.is ∙ turns_of-more (ended_lines taken) on.more in
    is ∙ ap (λ (ts : List Turn). turns_of (ended_lines taken) ++ ts) (sym (turns_ended-are taken bytes more is))

pub turns_ended-nil : (taken : List ℕ) → turns_ended taken [] ≡ []
turns_ended-nil taken = turns_ended-are taken [] [] (ap (λ bytes. turns_of (ended_lines bytes)) (append-nil taken) ∙ sym (append-nil (turns_of (ended_lines taken))))

pub turns_ended-part : (taken part : List ℕ) → has_no_feed part ≡ true → turns_ended taken part ≡ []
turns_ended-part taken part none = turns_ended-are taken part [] (ap turns_of (ended_lines-part taken part none) ∙ sym (append-nil (turns_of (ended_lines taken))))

pub turns_ended-line : (taken part : List ℕ) → has_no_feed part ≡ true
    → turns_ended taken (part ++ 10 ∷ []) ≡ ended_by (waiting_after_lines (ended_lines taken)) (request_of (without_cr (unended (taken ++ part))))
turns_ended-line taken part none =
    turns_ended-are taken (part ++ 10 ∷ []) (ended_by (waiting_after_lines (ended_lines taken)) (request_of (without_cr (unended (taken ++ part)))))
    (ap turns_of (ended_lines-line taken part none) ∙ turns_of-push (ended_lines taken) (without_cr (unended (taken ++ part))))

pub turns_ended-join : (taken xs ys : List ℕ) → turns_ended taken xs ++ turns_ended (taken ++ xs) ys ≡ turns_ended taken (xs ++ ys)
turns_ended-join taken xs ys =
    sym (turns_ended-are taken (xs ++ ys) (turns_ended taken xs ++ turns_ended (taken ++ xs) ys) (
    ap (λ bytes. turns_of (ended_lines bytes)) (sym (append_assoc taken xs ys)) ∙ turns_ended-behind (taken ++ xs) ys
    ∙ ap (λ (ts : List Turn). ts ++ turns_ended (taken ++ xs) ys) (turns_ended-behind taken xs)
    ∙ append_assoc (turns_of (ended_lines taken)) (turns_ended taken xs) (turns_ended (taken ++ xs) ys)
    ))

-- those at the end of the script
pub last_lines_on : (ended last : List (List ℕ)) → (more : List Turn) × (all_turns_of (ended ++ last) ≡ turns_of ended ++ more)
last_lines_on ended last = (
  turns_from (waiting_after_lines ended) (map request_of last) ++ cut_off_in (waiting_after_lines (ended ++ last)),
  ap (λ (ts : List Turn). ts ++ cut_off_in (waiting_after_lines (ended ++ last))) (turns_of-more ended last)
      ∙ append_assoc (turns_of ended) (turns_from (waiting_after_lines ended) (map request_of last)) (cut_off_in (waiting_after_lines (ended ++ last))),
)

pub turns_at_end-are : (taken : List ℕ) (turns : List Turn) → all_turns_of (whole_lines taken) ≡ turns_of (ended_lines taken) ++ turns → turns_at_end taken ≡ turns
turns_at_end-are taken turns is = behind_front (turns_of (ended_lines taken)) turns (all_turns_of (whole_lines taken)) is

pub turns_at_end-behind : (taken : List ℕ) → all_turns_of (whole_lines taken) ≡ turns_of (ended_lines taken) ++ turns_at_end taken
turns_at_end-behind taken =
    let on = last_lines_on (ended_lines taken) (last_line (unended taken)) in
    on.1 ∙ ap (λ (ts : List Turn). turns_of (ended_lines taken) ++ ts) (sym (turns_at_end-are taken on.0 on.1))

pub turns_at_end-empty : (taken : List ℕ) → unended taken ≡ [] → turns_at_end taken ≡ cut_off_in (waiting_after_lines (ended_lines taken))
turns_at_end-empty taken none =
    turns_at_end-are taken (cut_off_in (waiting_after_lines (ended_lines taken)))
    (ap all_turns_of (ap (λ l. ended_lines taken ++ last_line l) none ∙ append-nil (ended_lines taken)))

last_line-is : (rest : List ℕ) → 0 < length rest → last_line rest ≡ rest ∷ []
last_line-is [] some = absurd (omega arith)
last_line-is (b ∷ rest) some = refl

pub turns_at_end-last : (taken : List ℕ) → 0 < length (unended taken) → turns_at_end taken
    ≡ ended_by (waiting_after_lines (ended_lines taken)) (request_of (unended taken)) ++ cut_off_in (waiting_after (waiting_after_lines (ended_lines taken)) (request_of (unended taken)))
turns_at_end-last taken some =
    let lines = ended_lines taken in
    let last = unended taken in
    turns_at_end-are taken (ended_by (waiting_after_lines lines) (request_of last) ++ cut_off_in (waiting_after (waiting_after_lines lines) (request_of last))) (
    ap (λ l. all_turns_of (lines ++ l)) (last_line-is last some)
    ∙ ap (λ (ts : List Turn). ts ++ cut_off_in (waiting_after_lines (lines ++ last ∷ []))) (turns_of-push lines last)
    ∙ ap (λ w. (turns_of lines ++ ended_by (waiting_after_lines lines) (request_of last)) ++ cut_off_in w) (waiting_after_lines-push lines last)
    ∙ append_assoc (turns_of lines) (ended_by (waiting_after_lines lines) (request_of last)) (cut_off_in (waiting_after (waiting_after_lines lines) (request_of last)))
    )

-- ==== A part of a line

-- the line that is kept, with a part behind it
pub kept_part : (old : SessionState) (part line taken : List ℕ) → has_no_feed part ≡ true → line ≡ take line_room (old.line ++ part) → HasTaken old taken → line ≡ take line_room (unended (taken ++ part))
kept_part old part line taken none is has =
    is ∙ ap (λ l. take line_room (l ++ part)) has.line ∙ take-join line_room (unended taken) part ∙ ap (take line_room) (sym (unended-part taken part none))

-- that ends no line
pub takes_part : (old new : SessionState) (part : List ℕ) → has_no_feed part ≡ true → new.line ≡ take line_room (old.line ++ part) → new.waiting ≡ old.waiting
    → (taken : List ℕ) → HasTaken old taken → HasTaken new (taken ++ part)
takes_part old new part none is same taken has = record {
  line = kept_part old part new.line taken none is has;
  waits = subst (λ (lines : List (List ℕ)). IsOpen (waiting_after_lines lines) new.waiting) (sym (ended_lines-part taken part none))
      (subst (λ (o : Option OpenBatch). IsOpen (waiting_after_lines (ended_lines taken)) o) (sym same) has.waits);
}

pub answers_part : (stored : BookStore) (me : Known) (part : List ℕ) (output : Option (List ℕ)) → has_no_feed part ≡ true → (taken : List ℕ) → AnswersTurns stored me (turns_ended taken part) me output output
answers_part stored me part output none taken =
    answers_as stored me me [] (turns_ended taken part) output output (sym (turns_ended-part taken part none)) (answers_none stored me output)

-- with a line feed behind it: the line that is kept ends the turn that the whole line ends
module _ (stored : BookStore) (old : SessionState) (part line : List ℕ) (none : has_no_feed part ≡ true) (pushed : line ≡ take line_room (old.line ++ part)) (was now : Known) (before after : Option OpenBatch)
    (ended : List ℕ) (same : before ≡ old.waiting) (is : ended ≡ without_cr line) where
  module _ (reply : List ℕ) (takes : TakesTurn stored was before ended now after reply) (taken : List ℕ) (has : HasTaken old taken) where
    fed_line : IsLineTaken stored was (waiting_after_lines (ended_lines taken)) (without_cr (unended (taken ++ part))) now after reply
    fed_line =
        let kept = kept_part old part line taken none pushed has in
        let whole =
        takes_turn-same stored ended (without_cr (unended (taken ++ part))) (ap request_of is ∙ ap (λ l. request_of (without_cr l)) kept ∙ request_of-cut_ended (unended (taken ++ part))) was now before after reply
        takes in
        whole.taken (waiting_after_lines (ended_lines taken)) (subst (IsOpen (waiting_after_lines (ended_lines taken))) (sym same) has.waits)

    fed_waits : IsOpen (waiting_after_lines (ended_lines (taken ++ (part ++ 10 ∷ [])))) after
    fed_waits =
        subst (λ w. IsOpen w after) (sym (ap waiting_after_lines (ended_lines-line taken part none) ∙ waiting_after_lines-push (ended_lines taken) (without_cr (unended (taken ++ part))))) fed_line.waits

    fed_answers : (output all : Option (List ℕ)) → Appends output all reply → AnswersTurns stored was (turns_ended taken (part ++ 10 ∷ [])) now output all
    fed_answers output all appended =
        answers_as stored was now _ (turns_ended taken (part ++ 10 ∷ [])) output all (sym (turns_ended-line taken part none)) (record { replies = reply; reported = fed_line.answered; appended = appended })

    fed_stops : (output all : Option (List ℕ)) (front : List ℕ) → IsCutShort reply front → Appends output all front → AnswersInPart stored was (turns_ended taken (part ++ 10 ∷ [])) now output all
    fed_stops output all front short appended =
        stops_as stored was now _ (turns_ended taken (part ++ 10 ∷ [])) output all (sym (turns_ended-line taken part none)) (record {
          written = front;
          cut = cut_one stored was now _ reply front (ended_one (waiting_after_lines (ended_lines taken)) (request_of (without_cr (unended (taken ++ part))))) fed_line.answered short;
          appended = appended;
        })

  module _ {A E : Type 0} (output all : Option (List ℕ)) where
    pub takes_line : (result : Result A E) (new : SessionState) → new.line ≡ [] → new.waiting ≡ after → AnswersLine stored result was before ended now after output all
        → OnOk result ((taken : List ℕ) → HasTaken old taken → HasTaken new (taken ++ (part ++ 10 ∷ [])))
    takes_line (Ok a) new cleared open_after (reply, takes, appended) = λ taken has. record {
      line = cleared ∙ sym (ap (take line_room) (unended-line taken part) ∙ take-nil line_room);
      waits = subst (IsOpen (waiting_after_lines (ended_lines (taken ++ (part ++ 10 ∷ []))))) (sym open_after) (fed_waits reply takes taken has);
    }
    takes_line (Err e) new cleared open_after answers = tt

    pub answers_line : (result : Result A E) → AnswersLine stored result was before ended now after output all
        → OnOk result ((taken : List ℕ) → HasTaken old taken → AnswersTurns stored was (turns_ended taken (part ++ 10 ∷ [])) now output all)
    answers_line (Ok a) (reply, takes, appended) = λ taken has. fed_answers reply takes taken has output all appended
    answers_line (Err e) answers = tt

    pub stops_line : (result : Result A E) → AnswersLine stored result was before ended now after output all
        → OnErr result ((taken : List ℕ) → HasTaken old taken → AnswersInPart stored was (turns_ended taken (part ++ 10 ∷ [])) now output all)
    stops_line (Ok a) answers = tt
    stops_line (Err e) (reply, takes, (front, short, appended)) = λ taken has. fed_stops reply takes taken has output all front short appended

-- ==== Bytes, one after another

pub takes_none : (state : SessionState) (taken : List ℕ) → HasTaken state taken → HasTaken state (taken ++ [])
takes_none state taken has = subst (HasTaken state) (sym (append-nil taken)) has

pub answers_nothing : (stored : BookStore) (me : Known) (output : Option (List ℕ)) (taken : List ℕ) → AnswersTurns stored me (turns_ended taken []) me output output
answers_nothing stored me output taken = answers_as stored me me [] (turns_ended taken []) output output (sym (turns_ended-nil taken)) (answers_none stored me output)

-- bytes, and then more bytes
module _ (stored : BookStore) (first mid : SessionState) (was between now : Known) (xs ys zs : List ℕ) (output middle all : Option (List ℕ)) (joined : xs ++ ys ≡ zs) (stays : Stays was between)
    (takes : (taken : List ℕ) → HasTaken first taken → HasTaken mid (taken ++ xs))
    (answers : (taken : List ℕ) → HasTaken first taken → AnswersTurns stored was (turns_ended taken xs) between output middle) where
  pub takes_more : (end : SessionState) → ((taken : List ℕ) → HasTaken mid taken → HasTaken end (taken ++ ys)) → (taken : List ℕ) → HasTaken first taken → HasTaken end (taken ++ zs)
  takes_more end next taken has = subst (HasTaken end) (append_assoc taken xs ys ∙ ap (λ bytes. taken ++ bytes) joined) (next (taken ++ xs) (takes taken has))

  pub answers_more : ((taken : List ℕ) → HasTaken mid taken → AnswersTurns stored between (turns_ended taken ys) now middle all)
      → (taken : List ℕ) → HasTaken first taken → AnswersTurns stored was (turns_ended taken zs) now output all
  answers_more next taken has =
      answers_as stored was now _ (turns_ended taken zs) output all (turns_ended-join taken xs ys ∙ ap (turns_ended taken) joined)
      (answers_join stored was between now (turns_ended taken xs) (turns_ended (taken ++ xs) ys) output middle all stays (answers taken has) (next (taken ++ xs) (takes taken has)))

  stops_more : ((taken : List ℕ) → HasTaken mid taken → AnswersInPart stored between (turns_ended taken ys) now middle all)
      → (taken : List ℕ) → HasTaken first taken → AnswersInPart stored was (turns_ended taken zs) now output all
  stops_more next taken has =
      stops_as stored was now _ (turns_ended taken zs) output all (turns_ended-join taken xs ys ∙ ap (turns_ended taken) joined)
      (stops_behind stored was between now (turns_ended taken xs) (turns_ended (taken ++ xs) ys) output middle all stays (answers taken has) (next (taken ++ xs) (takes taken has)))

-- a failed write: the bytes that were not looked at any more make no difference
pub stops_there : (stored : BookStore) (first mid : SessionState) (was between now : Known) (xs ys rest all_bytes : List ℕ) (output middle all : Option (List ℕ)) → (xs ++ ys) ++ rest ≡ all_bytes → Stays was between
    → ((taken : List ℕ) → HasTaken first taken → HasTaken mid (taken ++ xs)) → ((taken : List ℕ) → HasTaken first taken → AnswersTurns stored was (turns_ended taken xs) between output middle)
    → ((taken : List ℕ) → HasTaken mid taken → AnswersInPart stored between (turns_ended taken ys) now middle all)
    → (taken : List ℕ) → HasTaken first taken → AnswersInPart stored was (turns_ended taken all_bytes) now output all
stops_there stored first mid was between now xs ys rest all_bytes output middle all joined stays takes answers next taken has =
    stops_as stored was now _ (turns_ended taken all_bytes) output all (turns_ended-join taken (xs ++ ys) rest ∙ ap (turns_ended taken) joined)
    (stops_before stored was now (turns_ended taken (xs ++ ys)) (turns_ended (taken ++ (xs ++ ys)) rest) output all
    (stops_more stored first mid was between now xs ys (xs ++ ys) output middle all refl stays takes answers next taken has))

-- ==== The end of the script

-- no batch waits, or one waits and is refused
cut_off_none : (waiting : Option Waiting) → IsOpen waiting None → cut_off_in waiting ≡ []
cut_off_none None waits = refl
cut_off_none (Some waiting) waits = absurd waits

pub cut_off_run : (stored : BookStore) (me : Known) (waiting : Option Waiting) (open_batch : OpenBatch) → IsOpen waiting (Some open_batch)
    → IsSharedRun stored me (cut_off_in waiting) me (error_line CommandSyntax)
cut_off_run stored me None open_batch waits = absurd waits
cut_off_run stored me (Some waiting) open_batch waits =
    run-one stored me me (cut_off waiting.came) [] (error_line CommandSyntax)
    (record { goes_on = (stays_self me).goes_on; answered = record { nothing_made = refl; says = refl } }) (sym (append-nil me.made))

cut_off_one : (waiting : Option Waiting) → (cut_off_in waiting ≡ []) ⊎ ((turn : Turn) × (cut_off_in waiting ≡ turn ∷ []))
cut_off_one None = inl refl
cut_off_one (Some waiting) = inr (cut_off waiting.came, refl)

pub ends_alone : (open_before : Option OpenBatch) (output : Option (List ℕ)) → is_some open_before ≡ false
    → (stored : BookStore) (me : Known) (waiting : Option Waiting) → IsOpen waiting open_before → AnswersTurns stored me (cut_off_in waiting) me output output
ends_alone None output none stored me waiting waits =
    answers_as stored me me [] (cut_off_in waiting) output output (sym (cut_off_none waiting waits)) (answers_none stored me output)
ends_alone (Some open_batch) output none stored me waiting waits = absurd (true≢false none)

pub ends_refused : {A E : Type 0} (result : Result A E) (open_before : Option OpenBatch) (output all : Option (List ℕ)) → is_some open_before ≡ true
    → Writes result output all (error_line CommandSyntax) → (stored : BookStore) → EndsBatch stored result open_before output all
ends_refused result None output all some writes stored = absurd (false≢true some)
ends_refused (Ok a) (Some open_batch) output all some appended stored = λ me waiting waits.
    record { replies = error_line CommandSyntax; reported = cut_off_run stored me waiting open_batch waits; appended = appended }
ends_refused (Err e) (Some open_batch) output all some (front, short, appended) stored = λ me waiting waits. record {
  written = front;
  cut = cut_one stored me me (cut_off_in waiting) (error_line CommandSyntax) front (cut_off_one waiting) (cut_off_run stored me waiting open_batch waits) short;
  appended = appended;
}

-- nothing is kept where nothing comes after the last line feed
some_room : 0 < line_room
unfolding line_room
some_room = lit< tt

take_of_some : (n : ℕ) (rest : List ℕ) → 0 < n → length (take n rest) ≡ 0 → rest ≡ []
take_of_some n [] some none = refl
take_of_some zero (b ∷ rest) some none = absurd (omega arith)
take_of_some (suc n) (b ∷ rest) some none = absurd (omega arith)

pub no_rest : (state : SessionState) (taken : List ℕ) → HasTaken state taken → length state.line ≡ 0 → unended taken ≡ []
no_rest state taken has none = take_of_some line_room (unended taken) some_room (sym (ap length has.line) ∙ none)

pub some_rest : (state : SessionState) (taken : List ℕ) → HasTaken state taken → 0 < length state.line → 0 < length (unended taken)
some_rest state taken has some = omega (arith, ap length has.line, length-take line_room (unended taken))

-- the script ends after a line feed
module _ {A E : Type 0} (stored : BookStore) (state : SessionState) (me : Known) (before : Option OpenBatch) (output all : Option (List ℕ)) (same : before ≡ state.waiting) (none : length state.line ≡ 0) where
  pub answers_empty : (result : Result A E) → EndsBatch stored result before output all → OnOk result ((taken : List ℕ) → HasTaken state taken → AnswersTurns stored me (turns_at_end taken) me output all)
  answers_empty (Ok a) ends = λ taken has.
      answers_as stored me me _ (turns_at_end taken) output all (sym (turns_at_end-empty taken (no_rest state taken has none)))
      (ends me (waiting_after_lines (ended_lines taken)) (subst (IsOpen (waiting_after_lines (ended_lines taken))) (sym same) has.waits))
  answers_empty (Err e) ends = tt

  pub stops_empty : (result : Result A E) → EndsBatch stored result before output all → OnErr result ((taken : List ℕ) → HasTaken state taken → AnswersInPart stored me (turns_at_end taken) me output all)
  stops_empty (Ok a) ends = tt
  stops_empty (Err e) ends = λ taken has.
      stops_as stored me me _ (turns_at_end taken) output all (sym (turns_at_end-empty taken (no_rest state taken has none)))
      (ends me (waiting_after_lines (ended_lines taken)) (subst (IsOpen (waiting_after_lines (ended_lines taken))) (sym same) has.waits))

-- a last line
module _ (stored : BookStore) (state : SessionState) (was now : Known) (before after : Option OpenBatch) (bytes reply : List ℕ) (same : before ≡ state.waiting) (is : bytes ≡ state.line) (some : 0 < length state.line)
    (takes : TakesTurn stored was before bytes now after reply) (taken : List ℕ) (has : HasTaken state taken) where
  last_taken : IsLineTaken stored was (waiting_after_lines (ended_lines taken)) (unended taken) now after reply
  last_taken =
      let whole = takes_turn-same stored bytes (unended taken) (ap request_of (is ∙ has.line) ∙ request_of-cut (unended taken)) was now before after reply takes in
      whole.taken (waiting_after_lines (ended_lines taken)) (subst (IsOpen (waiting_after_lines (ended_lines taken))) (sym same) has.waits)

  last_turns : ended_by (waiting_after_lines (ended_lines taken)) (request_of (unended taken)) ++ cut_off_in (waiting_after (waiting_after_lines (ended_lines taken)) (request_of (unended taken))) ≡ turns_at_end taken
  last_turns = sym (turns_at_end-last taken (some_rest state taken has some))

  last_answers : (output all : Option (List ℕ)) → Appends output all reply → AnswersTurns stored was (ended_by (waiting_after_lines (ended_lines taken)) (request_of (unended taken))) now output all
  last_answers output all appended = record { replies = reply; reported = last_taken.answered; appended = appended }

pub answers_last : {A E : Type 0} (result : Result A E) (stored : BookStore) (state : SessionState) (was now : Known) (before after : Option OpenBatch) (bytes : List ℕ) (output middle all : Option (List ℕ))
    → before ≡ state.waiting → bytes ≡ state.line → 0 < length state.line → ((reply : List ℕ) × TakesTurn stored was before bytes now after reply × Appends output middle reply)
    → EndsBatch stored result after middle all → OnOk result ((taken : List ℕ) → HasTaken state taken → AnswersTurns stored was (turns_at_end taken) now output all)
answers_last (Ok a) stored state was now before after bytes output middle all same is some (reply, takes, appended) ends = λ taken has.
    answers_as stored was now _ (turns_at_end taken) output all (last_turns stored state was now before after bytes reply same is some takes taken has)
    (answers_join stored was now now _ _ output middle all takes.stays (last_answers stored state was now before after bytes reply same is some takes taken has output middle appended)
    (ends now _ (last_taken stored state was now before after bytes reply same is some takes taken has).waits))
answers_last (Err e) stored state was now before after bytes output middle all same is some reported ends = tt

pub stops_last : {A E : Type 0} (result : Result A E) (stored : BookStore) (state : SessionState) (was now : Known) (before after : Option OpenBatch) (bytes : List ℕ) (output middle all : Option (List ℕ))
    → before ≡ state.waiting → bytes ≡ state.line → 0 < length state.line → ((reply : List ℕ) × TakesTurn stored was before bytes now after reply × Appends output middle reply)
    → EndsBatch stored result after middle all → OnErr result ((taken : List ℕ) → HasTaken state taken → AnswersInPart stored was (turns_at_end taken) now output all)
stops_last (Ok a) stored state was now before after bytes output middle all same is some reported ends = tt
stops_last (Err e) stored state was now before after bytes output middle all same is some (reply, takes, appended) ends = λ taken has.
    stops_as stored was now _ (turns_at_end taken) output all (last_turns stored state was now before after bytes reply same is some takes taken has)
    (stops_behind stored was now now _ _ output middle all takes.stays (last_answers stored state was now before after bytes reply same is some takes taken has output middle appended)
    (ends now _ (last_taken stored state was now before after bytes reply same is some takes taken has).waits))

-- a last line whose reply was cut short
pub stops_at_last : (stored : BookStore) (state : SessionState) (was now : Known) (before after : Option OpenBatch) (bytes : List ℕ) (output all : Option (List ℕ))
    → before ≡ state.waiting → bytes ≡ state.line → 0 < length state.line
    → ((reply : List ℕ) × TakesTurn stored was before bytes now after reply × ((front : List ℕ) × IsCutShort reply front × Appends output all front))
    → (taken : List ℕ) → HasTaken state taken → AnswersInPart stored was (turns_at_end taken) now output all
stops_at_last stored state was now before after bytes output all same is some (reply, takes, (front, short, appended)) taken has =
    stops_as stored was now _ (turns_at_end taken) output all (last_turns stored state was now before after bytes reply same is some takes taken has)
    (stops_before stored was now _ _ output all (record {
      written = front;
      cut = cut_one stored was now _ reply front (ended_one (waiting_after_lines (ended_lines taken)) (request_of (unended taken)))
          (last_taken stored state was now before after bytes reply same is some takes taken has).answered short;
      appended = appended;
    }))

-- what holds of a failure holds of a result that is one
pub at_err : {A E : Type 0} (P Q : Type 0) (result : Result A E) → IsErr result → Q → MatchResult result (λ _. P) (λ _. Q)
at_err P Q (Ok a) fails q = absurd (false≢true fails)
at_err P Q (Err e) fails q = q
