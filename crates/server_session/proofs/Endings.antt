-- How a session ends, from where it is.
use Rattle.std.proofs.Common.{◌≡◌, ℕ, zero, suc, ◌+◌, ◌-◌, ◌≤◌, min, ◌⊎◌, inl, inr, Bool, true, false, Option, Some, None, Result, Ok, Err, OnOk, OnErr, List, [], ◌∷◌, ◌++◌, length, take, refl, sym, ap, ◌∙◌, subst, append-nil, arith}
use Rattle.std.proofs.lemmas.List.{take_all, take-take, length-take, length-append}
use Rattle.std.proofs.lemmas.Bool.{cases_lt, false≢true, true≢false}
use Rattle.std.specs.Result.{is_err}
use Rattle.std.specs.Io.KnownBytes.{Appends, Consumes, Keeps, IsAtEnd}
use Rattle.std.proofs.KnownBytes.{Appends-nil, Appends-trans, Consumes-nil, Consumes-trans, Consumes-kept}
use Rattle.book_history.specs.Known.{Known}
use Rattle.script_form.specs.declared.session_end.SessionEnd.{SessionEnd}
use Rattle.script_form.specs.declared.session_end.SessionEnd.TheVariants.{End, Failed}
use Rattle.script_form.specs.declared.fault.CommandFault.TheVariants.{ReadLimit, Read}
use Rattle.script_form.specs.Turns.{Turn, turns_of, all_turns_of}
use Rattle.script_form.specs.Lines.{ended_lines, whole_lines}
use Rattle.script_form.specs.Replies.{error_line}
use Rattle.script_form.specs.Writing.{IsCutShort}
use Rattle.script_form.proofs.LongLines.{take-nil}
use Rattle.server_session.specs.Loop.{EndsBy, Finishes}
use Rattle.server_session.specs.Replying.{IsPastMost}
use Rattle.server_session.specs.Session.{IsSharedRun, IsFaultReported, IsCutOff, EndsSo, IsSessionWithin, Stays}
use Rattle.server_session.specs.SessionState.{HasTaken, turns_ended, turns_at_end, AnswersTurns, AnswersInPart}
use Rattle.server_session.specs.declared.session_state.SessionState.{SessionState}
use Rattle.server_session.proofs.Runs.{run-none, run-join, cut_behind}
use Rattle.server_session.proofs.Steps.{turns_ended-behind, turns_at_end-behind}
use Rattle.script_form.specs.Transcript.{BookStore}

-- a session under way: what it took and wrote, and where it is, a byte too many left out
pub record IsUnderWay (most : ℕ) (stored : BookStore) (was : Known) (input left output all : Option (List ℕ)) (count : ℕ) (state : SessionState) (now : Known) : Type 0 where
  pub taken : List ℕ
  pub as_many : length taken ≡ count
  pub reads : Consumes input left taken
  pub written : List ℕ
  pub writes : Appends output all written
  pub reported : IsSharedRun stored was (turns_of (ended_lines (take most taken))) now written
  pub stands : HasTaken state (take most taken)

-- a byte too many came of a script that is longer than it may be
past_by : (most : ℕ) (taken : List ℕ) (input left : Option (List ℕ)) → Consumes input left taken → length taken ≡ most + 1 → IsPastMost most input
past_by most taken None left reads past = tt
past_by most taken (Some bytes) None reads past = absurd reads
past_by most taken (Some bytes) (Some rest) reads past = omega (arith, past, ap length reads, length-append taken rest)

pub past_most : (most : ℕ) (stored : BookStore) (was : Known) (input left output all : Option (List ℕ)) (count : ℕ) (state : SessionState) (now : Known)
    → IsUnderWay most stored was input left output all count state now → count ≡ most + 1 → IsPastMost most input
past_most most stored was input left output all count state now way past = past_by most way.taken input left way.reads (way.as_many ∙ past)

-- the front of a script that is not too long is the whole of it
pub in_limit : (most : ℕ) (taken : List ℕ) → length taken ≤ most → take most taken ≡ taken
in_limit most taken short = take_all most taken short

-- the turns of a script that was taken so far, and those that its end ends, or more bytes
to_end : (stored : BookStore) (was old new : Known) (taken replies more : List ℕ) → Stays was old → IsSharedRun stored was (turns_of (ended_lines taken)) old replies
    → IsSharedRun stored old (turns_at_end taken) new more → IsSharedRun stored was (all_turns_of (whole_lines taken)) new (replies ++ more)
to_end stored was old new taken replies more stays run next =
    subst (λ (ts : List Turn). IsSharedRun stored was ts new (replies ++ more)) (sym (turns_at_end-behind taken)) (run-join stored was old new _ _ replies more stays run next)

cut_at_end : (stored : BookStore) (was old new : Known) (taken replies written : List ℕ) → Stays was old → IsSharedRun stored was (turns_of (ended_lines taken)) old replies
    → IsCutOff stored old new (turns_at_end taken) written → IsCutOff stored was new (all_turns_of (whole_lines taken)) (replies ++ written)
cut_at_end stored was old new taken replies written stays run cut =
    subst (λ (ts : List Turn). IsCutOff stored was new ts (replies ++ written)) (sym (turns_at_end-behind taken)) (cut_behind stored was old new _ _ replies written stays run cut)

further : (stored : BookStore) (was old new : Known) (taken bytes replies more : List ℕ) → Stays was old → IsSharedRun stored was (turns_of (ended_lines taken)) old replies
    → IsSharedRun stored old (turns_ended taken bytes) new more → IsSharedRun stored was (turns_of (ended_lines (taken ++ bytes))) new (replies ++ more)
further stored was old new taken bytes replies more stays run next =
    subst (λ (ts : List Turn). IsSharedRun stored was ts new (replies ++ more)) (sym (turns_ended-behind taken bytes)) (run-join stored was old new _ _ replies more stays run next)

cut_further : (stored : BookStore) (was old new : Known) (taken bytes replies written : List ℕ) → Stays was old → IsSharedRun stored was (turns_of (ended_lines taken)) old replies
    → IsCutOff stored old new (turns_ended taken bytes) written → IsCutOff stored was new (turns_of (ended_lines (taken ++ bytes))) (replies ++ written)
cut_further stored was old new taken bytes replies written stays run cut =
    subst (λ (ts : List Turn). IsCutOff stored was new ts (replies ++ written)) (sym (turns_ended-behind taken bytes)) (cut_behind stored was old new _ _ replies written stays run cut)

-- at the end of the script
pub ends-finished : (most : ℕ) (stored : BookStore) (was : Known) (end : SessionEnd) (input left left_after output mid all : Option (List ℕ)) (count : ℕ) (state : SessionState) (old new : Known)
    → IsUnderWay most stored was input left output mid count state old → Stays was old → count ≤ most → Consumes left left_after [] → IsAtEnd left_after
    → Finishes stored end state old new mid all → IsSessionWithin most stored end was new input left_after output all
ends-finished most stored was End input left left_after output mid all count state old new way stays within reads at_end finishes =
    let answers = finishes (take most way.taken) way.stands in
    let short = subst (λ n. n ≤ most) (sym way.as_many) within in
    record {
      taken = way.taken;
      written = way.written ++ answers.replies;
      reads = subst (Consumes input left_after) (append-nil way.taken) (Consumes-trans input left left_after way.taken [] way.reads reads);
      writes = Appends-trans output mid all way.written answers.replies way.writes answers.appended;
      ended = record {
        all_taken = at_end;
        short = short;
        reported = subst (λ t. IsSharedRun stored was (all_turns_of (whole_lines t)) new (way.written ++ answers.replies)) (in_limit most way.taken short)
            (to_end stored was old new (take most way.taken) way.written answers.replies stays way.reported answers.reported);
      };
    }
ends-finished most stored was (Failed code) input left left_after output mid all count state old new way stays within reads at_end finishes =
    let (is, part) = finishes (take most way.taken) way.stands in
    let short = subst (λ n. n ≤ most) (sym way.as_many) within in
    record {
      taken = way.taken;
      written = way.written ++ part.written;
      reads = subst (Consumes input left_after) (append-nil way.taken) (Consumes-trans input left left_after way.taken [] way.reads reads);
      writes = Appends-trans output mid all way.written part.written way.writes part.appended;
      ended = inr (inr (inl (
        is,
        inr (inl (
          at_end,
          short,
          subst (λ t. IsCutOff stored was new (all_turns_of (whole_lines t)) (way.written ++ part.written)) (in_limit most way.taken short)
              (cut_at_end stored was old new (take most way.taken) way.written part.written stays way.reported part.cut),
        )),
      )));
    }

-- what a session wrote and took, with a fault's line
fault_line : (end : SessionEnd) (number : ℕ) (line : List ℕ) (mid all : Option (List ℕ)) → EndsBy end number line mid all
    → ((end ≡ Failed number) × Appends mid all line) ⊎ ((end ≡ Failed 49) × ((front : List ℕ) × IsCutShort line front × Appends mid all front))
fault_line End number line mid all ends = absurd ends
fault_line (Failed code) number line mid all (inl (is, appended)) = inl (ap Failed is, appended)
fault_line (Failed code) number line mid all (inr (is, front, short, appended)) = inr (ap Failed is, (front, short, appended))

-- a read failed
pub ends-at_read : (most : ℕ) (stored : BookStore) (was : Known) (end : SessionEnd) (input left left_after output mid all : Option (List ℕ)) (count : ℕ) (state : SessionState) (now : Known)
    → IsUnderWay most stored was input left output mid count state now → count ≤ most → Keeps left left_after → EndsBy end 48 (error_line Read) mid all
    → IsSessionWithin most stored end was now input left_after output all
ends-at_read most stored was end input left left_after output mid all count state now way within kept ends =
    let short = subst (λ n. n ≤ most) (sym way.as_many) within in
    let reported = subst (λ t. IsSharedRun stored was (turns_of (ended_lines t)) now way.written) (in_limit most way.taken short) way.reported in
    let reads = Consumes-kept input left left_after way.taken way.reads kept in
    by_line (fault_line end 48 (error_line Read) mid all ends) (λ line. (short, record { replies = way.written; reported = reported; fault = refl })) reads where
      by_line : ((end ≡ Failed 48) × Appends mid all (error_line Read)) ⊎ ((end ≡ Failed 49) × ((front : List ℕ) × IsCutShort (error_line Read) front × Appends mid all front))
          → ((line : List ℕ) → (length way.taken ≤ most) × IsFaultReported stored was now way.taken line (way.written ++ line)) → Consumes input left_after way.taken → IsSessionWithin most stored end was now input left_after output all
      by_line (inl (same, appended)) fault reads = record {
        taken = way.taken;
        written = way.written ++ error_line Read;
        reads = reads;
        writes = Appends-trans output mid all way.written (error_line Read) way.writes appended;
        ended = subst (λ e. EndsSo most stored e was now way.taken left_after (way.written ++ error_line Read)) (sym same) (inr (inl (refl, (fault (error_line Read)).0, (fault (error_line Read)).1)));
      }
      by_line (inr (same, (front, cut, appended))) fault reads = record {
        taken = way.taken;
        written = way.written ++ front;
        reads = reads;
        writes = Appends-trans output mid all way.written front way.writes appended;
        ended = subst (λ e. EndsSo most stored e was now way.taken left_after (way.written ++ front)) (sym same) (inr (inr (inl (refl, inr (inr (inr (front, cut, (fault front).0, (fault front).1)))))));
      }

-- a byte too many was read
pub ends-past_limit : (most : ℕ) (stored : BookStore) (was : Known) (end : SessionEnd) (input left output mid all : Option (List ℕ)) (count : ℕ) (state : SessionState) (now : Known)
    → IsUnderWay most stored was input left output mid count state now → count ≡ most + 1 → EndsBy end 47 (error_line ReadLimit) mid all
    → IsSessionWithin most stored end was now input left output all
ends-past_limit most stored was end input left output mid all count state now way past ends =
    by_line (fault_line end 47 (error_line ReadLimit) mid all ends) (λ line. (way.as_many ∙ past, record { replies = way.written; reported = way.reported; fault = refl })) where
      by_line : ((end ≡ Failed 47) × Appends mid all (error_line ReadLimit)) ⊎ ((end ≡ Failed 49) × ((front : List ℕ) × IsCutShort (error_line ReadLimit) front × Appends mid all front))
          → ((line : List ℕ) → (length way.taken ≡ most + 1) × IsFaultReported stored was now (take most way.taken) line (way.written ++ line)) → IsSessionWithin most stored end was now input left output all
      by_line (inl (same, appended)) fault = record {
        taken = way.taken;
        written = way.written ++ error_line ReadLimit;
        reads = way.reads;
        writes = Appends-trans output mid all way.written (error_line ReadLimit) way.writes appended;
        ended = subst (λ e. EndsSo most stored e was now way.taken left (way.written ++ error_line ReadLimit)) (sym same) (inl (refl, (fault (error_line ReadLimit)).0, (fault (error_line ReadLimit)).1));
      }
      by_line (inr (same, (front, cut, appended))) fault = record {
        taken = way.taken;
        written = way.written ++ front;
        reads = way.reads;
        writes = Appends-trans output mid all way.written front way.writes appended;
        ended = subst (λ e. EndsSo most stored e was now way.taken left (way.written ++ front)) (sym same) (inr (inr (inl (refl, inr (inr (inl (front, cut, (fault front).0, (fault front).1)))))));
      }

-- the front of a front
pub take_of_take : (a c m : ℕ) (xs : List ℕ) → m ≡ min c a → take a (take c xs) ≡ take m xs
take_of_take a c m xs is =
    elim (cases_lt c a) as (λ _. take a (take c xs) ≡ take m xs) [
      | inl less ↦ take_all a (take c xs) (omega (arith, length-take c xs)) ∙ ap (λ n. take n xs) (omega arith)
      | inr least ↦ take-take a c xs least ∙ ap (λ n. take n xs) (omega arith)
    ]

-- what a script that goes on has within a limit
take_of_append : (n : ℕ) (xs ys : List ℕ) → length xs ≤ n → take n (xs ++ ys) ≡ xs ++ take (n - length xs) ys
take_of_append n [] ys short = ap (λ k. take k ys) (omega arith)
take_of_append zero (x ∷ xs) ys short = absurd (omega arith)
take_of_append (suc n) (x ∷ xs) ys short =
    ap (λ l. x ∷ l) (take_of_append n xs ys (omega arith) ∙ ap (λ k. xs ++ take k ys) (omega arith))

-- the bytes of a read, as far as the limit lets them in
pub let_in : (most : ℕ) (taken chunk : List ℕ) (count allowed : ℕ) → length taken ≤ most → allowed ≡ min count (most - length taken)
    → take most taken ++ take allowed chunk ≡ take most (taken ++ take count chunk)
let_in most taken chunk count allowed short is =
    ap (λ l. l ++ take allowed chunk) (in_limit most taken short)
    ∙ ap (λ l. taken ++ l) (sym (take_of_take (most - length taken) count allowed chunk is))
    ∙ sym (take_of_append most taken (take count chunk) short)

-- bytes are read and taken
pub goes_on : (most : ℕ) (stored : BookStore) (was : Known) (input left left_after output mid all : Option (List ℕ)) (count more allowed : ℕ) (chunk : List ℕ) (state state_then : SessionState) (old new : Known)
    → IsUnderWay most stored was input left output mid count state old → Stays was old → count ≤ most → more ≤ length chunk → allowed ≡ min more (most - count)
    → Consumes left left_after (take more chunk) → ((taken : List ℕ) → HasTaken state taken → HasTaken state_then (taken ++ take allowed chunk))
    → ((taken : List ℕ) → HasTaken state taken → AnswersTurns stored old (turns_ended taken (take allowed chunk)) new mid all)
    → IsUnderWay most stored was input left_after output all (count + more) state_then new
goes_on most stored was input left left_after output mid all count more allowed chunk state state_then old new way stays within room is reads takes answers =
    let short = subst (λ n. n ≤ most) (sym way.as_many) within in
    let answered = answers (take most way.taken) way.stands in
    let bytes : take most way.taken ++ take allowed chunk ≡ take most (way.taken ++ take more chunk) =
    let_in most way.taken chunk more allowed short (is ∙ ap (λ n. min more (most - n)) (sym way.as_many)) in
    record {
      taken = way.taken ++ take more chunk;
      as_many = omega (arith, length-append way.taken (take more chunk), length-take more chunk, way.as_many);
      reads = Consumes-trans input left left_after way.taken (take more chunk) way.reads reads;
      written = way.written ++ answered.replies;
      writes = Appends-trans output mid all way.written answered.replies way.writes answered.appended;
      reported = subst (λ t. IsSharedRun stored was (turns_of (ended_lines t)) new (way.written ++ answered.replies)) bytes
          (further stored was old new (take most way.taken) (take allowed chunk) way.written answered.replies stays way.reported answered.reported);
      stands = subst (HasTaken state_then) bytes (takes (take most way.taken) way.stands);
    }

-- bytes are read, and a write failed
pub ends-stopped : (most : ℕ) (stored : BookStore) (was : Known) (input left left_after output mid all : Option (List ℕ)) (count more allowed : ℕ) (chunk : List ℕ) (state : SessionState) (old new : Known)
    → IsUnderWay most stored was input left output mid count state old → Stays was old → count ≤ most → allowed ≡ min more (most - count)
    → Consumes left left_after (take more chunk) → ((taken : List ℕ) → HasTaken state taken → AnswersInPart stored old (turns_ended taken (take allowed chunk)) new mid all)
    → IsSessionWithin most stored (Failed 49) was new input left_after output all
ends-stopped most stored was input left left_after output mid all count more allowed chunk state old new way stays within is reads stops =
    let short = subst (λ n. n ≤ most) (sym way.as_many) within in
    let part = stops (take most way.taken) way.stands in
    record {
      taken = way.taken ++ take more chunk;
      written = way.written ++ part.written;
      reads = Consumes-trans input left left_after way.taken (take more chunk) way.reads reads;
      writes = Appends-trans output mid all way.written part.written way.writes part.appended;
      ended = inr (inr (inl (
        refl,
        inl (subst (λ t. IsCutOff stored was new (turns_of (ended_lines t)) (way.written ++ part.written))
            (let_in most way.taken chunk more allowed short (is ∙ ap (λ n. min more (most - n)) (sym way.as_many)))
            (cut_further stored was old new (take most way.taken) (take allowed chunk) way.written part.written stays way.reported part.cut)),
      )));
    }

-- a session begins with nothing taken and nothing written
pub begins : (most : ℕ) (stored : BookStore) (was : Known) (input output : Option (List ℕ)) (state : SessionState) → HasTaken state [] → IsUnderWay most stored was input input output output 0 state was
begins most stored was input output state begun = record {
  taken = [];
  as_many = refl;
  reads = Consumes-nil input;
  written = [];
  writes = Appends-nil output;
  reported = subst (λ t. IsSharedRun stored was (turns_of (ended_lines t)) was []) (sym (take-nil most)) (run-none stored was);
  stands = subst (HasTaken state) (sym (take-nil most)) begun;
}

-- a session that finds no memory for itself
pub begins_not : (most : ℕ) (stored : BookStore) (was : Known) (input output : Option (List ℕ)) → IsSessionWithin most stored (Failed 40) was was input input output output
begins_not most stored was input output = record {
  taken = [];
  written = [];
  reads = Consumes-nil input;
  writes = Appends-nil output;
  ended = inr (inr (inr (refl, refl, refl, refl)));
}

-- a read of no byte
pub reads_none : (left left_after : Option (List ℕ)) (count : ℕ) (chunk : List ℕ) → count ≡ 0 → Consumes left left_after (take count chunk) → Consumes left left_after []
reads_none left left_after count chunk none reads = subst (λ n. Consumes left left_after (take n chunk)) none reads

-- what holds where a result is no failure, and where it is one
pub when_err : {A E : Type 0} (P : Type 0) (result : Result A E) → is_err result ≡ true → OnErr result P → P
when_err P (Ok a) fails holds = absurd (false≢true fails)
when_err P (Err e) fails holds = holds

pub when_ok : {A E : Type 0} (P : Type 0) (result : Result A E) → is_err result ≡ false → OnOk result P → P
when_ok P (Ok a) works holds = holds
when_ok P (Err e) works holds = absurd (true≢false works)
