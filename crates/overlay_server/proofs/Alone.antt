-- A book whose commands are all of its first session: what was accepted are the batches that the session made.
use Rattle.std.proofs.Common.{◌≡◌, ◌<◌, ◌≤◌, ◌+◌, ◌++◌, ◌∷◌, ◌==◌, [], ℕ, Bool, List, All, cond, filter, length, map, length-append, refl, ap, sym, ◌∙◌, subst, arith}
use mathlib.Core.List.{IsPrefix}
use Rattle.std.proofs.lemmas.Bool.{eq-eqb}
use Rattle.std.proofs.lemmas.List.{append-nil}
use Rattle.std.proofs.lemmas.List.Elements.{All-head, All-tail}
use Rattle.overlay_terms.specs.Batches.{Batch}
use Rattle.overlay_terms.specs.Histories.{Entry, History, IsHistory, accepted_in, commands_in, commands_of}
use Rattle.overlay_terms.proofs.HistoryFolds.{own_are_among_all}
use Rattle.book_history.specs.Known.{seen}
use Rattle.book_history.specs.Logs.{history_of, IsLog}
use Rattle.book_history.proofs.Chains.{begins_with, commands_in_log, is_history}
use Rattle.script_form.specs.Transcript.{BookStore}
use Rattle.line_laws.specs.Deciding.{AreTurnsOf, made_by}
use Rattle.line_laws.proofs.Entries.{accepted_more, count, history_front}
use Rattle.line_laws.proofs.Runs.{transcripts_have_turns, turns_grow}
use Rattle.overlay_server.specs.Alone.{OneSessionIsAlone, first_session}

-- all that are numbered below 1 have the number 0
keep_all : (cs : List (ℕ × Batch)) → All (λ (c : ℕ × Batch). c.0 < 1) cs → filter (λ c. c.0 == 0) cs ≡ cs
keep_all [] all = refl
keep_all (c ∷ cs) all =
    let P : ℕ × Batch → Type 0 = λ c. c.0 < 1 in
    let here : c.0 ≡ 0 = omega (arith, All-head P c cs all) in
    ap (λ (b : Bool). cond b (c ∷ filter (λ c. c.0 == 0) cs) (filter (λ c. c.0 == 0) cs)) (eq-eqb c.0 0 here)
    ∙ ap (λ (ds : List (ℕ × Batch)). c ∷ ds) (keep_all cs (All-tail P c cs all))

-- so the batches of session 0 are all
own_are_all : (es : List Entry) → All (λ (c : ℕ × Batch). c.0 < 1) (commands_in es) → commands_of 0 es ≡ accepted_in es
own_are_all es all = own_are_among_all 0 es ∙ ap (λ (cs : List (ℕ × Batch)). map (λ c. c.1) cs) (keep_all (commands_in es) all)

-- what was accepted in a front of a log, and after it
record IsFront (front log : List Entry) : Type 0 where
  history : IsHistory (history_of front)
  behind : List Batch
  whole : accepted_in (history_of log).entries ≡ accepted_in (history_of front).entries ++ behind

front_of : (front log : List Entry) → IsLog log → IsPrefix front log → IsFront front log
front_of [] log valid longer = record { history = tt; behind = accepted_in (history_of log).entries; whole = refl }
front_of (x ∷ xs) log valid longer =
    let on = begins_with (x ∷ xs) log (omega arith) longer in
    record {
      history = history_front (history_of (x ∷ xs)) (history_of log) on.0 on.1 (is_history log valid);
      behind = accepted_in on.0;
      whole = ap (λ (h : History). accepted_in h.entries) on.1 ∙ accepted_more (history_of (x ∷ xs)).entries on.0;
    }

-- a front that is as long as the whole is the whole
all_of_it : (front behind whole : List Batch) → whole ≡ front ++ behind → length whole ≤ length front → front ≡ whole
all_of_it front [] whole is long = sym (is ∙ append-nil front)
all_of_it front (b ∷ behind) whole is long =
    absurd (omega (arith, long, ap (λ (bs : List Batch). length bs) is, length-append front (b ∷ behind)))

pub one_session_is_alone : (stored : BookStore) → OneSessionIsAlone stored
one_session_is_alone stored start book log turns now replies valid only first own run =
    let was = first_session book start in
    let reported : AreTurnsOf stored 0 (seen was) _ = transcripts_have_turns stored 0 (seen was) (record { turns = turns; after = seen now; made = run.made; replies = replies }) run.reported in
    let front = front_of now.log log valid own.longer in
    let made : accepted_in (history_of log).entries ≡ run.made =
    sym (own_are_all (history_of log).entries only) ∙ sym (commands_in_log 0 log valid)
    ∙ ap (λ (k : ℕ). commands_of k log) (sym first) ∙ own.own ∙ run.only in
    let grown : count (seen was) + length (made_by reported.all) ≤ count (seen now) =
    subst (λ (h : History). count (seen was) + length (made_by reported.all) ≤ count h) reported.same_after (turns_grow stored 0 (seen was) reported.all reported.reported) in
    let same : length (made_by reported.all) ≡ length (accepted_in (history_of log).entries) =
    ap (λ (bs : List Batch). length bs) (reported.same_made ∙ sym made) in
    let all : accepted_in (seen now).entries ≡ accepted_in (history_of log).entries =
    all_of_it (accepted_in (seen now).entries) front.behind (accepted_in (history_of log).entries) front.whole (omega (arith, grown, same)) in
    record {
      all = reported.all;
      alone = record {
        reported = reported.reported;
        history = subst IsHistory (sym reported.same_after) front.history;
        alone = ap (λ (h : History). accepted_in h.entries) reported.same_after ∙ all ∙ made ∙ sym reported.same_made;
      };
      same_turns = reported.same_turns;
      same_after = reported.same_after;
      same_replies = reported.same_replies;
    }
