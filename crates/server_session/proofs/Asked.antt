-- What a session is asked for by the bytes that come next, of what its script asks for.
use Rattle.std.proofs.Common.{◌≡◌, ℕ, ◌-◌, ◌<◌, ◌≤◌, min, true, Option, Some, None, Result, Ok, Err, IfOk, List, [], ◌∷◌, ◌++◌, length, take, drop, refl, sym, ap, ◌∙◌, subst, append_assoc, append-nil, take-append-drop}
use Rattle.std.proofs.lemmas.List.Elements.{Contains-append_left, Contains-append_right}
use Rattle.std.proofs.KnownBytes.{Consumes-trans}
use Rattle.std.specs.Io.KnownBytes.{Consumes, IsAtEnd}
use Rattle.overlay_terms.proofs.Lists.{contains_first}
use Rattle.overlay_terms.specs.Batches.{Batch}
use Rattle.book_history.specs.Known.{Known}
use Rattle.script_form.specs.Lines.{line_room, has_no_feed, without_cr, ended_lines, unended, whole_lines}
use Rattle.script_form.specs.OpenBatch.{TakesLine}
use Rattle.script_form.specs.Requests as lines
use Rattle.script_form.specs.Requests.{request_of}
use Rattle.script_form.specs.Transcript.{BookStore}
use Rattle.script_form.specs.Turns.{Turn, alone, together, cut_off_in, ended_by, turns_of, all_turns_of, waiting_after, waiting_after_lines}
use Rattle.script_form.specs.declared.line_turn.LineTurn.TheVariants.{Alone, Whole}
use Rattle.script_form.specs.declared.open_batch.LinesFault.{LinesFault}
use Rattle.script_form.specs.declared.open_batch.OpenBatch.{OpenBatch}
use Rattle.script_form.specs.declared.request.Request.{Request}
use Rattle.script_form.proofs.LongLines.{request_of-cut}
use Rattle.server_session.specs.Asking.{AsksFor, OneAsksFor, MayAsk, MayAskAll, MayAskAlone, MayAskAtLine, MayAskLast, MayAskNext}
use Rattle.server_session.specs.SessionState.{HasTaken, turns_ended, turns_at_end}
use Rattle.server_session.specs.declared.session_state.SessionState.{SessionState}
use Rattle.server_session.proofs.Endings.{IsUnderWay, in_limit, let_in}
use Rattle.server_session.proofs.Left.{end_open, fed_open, fed_turns, turns_on}
use Rattle.server_session.proofs.Steps.{some_rest, turns_at_end-behind, turns_at_end-last, turns_ended-behind, turns_ended-join}

module _ (asked : Batch → Type 0) where
  -- the first of some turns, and the others
  first_ask : (turns more : List Turn) → MayAsk asked (turns ++ more) → MayAsk asked turns
  first_ask turns more may commands (turn, there, asks) = may commands (turn, Contains-append_left turns more turn there, asks)

  others_ask : (before turns : List Turn) → MayAsk asked (before ++ turns) → MayAsk asked turns
  others_ask before turns may commands (turn, there, asks) = may commands (turn, Contains-append_right before turns turn there, asks)

  one_asks : (turns : List Turn) (turn : Turn) (commands : Batch) → turns ≡ turn ∷ [] → AsksFor turn commands → MayAsk asked turns → asked commands
  one_asks turns turn commands one asks may =
      may commands (subst (λ (ts : List Turn). OneAsksFor ts commands) (sym one) (turn, contains_first turn [], asks))

  -- ==== A line

  -- one that is in no batch
  pub asks_alone : (old new : Option OpenBatch) (line : List ℕ) (request : Request) → TakesLine old (request_of line) new (Alone request) → MayAskAtLine asked old line → MayAskAlone asked (lines.request request)
  asks_alone old new line request taken (waiting, there, may) = λ command is.
      one_asks (ended_by waiting (request_of line)) (alone (lines.request request)) (command ∷ []) (taken waiting there).ended (command, is, refl) may

  -- the last of a batch
  pub asks_whole : (old new : Option OpenBatch) (line : List ℕ) (read : Result Batch LinesFault) → TakesLine old (request_of line) new (Whole read) → MayAskAtLine asked old line → IfOk read asked
  asks_whole old new line (Ok commands) taken (waiting, there, may) =
      let (requests, ended, are) = (taken waiting there).ended in
      one_asks (ended_by waiting (request_of line)) (together requests) commands ended are may
  asks_whole old new line (Err fault) taken may = tt

  -- with its line feed
  pub asks_fed : (old : SessionState) (part line : List ℕ) (none : has_no_feed part ≡ true) (pushed : line ≡ take line_room (old.line ++ part)) (before : Option OpenBatch) (ended : List ℕ)
      (same : before ≡ old.waiting) (is : ended ≡ without_cr line) → MayAskNext asked old (part ++ 10 ∷ []) → MayAskAtLine asked before ended
  asks_fed old part line none pushed before ended same is (taken, has, may) = (
    waiting_after_lines (ended_lines taken),
    fed_open old part line none pushed before ended same is taken has,
    subst (MayAsk asked) (fed_turns old part line none pushed before ended same is taken has) may,
  )

  -- a last one that lacks its line feed
  pub asks_last : (state : SessionState) (before : Option OpenBatch) (same : before ≡ state.waiting) (line : List ℕ) → line ≡ state.line → 0 < length state.line → MayAskLast asked state → MayAskAtLine asked before line
  asks_last state before same line is some (taken, has, may) =
      let waiting = waiting_after_lines (ended_lines taken) in
      let behind = cut_off_in (waiting_after waiting (request_of line)) in
      let turns : turns_at_end taken ≡ ended_by waiting (request_of line) ++ behind =
      turns_at_end-last taken (some_rest state taken has some)
      ∙ ap (λ r. ended_by waiting r ++ cut_off_in (waiting_after waiting r)) (sym (ap request_of (is ∙ has.line) ∙ request_of-cut (unended taken))) in
      (waiting, end_open state before same taken has, first_ask (ended_by waiting (request_of line)) behind (subst (MayAsk asked) turns may))

  -- ==== Bytes

  -- where some of the bytes are taken, those of the line behind them
  pub asks_next : (first state : SessionState) (past line rest whole : List ℕ) → past ++ (line ++ rest) ≡ whole → ((taken : List ℕ) → HasTaken first taken → HasTaken state (taken ++ past))
      → MayAskNext asked first whole → MayAskNext asked state line
  asks_next first state past line rest whole joined takes (taken, has, may) =
      let these = turns_ended taken past in
      let those = turns_ended (taken ++ past) line in
      let later = turns_ended ((taken ++ past) ++ line) rest in
      let parts : turns_ended taken whole ≡ these ++ (those ++ later) =
      sym (ap (λ (ts : List Turn). these ++ ts) (turns_ended-join (taken ++ past) line rest) ∙ turns_ended-join taken past (line ++ rest) ∙ ap (turns_ended taken) joined) in
      (taken ++ past, takes taken has, first_ask those later (others_ask these (those ++ later) (subst (MayAsk asked) parts may)))

  -- ==== A script

  -- bytes of a script, of which more may come
  asks_front : (taken bytes more whole : List ℕ) → whole ≡ (taken ++ bytes) ++ more → MayAsk asked (all_turns_of (whole_lines whole)) → MayAsk asked (turns_ended taken bytes)
  asks_front taken bytes more whole joined may =
      let on = turns_on (taken ++ bytes) more in
      let ended = turns_of (ended_lines (taken ++ bytes)) in
      let all = subst (MayAsk asked) (ap (λ l. all_turns_of (whole_lines l)) joined ∙ on.1) may in
      others_ask (turns_of (ended_lines taken)) (turns_ended taken bytes) (subst (MayAsk asked) (turns_ended-behind taken bytes) (first_ask ended on.0 all))

  -- the end of a script
  asks_end : (taken : List ℕ) → MayAsk asked (all_turns_of (whole_lines taken)) → MayAsk asked (turns_at_end taken)
  asks_end taken may = others_ask (turns_of (ended_lines taken)) (turns_at_end taken) (subst (MayAsk asked) (turns_at_end-behind taken) may)

  module _ (most : ℕ) (stored : BookStore) (was : Known) (input left output all : Option (List ℕ)) (count : ℕ) (state : SessionState) (now : Known)
      (way : IsUnderWay most stored was input left output all count state now) (within : count ≤ most) (left_after : Option (List ℕ)) where
    short : length way.taken ≤ most
    short = subst (λ n. n ≤ most) (sym way.as_many) within

    -- the bytes of a read, as far as they are within the limit
    pub asks_read : (more allowed : ℕ) (chunk : List ℕ) → allowed ≡ min more (most - count) → Consumes left left_after (take more chunk) → MayAskAll asked input → MayAskNext asked state (take allowed chunk)
    asks_read more allowed chunk is reads may = (take most way.taken, way.stands, by input left_after (Consumes-trans input left left_after way.taken (take more chunk) way.reads reads) may) where
      bytes : take most way.taken ++ take allowed chunk ≡ take most (way.taken ++ take more chunk)
      bytes = let_in most way.taken chunk more allowed short (is ∙ ap (λ n. min more (most - n)) (sym way.as_many))

      by : (script rest : Option (List ℕ)) → Consumes script rest (way.taken ++ take more chunk) → MayAskAll asked script → MayAsk asked (turns_ended (take most way.taken) (take allowed chunk))
      by None rest reads may = λ commands asks. may commands tt
      by (Some whole) None reads may = absurd reads
      by (Some whole) (Some rest) reads may =
          let come = way.taken ++ take more chunk in
          asks_front (take most way.taken) (take allowed chunk) (drop most come ++ rest) whole (
          reads ∙ ap (λ l. l ++ rest) (sym (take-append-drop most come)) ∙ append_assoc (take most come) (drop most come) rest
          ∙ ap (λ l. l ++ (drop most come ++ rest)) (sym bytes)
          ) may

    -- a read of no byte
    pub asks_rest : Consumes left left_after [] → IsAtEnd left_after → MayAskAll asked input → MayAskLast asked state
    asks_rest reads at_end may = (take most way.taken, way.stands, by input left_after (Consumes-trans input left left_after way.taken [] way.reads reads) at_end may) where
      by : (script rest : Option (List ℕ)) → Consumes script rest (way.taken ++ []) → IsAtEnd rest → MayAskAll asked script → MayAsk asked (turns_at_end (take most way.taken))
      by None rest reads at_end may = λ commands asks. may commands tt
      by (Some whole) None reads at_end may = absurd reads
      by (Some whole) (Some rest) reads at_end may =
          let whole_is : whole ≡ take most way.taken =
          reads ∙ ap (λ l. (way.taken ++ []) ++ l) at_end ∙ append-nil (way.taken ++ []) ∙ append-nil way.taken ∙ sym (in_limit most way.taken short) in
          asks_end (take most way.taken) (subst (λ l. MayAsk asked (all_turns_of (whole_lines l))) whole_is may)
