-- What is left of a script without a reply, as its session goes through it.
use Rattle.std.proofs.Common.{◌≡◌, ℕ, ◌+◌, ◌-◌, ◌<◌, ◌≤◌, min, Bool, true, false, Option, Some, None, IfSome, MatchOption, option_map, is_some, Result, Ok, Err, OnOk, List, [], ◌∷◌, ◌++◌, length, take, drop, refl, sym, ap, ◌∙◌, subst, append_assoc, append-nil, take-append-drop, drop-drop, length-append, arith}
use Rattle.std.proofs.Math.Seq.{drop-append_seam}
use Rattle.std.proofs.lemmas.Bool.{false≢true}
use Rattle.std.proofs.lemmas.List.{drop_all, length-take}
use Rattle.std.specs.Io.KnownBytes.{Consumes, IsAtEnd}
use Rattle.overlay_terms.specs.Histories.{Entry, History}
use Rattle.book_history.specs.Known.{Known, seen}
use Rattle.script_form.specs.declared.fault.CommandFault.TheVariants.{CommandSyntax}
use Rattle.script_form.specs.declared.line_reply.LineReply.{LineReply}
use Rattle.script_form.specs.declared.open_batch.OpenBatch.{OpenBatch}
use Rattle.script_form.specs.OpenBatch.{IsOpen}
use Rattle.script_form.specs.Lines.{line_room, has_no_feed, without_cr, ended_lines, unended, last_line, whole_lines}
use Rattle.script_form.specs.Replies.{error_line, reply_text}
use Rattle.script_form.specs.Requests.{request_of}
use Rattle.book_history.specs.declared.fault.ReportedFault.{ReportedFault}
use Rattle.script_form.specs.Transcript.{BookStore, StoreReport, store_by}
use Rattle.script_form.specs.Turns.{Turn, Waiting, cut_off, cut_off_in, ended_by, turns_of, all_turns_of, waiting_after, waiting_after_lines}
use Rattle.script_form.proofs.LongLines.{request_of-cut, request_of-cut_ended}
use Rattle.script_form.proofs.Pieces.{ended_lines-more}
use Rattle.server_session.specs.Replying.{IsAtStart, IsNextReply, MayReport}
use Rattle.server_session.specs.Session.{IsSharedRun, Stays}
use Rattle.server_session.specs.SessionState.{AreNext, HasTaken, IsOnWay, turns_ended, turns_at_end}
use Rattle.server_session.specs.Stores.{MayBeReportedAt, store_of}
use Rattle.server_session.specs.Turn.{EndsTurn, IsAtLast, IsAtLine, TakesTurn}
use Rattle.server_session.specs.declared.session_state.SessionState.{SessionState}
use Rattle.server_session.proofs.Endings.{take_of_take}
use Rattle.server_session.proofs.Steps.{cut_off_run, kept_part, last_lines_on, no_rest, some_rest, turns_at_end-are, turns_at_end-empty, turns_at_end-last, turns_ended-behind, turns_ended-join, turns_ended-line, turns_ended-nil, turns_ended-part}
use Rattle.server_session.proofs.Turns.{begins_self, begins_trans, stays_self}
use Rattle.server_session.proofs.Weaker.{run}

-- what may be reported of all that goes on from a history may be of all that goes on from a later one
pub may_report-on : (stored : List Entry → ℕ → Type 0) (failed : List Entry → ReportedFault → Type 0) (there : Bool) (may : History → StoreReport → Type 0) (was now : Known) → Stays was now → MayReport stored failed there was may → MayReport stored failed there now may
may_report-on stored failed there may was now stays all one history report goes_on = all one history report (begins_trans (seen was) (seen now) history stays.goes_on goes_on)

pub some_then : {P Q : List Turn → Type 0} (left : Option (List Turn)) → ((l : List Turn) → P l → Q l) → IfSome left P → IfSome left Q
some_then None f here = tt
some_then (Some l) f here = f l here

pub ok_then : {A E P Q : Type 0} (result : Result A E) → (P → Q) → OnOk result P → OnOk result Q
ok_then (Ok a) f here = f here
ok_then (Err e) f here = tt

-- of what was left, the turn that a line ends is taken away
abbrev pub TakesEnded : Option OpenBatch → List ℕ → Option (List Turn) → Option (List Turn) → Type 0
TakesEnded before line left left_then =
    MatchOption left (left_then ≡ None) (λ l. (batch : Option Waiting) → IsOpen batch before → left_then ≡ Some (drop (length (ended_by batch (request_of line))) l))

-- those that bytes end are
abbrev pub TakesAway : SessionState → List ℕ → Option (List Turn) → Option (List Turn) → Type 0
TakesAway state bytes left left_then =
    MatchOption left (left_then ≡ None) (λ l. (taken : List ℕ) → HasTaken state taken → left_then ≡ Some (drop (length (turns_ended taken bytes)) l))

-- without these turns, where there are none
without_none : (turns l : List Turn) → turns ≡ [] → Some l ≡ Some (drop (length turns) l)
without_none turns l none = sym (ap (λ (ts : List Turn). Some (drop (length ts) l)) none)

without_both : (these those l : List Turn) → drop (length those) (drop (length these) l) ≡ drop (length (these ++ those)) l
without_both these those l = drop-drop (length those) (length these) l ∙ ap (λ n. drop n l) (sym (length-append these those))

-- ==== The turns that are left

-- whatever comes, the turns that have ended stay the first of all
pub turns_on : (taken more : List ℕ) → (rest : List Turn) × (all_turns_of (whole_lines (taken ++ more)) ≡ turns_of (ended_lines taken) ++ rest)
turns_on taken more =
    let on = ended_lines-more taken more in
    let last = last_line (unended (taken ++ more)) in
    let behind = last_lines_on (ended_lines taken) (on.more ++ last) in (
      behind.0,
      ap (λ (lines : List (List ℕ)). all_turns_of (lines ++ last)) on.is ∙ ap all_turns_of (append_assoc (ended_lines taken) on.more last) ∙ behind.1,
    )

same_behind : (xs ys zs : List Turn) → xs ++ ys ≡ xs ++ zs → ys ≡ zs
same_behind xs ys zs same = sym (drop-append_seam xs ys) ∙ ap (drop (length xs)) same ∙ drop-append_seam xs zs

-- the turns that the next bytes end are the first of those that are left
pub left_behind : (taken bytes more : List ℕ) (left : List Turn) → all_turns_of (whole_lines (taken ++ (bytes ++ more))) ≡ turns_of (ended_lines taken) ++ left
    → (rest : List Turn) × (left ≡ turns_ended taken bytes ++ rest) × (all_turns_of (whole_lines ((taken ++ bytes) ++ more)) ≡ turns_of (ended_lines (taken ++ bytes)) ++ rest)
left_behind taken bytes more left is =
    let on = turns_on (taken ++ bytes) more in (
      on.0,
      same_behind (turns_of (ended_lines taken)) left (turns_ended taken bytes ++ on.0) (
          sym is ∙ ap (λ (l : List ℕ). all_turns_of (whole_lines l)) (sym (append_assoc taken bytes more)) ∙ on.1
          ∙ ap (λ (ts : List Turn). ts ++ on.0) (turns_ended-behind taken bytes) ∙ append_assoc (turns_of (ended_lines taken)) (turns_ended taken bytes) on.0
          ),
      on.1,
    )

-- the bytes that come next are taken, and the turns that they end with them
way_on : (first state : SessionState) (bytes more : List ℕ) → ((taken : List ℕ) → HasTaken first taken → HasTaken state (taken ++ bytes)) → (l : List Turn) (on : IsOnWay first (bytes ++ more) l)
    → IsOnWay state more (drop (length (turns_ended on.taken bytes)) l)
way_on first state bytes more takes l on =
    let behind = left_behind on.taken bytes more l on.parts in
    record {
      taken = on.taken ++ bytes;
      has = takes on.taken on.has;
      parts = behind.2
          ∙ ap (λ (ts : List Turn). turns_of (ended_lines (on.taken ++ bytes)) ++ ts)
          (sym (ap (drop (length (turns_ended on.taken bytes))) behind.1 ∙ drop-append_seam (turns_ended on.taken bytes) behind.0));
    }

module _ (first state : SessionState) (bytes : List ℕ) (takes : (taken : List ℕ) → HasTaken first taken → HasTaken state (taken ++ bytes)) where
  left_on : (P Q : List Turn → Type 0) → ((l : List Turn) → P l → (more : List ℕ) × IsOnWay first (bytes ++ more) l × ((rest : List Turn) → IsOnWay state more rest → Q rest))
      → (left left_then : Option (List Turn)) → TakesAway first bytes left left_then → IfSome left P → IfSome left_then Q
  left_on P Q f None left_then away here = subst (λ o. IfSome o Q) (sym away) tt
  left_on P Q f (Some l) left_then away here =
      let to = f l here in
      subst (λ o. IfSome o Q) (sym (away to.1.taken to.1.has)) (to.2 (drop (length (turns_ended to.1.taken bytes)) l) (way_on first state bytes to.0 takes l to.1))

  -- bytes, and then more bytes
  pub away_both : (more all : List ℕ) (left mid left_then : Option (List Turn)) → bytes ++ more ≡ all → TakesAway first bytes left mid → TakesAway state more mid left_then → TakesAway first all left left_then
  away_both more all None mid left_then joined one two = subst (λ m. TakesAway state more m left_then) one two
  away_both more all (Some l) mid left_then joined one two = λ taken has.
      let these = turns_ended taken bytes in
      let those = turns_ended (taken ++ bytes) more in
      subst (λ m. TakesAway state more m left_then) (one taken has) two (taken ++ bytes) (takes taken has)
      ∙ ap Some (without_both these those l) ∙ ap (λ (ts : List Turn). Some (drop (length ts) l)) (turns_ended-join taken bytes more ∙ ap (turns_ended taken) joined)

-- ==== A line

-- its reply is that to the next turn
pub next_reply : (from : Bool → Known → Type 0) (stored : List Entry → ℕ → Type 0) (failed : List Entry → ReportedFault → Type 0) (there : Bool) (may : History → StoreReport → Type 0) (was now : Known) (before after : Option OpenBatch) (line : List ℕ) (reply : LineReply)
    → from there was → MayReport stored failed there was may → TakesTurn (store_of stored failed there) was before line now after (reply_text reply) → EndsTurn before line was now (Some reply)
    → (l : List Turn) → IsAtLine before line l → IsNextReply from may now (reply_text reply) l
next_reply from stored failed there may was now before after line reply goes_on reports takes ends l is =
    let (turn, one) = ends is.waiting is.is_open in
    record {
      has_store = there;
      was = was;
      goes_on = goes_on;
      stays = takes.stays;
      turn = turn;
      later = is.later;
      next = is.parts ∙ ap (λ (ts : List Turn). ts ++ is.later) one;
      answered = run (MayBeReportedAt stored failed) may there (seen was) reports was (turn ∷ []) now (reply_text reply) (begins_self (seen was))
          (subst (λ (ts : List Turn). IsSharedRun (store_of stored failed there) was ts now (reply_text reply)) one (takes.taken is.waiting is.is_open).answered);
    }

-- and takes it away
pub reply_ended : (was now : Known) (before : Option OpenBatch) (line : List ℕ) (reply : LineReply) → EndsTurn before line was now (Some reply)
    → (left left_then : Option (List Turn)) → left_then ≡ option_map (drop 1) left → TakesEnded before line left left_then
reply_ended was now before line reply ends None left_then is = is
reply_ended was now before line reply ends (Some l) left_then is = λ batch waits. is ∙ ap (λ (ts : List Turn). Some (drop (length ts) l)) (sym (ends batch waits).1)

-- a line that ends no turn takes none
pub none_ended : (was now : Known) (before : Option OpenBatch) (line : List ℕ) → EndsTurn before line was now None → (left : Option (List Turn)) → TakesEnded before line left left
none_ended was now before line ends None = refl
none_ended was now before line ends (Some l) = λ batch waits. without_none (ended_by batch (request_of line)) l (ends.1 batch waits)

-- ==== A part of a line

-- that ends no line
pub part_away : (old : SessionState) (part : List ℕ) → has_no_feed part ≡ true → (left : Option (List Turn)) → TakesAway old part left left
part_away old part none None = refl
part_away old part none (Some l) = λ taken has. without_none (turns_ended taken part) l (turns_ended-part taken part none)

-- with a line feed behind it: the turn that the line ends
module _ (old : SessionState) (part line : List ℕ) (none : has_no_feed part ≡ true) (pushed : line ≡ take line_room (old.line ++ part)) (before : Option OpenBatch) (ended : List ℕ)
    (same : before ≡ old.waiting) (is : ended ≡ without_cr line) where
  pub fed_open : (taken : List ℕ) → HasTaken old taken → IsOpen (waiting_after_lines (ended_lines taken)) before
  fed_open taken has = subst (IsOpen (waiting_after_lines (ended_lines taken))) (sym same) has.waits

  pub fed_turns : (taken : List ℕ) → HasTaken old taken → turns_ended taken (part ++ 10 ∷ []) ≡ ended_by (waiting_after_lines (ended_lines taken)) (request_of ended)
  fed_turns taken has =
      turns_ended-line taken part none
      ∙ ap (ended_by (waiting_after_lines (ended_lines taken)))
      (sym (ap request_of is ∙ ap (λ l. request_of (without_cr l)) (kept_part old part line taken none pushed has) ∙ request_of-cut_ended (unended (taken ++ part))))

  pub at_line : (l : List Turn) → AreNext old (part ++ 10 ∷ []) l → IsAtLine before ended l
  at_line l (more, on) =
      let behind = left_behind on.taken (part ++ 10 ∷ []) more l on.parts in
      record {
        waiting = waiting_after_lines (ended_lines on.taken);
        is_open = fed_open on.taken on.has;
        later = behind.0;
        parts = behind.1 ∙ ap (λ (ts : List Turn). ts ++ behind.0) (fed_turns on.taken on.has);
      }

  pub line_away : (left left_then : Option (List Turn)) → TakesEnded before ended left left_then → TakesAway old (part ++ 10 ∷ []) left left_then
  line_away None left_then away = away
  line_away (Some l) left_then away = λ taken has.
      away (waiting_after_lines (ended_lines taken)) (fed_open taken has) ∙ ap (λ (ts : List Turn). Some (drop (length ts) l)) (sym (fed_turns taken has))

-- ==== Bytes, one after another

pub away_none : (state : SessionState) (left : Option (List Turn)) → TakesAway state [] left left
away_none state None = refl
away_none state (Some l) = λ taken has. without_none (turns_ended taken []) l (turns_ended-nil taken)

-- where some of the bytes are taken, those behind them are the next
pub part_next : (first state : SessionState) (past next rest whole : List ℕ) → past ++ (next ++ rest) ≡ whole → ((taken : List ℕ) → HasTaken first taken → HasTaken state (taken ++ past))
    → (left left_then : Option (List Turn)) → TakesAway first past left left_then → IfSome left (AreNext first whole) → IfSome left_then (AreNext state next)
part_next first state past next rest whole joined takes left left_then away on =
    let parts : (more : List ℕ) → whole ++ more ≡ past ++ (next ++ (rest ++ more)) =
    λ more. ap (λ bs. bs ++ more) (sym joined) ∙ append_assoc past (next ++ rest) more ∙ ap (λ bs. past ++ bs) (append_assoc next rest more) in
    left_on first state past takes (AreNext first whole) (AreNext state next)
    (λ l here. (next ++ (rest ++ here.0), subst (λ bs. IsOnWay first bs l) (parts here.0) here.1, λ left_after way. (rest ++ here.0, way))) left left_then away on

-- ==== The end of the script

module _ (state : SessionState) (before : Option OpenBatch) (same : before ≡ state.waiting) where
  left_at_end : (l : List Turn) (on : IsOnWay state [] l) → turns_at_end on.taken ≡ l
  left_at_end l on = turns_at_end-are on.taken l (ap (λ bs. all_turns_of (whole_lines bs)) (sym (append-nil on.taken)) ∙ on.parts)

  pub end_open : (taken : List ℕ) → HasTaken state taken → IsOpen (waiting_after_lines (ended_lines taken)) before
  end_open taken has = subst (IsOpen (waiting_after_lines (ended_lines taken))) (sym same) has.waits

  -- after a line feed
  pub at_last_feed : length state.line ≡ 0 → (l : List Turn) → IsOnWay state [] l → IsAtLast before l
  at_last_feed none l on = record {
    waiting = waiting_after_lines (ended_lines on.taken);
    is_open = end_open on.taken on.has;
    last = sym (left_at_end l on) ∙ turns_at_end-empty on.taken (no_rest state on.taken on.has none);
  }

  -- a last line that lacks its line feed
  module _ (line : List ℕ) (is : line ≡ state.line) (some : 0 < length state.line) where
    last_parts : (l : List Turn) (on : IsOnWay state [] l)
        → l ≡ ended_by (waiting_after_lines (ended_lines on.taken)) (request_of line) ++ cut_off_in (waiting_after (waiting_after_lines (ended_lines on.taken)) (request_of line))
    last_parts l on =
        sym (left_at_end l on) ∙ turns_at_end-last on.taken (some_rest state on.taken on.has some)
        ∙ ap (λ r. ended_by (waiting_after_lines (ended_lines on.taken)) r ++ cut_off_in (waiting_after (waiting_after_lines (ended_lines on.taken)) r))
        (sym (ap request_of (is ∙ on.has.line) ∙ request_of-cut (unended on.taken)))

    pub at_last_line : (l : List Turn) → IsOnWay state [] l → IsAtLine before line l
    at_last_line l on = record {
      waiting = waiting_after_lines (ended_lines on.taken);
      is_open = end_open on.taken on.has;
      later = cut_off_in (waiting_after (waiting_after_lines (ended_lines on.taken)) (request_of line));
      parts = last_parts l on;
    }

    -- and what is left behind it
    pub behind_last : (was now : Known) (after : Option OpenBatch) (stored : BookStore) (P : List ℕ → Type 0) → ((reply : List ℕ) × TakesTurn stored was before line now after reply × P reply)
        → (left left_then : Option (List Turn)) → TakesEnded before line left left_then → IfSome left (IsOnWay state []) → IfSome left_then (IsAtLast after)
    behind_last was now after stored P (reply, takes, writes) None left_then ended on = subst (λ o. IfSome o (IsAtLast after)) (sym ended) tt
    behind_last was now after stored P (reply, takes, writes) (Some l) left_then ended on =
        let waiting = waiting_after_lines (ended_lines on.taken) in
        let turns = ended_by waiting (request_of line) in
        let opened = end_open on.taken on.has in
        subst (λ o. IfSome o (IsAtLast after)) (sym (ended waiting opened)) (record {
          waiting = waiting_after waiting (request_of line);
          is_open = (takes.taken waiting opened).waits;
          last = ap (drop (length turns)) (last_parts l on) ∙ drop-append_seam turns (cut_off_in (waiting_after waiting (request_of line)));
        })

-- the batch that waits is refused
cut_off_reply : (from : Bool → Known → Type 0) (there : Bool) (may : History → StoreReport → Type 0) (me : Known) (open_batch : OpenBatch) → from there me → (l : List Turn) → IsAtLast (Some open_batch) l
    → IsNextReply from may me (error_line CommandSyntax) l
cut_off_reply from there may me open_batch goes_on l is = by_waiting is.waiting is.is_open is.last where
  by_waiting : (waiting : Option Waiting) → IsOpen waiting (Some open_batch) → l ≡ cut_off_in waiting → IsNextReply from may me (error_line CommandSyntax) l
  by_waiting None waits left = absurd waits
  by_waiting (Some waiting) waits left = record {
    has_store = there;
    was = me;
    goes_on = goes_on;
    stays = stays_self me;
    turn = cut_off waiting.came;
    later = [];
    next = left;
    answered = cut_off_run (store_by may there) me (Some waiting) open_batch waits;
  }

pub cut_off_some : (from : Bool → Known → Type 0) (there : Bool) (may : History → StoreReport → Type 0) (me : Known) (before : Option OpenBatch) → is_some before ≡ true → from there me → (l : List Turn) → IsAtLast before l
    → IsNextReply from may me (error_line CommandSyntax) l
cut_off_some from there may me None some goes_on l is = absurd (false≢true some)
cut_off_some from there may me (Some open_batch) some goes_on l is = cut_off_reply from there may me open_batch goes_on l is

-- ==== A session that reads

-- where a reader's bytes are known, they are the next, as long as they are within the limit
pub record IsReading (most taken : ℕ) (input : Option (List ℕ)) (state : SessionState) (left : List Turn) : Type 0 where
  pub more : List ℕ
  pub on : IsOnWay state more left
  pub known : taken ≤ most → input ≡ Some more

pub reads_first : (most : ℕ) (input : Option (List ℕ)) (state : SessionState) → HasTaken state [] → (l : List Turn) → IsAtStart input l → IsReading most 0 input state l
reads_first most input state begun l is = record { more = is.bytes; on = record { taken = []; has = begun; parts = sym is.all }; known = λ within. is.known }

-- nothing comes after the end
none_left : (left left_after : Option (List ℕ)) (more : List ℕ) → left ≡ Some more → Consumes left left_after [] → IsAtEnd left_after → more ≡ []
none_left left left_after more is reads at_end = all left_after (subst (λ l. Consumes l left_after []) is reads) at_end where
  all : (rest : Option (List ℕ)) → Consumes (Some more) rest [] → IsAtEnd rest → more ≡ []
  all None reads at_end = absurd reads
  all (Some ys) reads at_end = reads ∙ at_end

pub reads_last : (most taken : ℕ) (left left_after : Option (List ℕ)) (state : SessionState) → taken ≤ most → Consumes left left_after [] → IsAtEnd left_after
    → (l : List Turn) → IsReading most taken left state l → IsOnWay state [] l
reads_last most taken left left_after state within reads at_end l is = subst (λ bs. IsOnWay state bs l) (none_left left left_after is.more (is.known within) reads at_end) is.on

-- the bytes of a read, as far as they are within the limit, and what comes after them
module _ (most taken count allowed : ℕ) (chunk : List ℕ) (left left_after : Option (List ℕ)) (within : taken ≤ most) (is : allowed ≡ min count (most - taken)) (reads : Consumes left left_after (take count chunk)) where
  come_next : (more : List ℕ) → left ≡ Some more → (rest : List ℕ) × (more ≡ take allowed chunk ++ rest) × (taken + count ≤ most → left_after ≡ Some rest)
  come_next more known = all left_after (subst (λ l. Consumes l left_after (take count chunk)) known reads) where
    fewer : take allowed (take count chunk) ≡ take allowed chunk
    fewer = take_of_take allowed count allowed chunk (omega (arith, is))

    all : (rest : Option (List ℕ)) → Consumes (Some more) rest (take count chunk) → (after : List ℕ) × (more ≡ take allowed chunk ++ after) × (taken + count ≤ most → rest ≡ Some after)
    all None reads = absurd reads
    all (Some ys) reads = (
      drop allowed (take count chunk) ++ ys,
      reads ∙ ap (λ l. l ++ ys) (sym (take-append-drop allowed (take count chunk)) ∙ ap (λ l. l ++ drop allowed (take count chunk)) fewer)
          ∙ append_assoc (take allowed chunk) (drop allowed (take count chunk)) ys,
      λ short. ap (λ l. Some (l ++ ys)) (sym (drop_all allowed (take count chunk) (omega (arith, is, short, within, length-take count chunk)))),
    )

  module _ (state : SessionState) where
    pub reads_next : (l : List Turn) → IsReading most taken left state l → AreNext state (take allowed chunk) l
    reads_next l reading =
        let next = come_next reading.more (reading.known within) in
        (next.0, subst (λ bs. IsOnWay state bs l) next.1 reading.on)

    pub reads_on : (state_then : SessionState) → ((taken : List ℕ) → HasTaken state taken → HasTaken state_then (taken ++ take allowed chunk)) → (here here_then : Option (List Turn))
        → TakesAway state (take allowed chunk) here here_then → IfSome here (IsReading most taken left state) → IfSome here_then (IsReading most (taken + count) left_after state_then)
    reads_on state_then takes here here_then away reading =
        left_on state state_then (take allowed chunk) takes (IsReading most taken left state) (IsReading most (taken + count) left_after state_then)
        (λ l is.
        let next = come_next is.more (is.known within) in
        (next.0, subst (λ bs. IsOnWay state bs l) next.1 is.on, λ rest way. record { more = next.0; on = way; known = next.2 })) here here_then away reading
