-- Two runs of the same turns go alike, turn by turn.
use Rattle.std.proofs.Common.{◌≡◌, ℕ, ◌+◌, ◌≤◌, ◌⊎◌, inl, inr, Bool, true, false, List, [], ◌∷◌, ◌++◌, length, map, codes, Option, Some, None, refl, sym, ap, ◌∙◌, subst, arith}
use Rattle.std.proofs.lemmas.Bool.{true≢false}
use Rattle.std.proofs.lemmas.List.{length-append}
use Rattle.overlay_terms.specs.Batches.{Batch, BatchRefusal, batch_refusal_at}
use Rattle.overlay_terms.specs.Histories.{Version, Entry, History, accepted, AllFollow, IsHistory, FollowsBatch, GoesOnBy, last_version, newest, accepted_in}
use Rattle.script_form.specs.Replies.{numbered_line}
use Rattle.script_form.specs.Transcript.{BookStore, IsAcceptedBy, IsTurn, IsTranscript}
use Rattle.script_form.specs.Turns.{Turn}
use Rattle.line_laws.specs.Deciding.{Answered, history_after, turns_in, made_by, AreAnswered, AreTurnsOf, TranscriptsHaveTurns, is_from_outside, Decided, decided, decided_by, outside_of, GoAlike, LinesDecide}
use Rattle.line_laws.proofs.Asking.{TurnAsks, turn_asks_one}
use Rattle.line_laws.proofs.Entries.{accepted_more, count, count_more, follow_front, follow_rest, history_front, history_rest, newest_more, with_batches, decided_more}
use Rattle.line_laws.proofs.Views.{IsDeclined, Comes, comes}

-- ==== What a turn makes

made_if : Option BatchRefusal → Batch → List Batch
made_if None commands = commands ∷ []
made_if (Some refusal) commands = []

-- what is made of what is asked for, by a number and layers
made_at : Decided → Option Batch → List Batch
made_at d None = []
made_at d (Some commands) = made_if (batch_refusal_at d.number d.layers commands) commands

no_length : {A : Type 0} (xs : List A) → length xs ≡ 0 → xs ≡ []
no_length [] none = refl
no_length (x ∷ xs) none = absurd (omega (arith, none))

with_nothing : (d : Decided) → with_batches d [] ≡ d
with_nothing d = ap (λ (n : ℕ). record { number = n; layers = d.layers }) (plus_nothing d.number) where
  plus_nothing : (n : ℕ) → n + 0 ≡ n
  plus_nothing n = omega arith

-- entries without a batch leave number and layers
unchanged : (version : Version) (entries : List Entry) → AllFollow version entries → accepted_in entries ≡ [] → decided (last_version version entries) ≡ decided version
unchanged version entries follow none =
    decided_more version entries follow ∙ ap (with_batches (decided version)) none ∙ with_nothing (decided version)

-- a turn of a session that was alone: what it makes of number and layers, and that the turn and these decide it
record IsStep (before after : History) (part : Turn) (made : List Batch) (reply : List ℕ) : Type 0 where
  shows : decided (newest after) ≡ with_batches (decided (newest before)) made
  outside : is_from_outside reply ≡ true → made ≡ []
  inside : is_from_outside reply ≡ false → (asked : Option Batch) × TurnAsks part asked × (made ≡ made_at (decided (newest before)) asked)

-- more of a count, or none
more_of : (a b m k : ℕ) → b ≡ a + k → b ≡ a + m → k ≡ m
more_of a b m k one two = omega (arith, one, two)

module _ (before after : History) (part : Turn) (made : List Batch) (reply : List ℕ) (history : IsHistory after) (alone : count after ≡ count before + length made) where
  -- nothing was made
  module _ (more : List Entry) (on : GoesOnBy before more after) (none : made ≡ []) where
    nothing_more : accepted_in more ≡ []
    nothing_more = no_length (accepted_in more) (more_of (count before) (count after) (length made) (length (accepted_in more)) (count_more before after more on) alone ∙ ap length none)

    same_then : decided (newest after) ≡ decided (newest before)
    same_then = ap decided (newest_more before after more on) ∙ unchanged (newest before) more (history_rest before after more on history) nothing_more

    unmade_inside : IsDeclined part (newest after) → (asked : Option Batch) × TurnAsks part asked × (made ≡ made_at (decided (newest before)) asked)
    unfolding made_at made_if
    unmade_inside declined = (declined.asked, declined.asks, none ∙ sym (by declined.why)) where
      by : (declined.asked ≡ None) ⊎ ((commands : Batch) × (refusal : BatchRefusal) × (declined.asked ≡ Some commands) × (batch_refusal_at (newest after).number (newest after).layers commands ≡ Some refusal))
          → made_at (decided (newest before)) declined.asked ≡ []
      by (inl nothing) = ap (made_at (decided (newest before))) nothing
      by (inr (commands, refusal, is, refused)) =
          ap (made_at (decided (newest before))) is
          ∙ ap (λ (o : Option BatchRefusal). made_if o commands) (ap (λ (d : Decided). batch_refusal_at d.number d.layers commands) (sym same_then) ∙ refused)

    unmade_step : (is_from_outside reply ≡ false → IsDeclined part (newest after)) → IsStep before after part made reply
    unmade_step declined = record {
      shows = same_then ∙ sym (with_nothing (decided (newest before))) ∙ ap (with_batches (decided (newest before))) (sym none);
      outside = λ _. none;
      inside = λ inside. unmade_inside (declined inside);
    }

  -- a batch was accepted
  module _ (session : ℕ) (commands : Batch) (how : IsAcceptedBy session before commands after made reply) where
    abbrev last : Entry
    last = record { event = accepted session commands; version = how.version }

    one_more : accepted_in (how.between ++ last ∷ []) ≡ accepted_in how.between ++ commands ∷ []
    one_more = accepted_more how.between (last ∷ [])

    none_between : accepted_in how.between ≡ []
    none_between =
        let all : length (accepted_in (how.between ++ last ∷ [])) ≡ length made =
        more_of (count before) (count after) (length made) (length (accepted_in (how.between ++ last ∷ []))) (count_more before after (how.between ++ last ∷ []) how.goes_on) alone in
        let parts : length (accepted_in (how.between ++ last ∷ [])) ≡ length (accepted_in how.between) + length (commands ∷ []) =
        ap length one_more ∙ length-append (accepted_in how.between) (commands ∷ []) in
        let one : length made ≡ length (commands ∷ []) = ap length how.only in
        no_length (accepted_in how.between) (omega (arith, all, parts, one))

    follows : AllFollow (newest before) (how.between ++ last ∷ [])
    follows = history_rest before after (how.between ++ last ∷ []) how.goes_on history

    there : FollowsBatch (last_version (newest before) how.between) commands how.version
    there = (follow_rest (newest before) how.between (last ∷ []) follows).0

    then_there : decided (last_version (newest before) how.between) ≡ decided (newest before)
    then_there = unchanged (newest before) how.between (follow_front (newest before) how.between (last ∷ []) follows) none_between

    made_inside : made ≡ made_at (decided (newest before)) (Some commands)
    unfolding made_at made_if
    made_inside =
        how.only
        ∙ sym (ap (λ (o : Option BatchRefusal). made_if o commands) (ap (λ (d : Decided). batch_refusal_at d.number d.layers commands) (sym then_there) ∙ there.accepted_there))

    -- a number is reported, and no fault
    ok_inside : (n : ℕ) → is_from_outside (numbered_line (codes "ok ") n) ≡ false
    ok_inside n = refl

    made_step : TurnAsks part (Some commands) → IsStep before after part made reply
    made_step asks = record {
      shows = ap decided (newest_more before after (how.between ++ last ∷ []) how.goes_on)
          ∙ decided_more (newest before) (how.between ++ last ∷ []) follows
          ∙ ap (with_batches (decided (newest before))) (one_more ∙ ap (λ (cs : List Batch). cs ++ commands ∷ []) none_between ∙ sym how.only);
      outside = λ reported. absurd (true≢false (sym reported ∙ ap is_from_outside how.says ∙ ok_inside how.version.number));
      inside = λ _. (Some commands, asks, made_inside);
    }

-- each turn of a session that was alone is such a step
step : (stored : BookStore) (session : ℕ) (before after : History) (part : Turn) (made : List Batch) (reply : List ℕ)
    → IsTurn stored session before part after made reply → IsHistory after → count after ≡ count before + length made → IsStep before after part made reply
step stored session before after part made reply turn history alone =
    elim (comes stored session before after made reply part turn) [
      | inl none ↦ unmade_step before after part made reply history alone turn.goes_on.0 turn.goes_on.1 none.none none.declined
      | inr one ↦ made_step before after part made reply history alone session one.commands one.how one.asks
    ]

-- ==== Counting

-- a turn adds at least what it made
grows : (session : ℕ) (before after : History) (part : Turn) (made : List Batch) (reply : List ℕ) (more : List Entry)
    → Comes session before part after made reply → GoesOnBy before more after → count before + length made ≤ count after
grows session before after part made reply more (inl none) on =
    let all = count_more before after more on in
    let nothing = ap length none.none in
    omega (arith, all, nothing)
grows session before after part made reply more (inr one) on =
    let last : Entry = record { event = accepted session one.commands; version = one.how.version } in
    let all = count_more before after (one.how.between ++ last ∷ []) one.how.goes_on in
    let parts = ap length (accepted_more one.how.between (last ∷ [])) ∙ length-append (accepted_in one.how.between) (one.commands ∷ []) in
    let only = ap length one.how.only in
    omega (arith, all, parts, only)

turn_grows : (stored : BookStore) (session : ℕ) (before : History) (turn : Answered) → IsTurn stored session before turn.turn turn.after turn.made turn.reply
    → count before + length turn.made ≤ count turn.after
turn_grows stored session before turn is =
    grows session before turn.after turn.turn turn.made turn.reply is.goes_on.0 (comes stored session before turn.after turn.made turn.reply turn.turn is) is.goes_on.1

pub turns_grow : (stored : BookStore) (session : ℕ) (seen : History) (turns : List Answered) → AreAnswered stored session seen turns
    → count seen + length (made_by turns) ≤ count (history_after seen turns)
turns_grow stored session seen [] reported = nothing_made (count seen) where
  nothing_made : (n : ℕ) → n + 0 ≤ n
  nothing_made n = omega arith
turns_grow stored session seen (turn ∷ turns) (first, others) =
    let one = turn_grows stored session seen turn first in
    let all = turns_grow stored session turn.after turns others in
    let both = length-append turn.made (made_by turns) in
    omega (arith, one, all, both)

-- a history whose turns led to one
history_back : (stored : BookStore) (session : ℕ) (seen : History) (turns : List Answered) → AreAnswered stored session seen turns → IsHistory (history_after seen turns) → IsHistory seen
history_back stored session seen [] reported history = history
history_back stored session seen (turn ∷ turns) (first, others) history =
    history_front seen turn.after first.goes_on.0 first.goes_on.1 (history_back stored session turn.after turns others history)

-- the first of turns adds no more than it made, and neither do the others
record IsFirstAlone (seen : History) (turn : Answered) (turns : List Answered) : Type 0 where
  first : count turn.after ≡ count seen + length turn.made
  others : count (history_after turn.after turns) ≡ count turn.after + length (made_by turns)

first_alone : (stored : BookStore) (session : ℕ) (seen : History) (turn : Answered) (turns : List Answered) → AreAnswered stored session seen (turn ∷ turns)
    → count (history_after turn.after turns) ≡ count seen + length (made_by (turn ∷ turns)) → IsFirstAlone seen turn turns
first_alone stored session seen turn turns (first, others) alone =
    let one = turn_grows stored session seen turn first in
    let all = turns_grow stored session turn.after turns others in
    let both = length-append turn.made (made_by turns) in
    record { first = omega (arith, one, all, both, alone); others = omega (arith, one, all, both, alone) }

-- ==== Two runs

-- two steps of the same turn, of which both or none are refused from outside, make the same
same_made : (before after other_before other_after : History) (part : Turn) (made other_made : List Batch) (reply other_reply : List ℕ) (b : Bool)
    → is_from_outside reply ≡ b → is_from_outside other_reply ≡ b → decided (newest before) ≡ decided (newest other_before)
    → IsStep before after part made reply → IsStep other_before other_after part other_made other_reply → made ≡ other_made
same_made before after other_before other_after part made other_made reply other_reply true from other_from same one two = one.outside from ∙ sym (two.outside other_from)
same_made before after other_before other_after part made other_made reply other_reply false from other_from same one two =
    let a = one.inside from in
    let b = two.inside other_from in
    a.2 ∙ ap (λ (d : Decided). made_at d a.0) same ∙ ap (made_at (decided (newest other_before))) (turn_asks_one part a.0 b.0 a.1 b.1) ∙ sym b.2

-- a turn of a session, as a step of one that is the same
step_of : (stored : BookStore) (session : ℕ) (seen : History) (turn : Answered) (part : Turn) → turn.turn ≡ part → IsTurn stored session seen turn.turn turn.after turn.made turn.reply
    → IsHistory turn.after → count turn.after ≡ count seen + length turn.made → IsStep seen turn.after part turn.made turn.reply
step_of stored session seen turn part is reported history alone =
    subst (λ (p : Turn). IsStep seen turn.after p turn.made turn.reply) is (step stored session seen turn.after turn.turn turn.made turn.reply reported history alone)

module _ (stored other_stored : BookStore) (session other : ℕ) where
  alike : (seen other_seen : History) (turns others : List Answered) → AreAnswered stored session seen turns → AreAnswered other_stored other other_seen others
      → IsHistory (history_after seen turns) → IsHistory (history_after other_seen others)
      → count (history_after seen turns) ≡ count seen + length (made_by turns) → count (history_after other_seen others) ≡ count other_seen + length (made_by others)
      → decided (newest seen) ≡ decided (newest other_seen)
      → turns_in turns ≡ turns_in others → outside_of turns ≡ outside_of others → GoAlike turns others
  alike seen other_seen [] [] reported other_reported history other_history alone other_alone same lines from = record { versions = refl; batches = refl }
  alike seen other_seen [] (u ∷ others) reported other_reported history other_history alone other_alone same lines from = absurd (cc)
  alike seen other_seen (t ∷ turns) [] reported other_reported history other_history alone other_alone same lines from = absurd (cc)
  alike seen other_seen (t ∷ turns) (u ∷ others) (first, rest) (other_first, other_rest) history other_history alone other_alone same lines from =
      let part : t.turn ≡ u.turn = cc (lines) in
      let later_lines : turns_in turns ≡ turns_in others = cc (lines) in
      let outside : is_from_outside t.reply ≡ is_from_outside u.reply = cc (from) in
      let later_from : outside_of turns ≡ outside_of others = cc (from) in
      let counts = first_alone stored session seen t turns (first, rest) alone in
      let other_counts = first_alone other_stored other other_seen u others (other_first, other_rest) other_alone in
      let one = step_of stored session seen t u.turn part first (history_back stored session t.after turns rest history) counts.first in
      let two = step_of other_stored other other_seen u u.turn refl other_first (history_back other_stored other u.after others other_rest other_history) other_counts.first in
      let made : t.made ≡ u.made =
      same_made seen t.after other_seen u.after u.turn t.made u.made t.reply u.reply (is_from_outside u.reply) outside refl same one two in
      let version : decided (newest t.after) ≡ decided (newest u.after) =
      one.shows ∙ ap (λ (d : Decided). with_batches d t.made) same ∙ ap (with_batches (decided (newest other_seen))) made ∙ sym two.shows in
      let later = alike t.after u.after turns others rest other_rest history other_history counts.others other_counts.others version later_lines later_from in
      record {
        versions = ap (λ (d : Decided). d ∷ decided_by turns) version
            ∙ ap (λ (ds : List Decided). decided (newest u.after) ∷ ds) later.versions;
        batches = ap (λ (cs : List Batch). cs ∷ map (λ (turn : Answered). turn.made) turns) made ∙ ap (λ (cs : List (List Batch)). u.made ∷ cs) later.batches;
      }

-- how many batches there are, by which they are
counted : (seen after : History) (made : List Batch) → accepted_in after.entries ≡ accepted_in seen.entries ++ made → count after ≡ count seen + length made
counted seen after made alone = ap length alone ∙ length-append (accepted_in seen.entries) made

pub lines_decide : (stored other_stored : BookStore) → LinesDecide stored other_stored
lines_decide stored other_stored session other seen other_seen turns others one two same lines from =
    alike stored other_stored session other seen other_seen turns others one.reported two.reported one.history two.history
    (counted seen (history_after seen turns) (made_by turns) one.alone) (counted other_seen (history_after other_seen others) (made_by others) two.alone)
    same lines from

-- ==== Transcripts

reported_in_turn : (stored : BookStore) (session : ℕ) (seen : History) (turns : List Turn) (after : History) (made : List Batch) (replies : List ℕ)
    → IsTranscript stored session seen turns after made replies
    → AreTurnsOf stored session seen (record { turns = turns; after = after; made = made; replies = replies })
reported_in_turn stored session seen [] after made replies (same, none, empty) =
    record { all = []; reported = tt; same_turns = refl; same_after = sym same; same_made = sym none; same_replies = sym empty }
reported_in_turn stored session seen (turn ∷ turns) after made replies (mid, first, others, reply, rest, taken, run, all_made, all_reported) =
    let later = reported_in_turn stored session mid turns after others rest run in
    let here : Answered = record { turn = turn; after = mid; made = first; reply = reply } in
    record {
      all = here ∷ later.all;
      reported = (taken, later.reported);
      same_turns = ap (λ (ts : List Turn). turn ∷ ts) later.same_turns;
      same_after = later.same_after;
      same_made = ap (λ (bs : List Batch). first ++ bs) later.same_made ∙ sym all_made;
      same_replies = ap (λ (bytes : List ℕ). reply ++ bytes) later.same_replies ∙ sym all_reported;
    }

pub transcripts_have_turns : (stored : BookStore) → TranscriptsHaveTurns stored
transcripts_have_turns stored session seen run reported = reported_in_turn stored session seen run.turns run.after run.made run.replies reported
