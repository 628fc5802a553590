-- Logs that gain an entry, and the batches in them.
use Rattle.std.proofs.Common.{◌≡◌, ℕ, ◌<◌, List, [], ◌∷◌, ◌++◌, length, refl, ap, sym, arith}
use Rattle.std.proofs.lemmas.List.Elements.{filter_map-append}
use mathlib.Core.List.{IsPrefix}
use Rattle.overlay_terms.specs.Histories.{Version, Event, Entry, IsHistory, BeginsWith, Follows, AllFollow, last_version, own_command, commands_of}
use Rattle.book_history.specs.Logs.{entry, history_of, IsLog, newest_in}

pub last_more : (v : Version) (xs : List Entry) (e : Entry) → last_version v (xs ++ e ∷ []) ≡ e.version
last_more v [] e = refl
last_more v (x ∷ xs) e = last_more x.version xs e

-- the newest version of a log that gained an entry is the entry's
pub newest_more : (xs : List Entry) (e : Entry) → newest_in (xs ++ e ∷ []) ≡ e.version
newest_more [] e = refl
newest_more (x ∷ xs) e = last_more x.version xs e

pub follow_more : (v : Version) (xs : List Entry) (e : Entry) → AllFollow v xs → Follows (last_version v xs) e.event e.version → AllFollow v (xs ++ e ∷ [])
follow_more v [] e g m = (m, tt)
follow_more v (x ∷ xs) e g m = (g.0, follow_more x.version xs e g.1 m)

-- an entry that follows the newest version makes a log longer
pub log_more : (xs : List Entry) (e : Entry) → IsLog xs → Follows (newest_in xs) e.event e.version → IsLog (xs ++ e ∷ [])
log_more [] e c m = absurd c
log_more (x ∷ xs) e c m = (c.0, follow_more x.version xs e c.1 m)

-- the history of a log
pub is_history : (xs : List Entry) → IsLog xs → IsHistory (history_of xs)
is_history [] c = absurd c
is_history (x ∷ xs) c = c.1

-- a longer log is that of a history that goes on
pub begins_with : (xs ys : List Entry) → 0 < length xs → IsPrefix xs ys → BeginsWith (history_of ys) (history_of xs)
begins_with [] ys long p = absurd (omega arith)
begins_with (x ∷ xs) [] long p = absurd (cc (p.1))
begins_with (x ∷ xs) (y ∷ ys) long p =
    let first : x ≡ y = cc (p.1) in
    let rest : ys ≡ xs ++ p.0 = cc (p.1) in
    (p.0, λ i. record { start = (sym first i).version; entries = rest i })

-- the batches of a session in a log are those in its history
pub commands_in_log : (by : ℕ) (xs : List Entry) → IsLog xs → commands_of by xs ≡ commands_of by (history_of xs).entries
commands_in_log by [] c = absurd c
commands_in_log by (x ∷ xs) c = ap (λ (e : Event). commands_of by (entry e x.version ∷ xs)) c.0

-- the batches in two lists, joined
pub own-append : (by : ℕ) (xs ys : List Entry) → commands_of by (xs ++ ys) ≡ commands_of by xs ++ commands_of by ys
own-append by xs ys = filter_map-append (λ (e : Entry). own_command by e.event) xs ys
