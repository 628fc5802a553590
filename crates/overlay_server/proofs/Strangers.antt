-- A book that is as many batches after its first version as its sessions made has no other's.
use Rattle.std.proofs.Common.{◌≡◌, ◌<◌, ◌+◌, ◌∷◌, [], ℕ, zero, suc, List, Option, length, map, refl, ap, sym, ◌∙◌, arith}
use Rattle.std.specs.List.{All, AllZip, sum_by}
use Rattle.std.proofs.lemmas.List.{length-map, map-append}
use Rattle.std.proofs.lemmas.List.Elements.{All-head, All-tail}
use Rattle.std.proofs.lemmas.List.Sums.{sum_by-cons, sum_by_push}
use Rattle.logbook.specs.Pages.{Book}
use Rattle.overlay_terms.specs.Batches.{Batch}
use Rattle.overlay_terms.specs.Histories.{Version, Entry, commands_in, commands_of}
use Rattle.overlay_terms.proofs.HistoryFolds.{newest_has_commands}
use Rattle.book_history.specs.BookLogs.{BookLog}
use Rattle.book_history.specs.Known.{Known}
use Rattle.book_history.specs.Logs.{history_of, newest_in, IsLog}
use Rattle.book_history.proofs.Chains.{commands_in_log, is_history}
use Rattle.book_lock.specs.Steps.{beginners, HasAllOf}
use Rattle.session_threads.specs.Counting.{made_in}
use Rattle.script_form.specs.Transcript.{BookStore}
use Rattle.session_threads.specs.Running.{IsRunOf}
use Rattle.session_threads.specs.Seats.{session_of, ended_session}
use Rattle.session_threads.specs.declared.port.Port.{Port}
use Rattle.session_threads.specs.declared.running.Script.{Script}
use Rattle.session_threads.specs.declared.running.Ended.{Ended}
use Rattle.overlay_server.specs.Serving.{first_log}
use Rattle.overlay_server.proofs.Counts.{all_below, counted}
use Rattle.overlay_server.proofs.Parts.{AreSeated}

-- the numbers of sessions
abbrev numbers : List Known → List ℕ
numbers ks = map (λ (k : Known). k.session) ks

-- how many batches a log has of a session
abbrev own_in : List Entry → ℕ → ℕ
own_in log k = length (commands_of k log)

-- what sessions made, where a log has all of theirs
made_counted : (log : List Entry) (ks : List Known) → All (HasAllOf log) ks → made_in ks ≡ sum_by (own_in log) (numbers ks)
made_counted log [] all = refl
made_counted log (k ∷ ks) all =
    let one : length k.made ≡ own_in log k.session = ap (λ (bs : List Batch). length bs) (sym (All-head (HasAllOf log) k ks all).own) in
    sum_by-cons (λ (x : Known). length x.made) k ks ∙ ap (λ (n : ℕ). n + made_in ks) one
    ∙ ap (λ (n : ℕ). own_in log k.session + n) (made_counted log ks (All-tail (HasAllOf log) k ks all))
    ∙ sym (sum_by-cons (own_in log) k.session (numbers ks))

-- the sessions that a book begins with are numbered from 0
beginners_counted : (book_log : BookLog) (log : List Entry) (n : ℕ) → sum_by (own_in log) (numbers (beginners book_log n)) ≡ counted n log
beginners_counted book_log log zero = refl
beginners_counted book_log log (suc n) =
    ap (λ (ns : List ℕ). sum_by (own_in log) ns)
    (map-append (λ (k : Known). k.session) (beginners book_log n) (record { book = book_log.book; session = n; log = book_log.log; made = [] } ∷ []))
    ∙ sum_by_push (own_in log) (numbers (beginners book_log n)) n ∙ ap (λ (m : ℕ). m + own_in log n) (beginners_counted book_log log n)

-- a session that ran keeps its number
numbers_kept : {R W : Type 0} (book : Book) (stored : BookStore) (remaining : R → Option (List ℕ)) (contents : W → Option (List ℕ)) (ss : List (Script R W)) (es : List (Ended R W))
    → AllZip (IsRunOf book stored remaining contents) ss es → numbers (map ended_session es) ≡ numbers (map session_of ss)
numbers_kept book stored remaining contents [] [] ran = refl
numbers_kept book stored remaining contents [] (e ∷ es) ran = absurd ran
numbers_kept book stored remaining contents (s ∷ ss) [] ran = absurd ran
numbers_kept book stored remaining contents (s ∷ ss) (e ∷ es) ran =
    ap (λ (n : ℕ). n ∷ numbers (map ended_session es)) ran.0.same
    ∙ ap (λ (ns : List ℕ). s.session.session ∷ ns) (numbers_kept book stored remaining contents ss es ran.1)

-- the batches that are counted in a log are those in its history
counted_in_log : (n : ℕ) (log : List Entry) → IsLog log → counted n log ≡ counted n (history_of log).entries
counted_in_log zero log valid = refl
counted_in_log (suc n) log valid =
    ap (λ (m : ℕ). m + length (commands_of n log)) (counted_in_log n log valid)
    ∙ ap (λ (bs : List Batch). counted n (history_of log).entries + length bs) (commands_in_log n log valid)

pub no_other : {R W : Type 0} (book : Book) (stored : BookStore) (remaining : R → Option (List ℕ)) (contents : W → Option (List ℕ)) (start : Version) (ports : List (Port R W)) (scripts : List (Script R W))
    (ended : List (Ended R W)) (log : List Entry) → AreSeated book start ports scripts → AllZip (IsRunOf book stored remaining contents) scripts ended
    → All (HasAllOf log) (map ended_session ended) → IsLog log → (history_of log).start ≡ start → (newest_in log).number ≡ start.number + made_in (map ended_session ended)
    → All (λ (c : ℕ × Batch). c.0 < length ports) (commands_in (history_of log).entries)
no_other book stored remaining contents start ports scripts ended log seated ran own valid begins number =
    let entries = (history_of log).entries in
    let count = length ports in
    let made : made_in (map ended_session ended) ≡ counted count entries =
    made_counted log (map ended_session ended) own
    ∙ ap (λ (ns : List ℕ). sum_by (own_in log) ns)
    (numbers_kept book stored remaining contents scripts ended ran ∙ ap (λ (ks : List Known). numbers ks) seated.sessions)
    ∙ beginners_counted (record { book = book; log = first_log start }) log count ∙ counted_in_log count log valid in
    let risen = (newest_has_commands (history_of log) (is_history log valid)).number in
    let first : (history_of log).start.number ≡ start.number = ap (λ (v : Version). v.number) begins in
    all_below count entries (omega (arith, number, made, risen, first, length-map (commands_in entries) (λ (c : ℕ × Batch). c.1)))
