-- What is asked of the writers of a server's sessions: what its book may report durable may be reported to them, each goes on from
-- what its session knows, and those that keep what is left of their scripts have all of them left.
use Rattle.std.proofs.Common.{◌≡◌, ℕ, zero, suc, Bool, List, [], ◌∷◌, Option, Some, None, is_some, length, map, refl, ap, sym, subst, ◌∙◌, arith}
use Rattle.std.specs.List.{All, AllByRecursion, AllZip}
use Rattle.std.proofs.lemmas.List.Elements.{All-append, All-cons, All-head, All-nil, All-tail}
use Rattle.logbook.specs.Pages.{Book}
use Rattle.disk_model.specs.declared.disk.Disk.{Ghosts}
use Rattle.overlay_terms.specs.Histories.{Version, Entry, History, BeginsWith}
use Rattle.flush_core.specs.declared.flusher.Flusher.{Flusher}
use Rattle.overlay_engine.specs.declared.engine.Engine.{Engine}
use Rattle.book_lock.specs.Steps.{beginners}
use Rattle.book_lock.proofs.Beginning.{count_of}
use Rattle.book_history.specs.BookLogs.{BookLog}
use Rattle.book_history.specs.Known.{Known, seen}
use Rattle.book_history.specs.Logs.{history_of}
use Rattle.book_history.specs.declared.fault.ReportedFault.{ReportedFault}
use Rattle.script_form.specs.Transcript.{StoreReport}
use Rattle.server_session.specs.Replying.{MayReport}
use Rattle.session_threads.specs.Seats.{port_of, session_of}
use Rattle.session_threads.specs.declared.port.Port.{Port}
use Rattle.session_threads.specs.declared.running.Script.{Script}
use Rattle.kept_store.proofs.Histories.{begins_trans}
use Rattle.overlay_server.specs.Moments.{HasOnlyNow}
use Rattle.overlay_server.specs.Serving.{ServerReports, first_log}
use Rattle.kept_store.specs.Beginning.{flusher_of}
use Rattle.overlay_server.proofs.Held.{Means, was_reported}

module _ {D : Type 0} (g : Ghosts D) (now : HasOnlyNow g) (start : Version) (stored : List Entry → ℕ → Type 0) (failed : List Entry → ReportedFault → Type 0) (store : Option (Flusher D g))
    (means : Means g now start stored failed store) (may : History → StoreReport → Type 0)
    (held : (history : History) (report : StoreReport) → ServerReports g start store history report → may history report) (there : Bool) (same : there ≡ is_some store) where
  -- to those of sessions that have seen how the book began
  pub may_report_all : {R W : Type 0} (ss : List (Script R W)) → AllByRecursion (λ (s : Script R W). BeginsWith (seen s.session) (history_of (first_log start))) ss
      → All (λ (s : Script R W). MayReport stored failed there s.session may) ss
  may_report_all [] begin = All-nil (λ s. MayReport stored failed there s.session may)
  may_report_all (s ∷ ss) begin =
      All-cons (λ s. MayReport stored failed there s.session may) s ss
      (λ one history report on reported.
      held history report (was_reported g now start stored failed store means (sym same ∙ one) history report (begins_trans (history_of (first_log start)) (seen s.session) history begin.0 on) reported))
      (may_report_all ss begin.1)

-- ports' writers that have all of their scripts left are those of the scripts
pub own_of : {R W : Type 0} (P : Port R W → Type 0) (ports : List (Port R W)) (ss : List (Script R W)) → map port_of ss ≡ ports → All P ports → All (λ (s : Script R W). P s.port) ss
own_of P ports ss are owns = each ss (subst (All P) (sym are) owns) where
  each : (ss : List (Script _ _)) → All P (map port_of ss) → All (λ (s : Script _ _). P s.port) ss
  each [] all = All-nil (λ s. P s.port)
  each (s ∷ ss) all = All-cons (λ s. P s.port) s ss (All-head P s.port (map port_of ss) all) (each ss (All-tail P s.port (map port_of ss) all))

-- what holds of each port and the session of its place does of each script
pub goes_of : {R W : Type 0} (P : Port R W → Known → Type 0) (ports : List (Port R W)) (sessions : List Known) (ss : List (Script R W)) → map port_of ss ≡ ports → map session_of ss ≡ sessions
    → AllZip P ports sessions → All (λ (s : Script R W). P s.port s.session) ss
goes_of P ports sessions ss are run zip = each ss (subst (λ ps. AllZip P ps (map session_of ss)) (sym are) (subst (AllZip P ports) (sym run) zip)) where
  each : (ss : List (Script _ _)) → AllZip P (map port_of ss) (map session_of ss) → All (λ (s : Script _ _). P s.port s.session) ss
  each [] zip = All-nil (λ s. P s.port s.session)
  each (s ∷ ss) zip = All-cons (λ s. P s.port s.session) s ss zip.0 (each ss zip.1)

-- what always holds does of lists that are as long
pub beside_any : {X Y : Type 0} {R : X → Y → Type 0} (xs : List X) (ys : List Y) → ((x : X) (y : Y) → R x y) → length xs ≡ length ys → AllZip R xs ys
beside_any [] [] always same = tt
beside_any [] (y ∷ ys) always same = absurd (omega (arith, same))
beside_any (x ∷ xs) [] always same = absurd (omega (arith, same))
beside_any (x ∷ xs) (y ∷ ys) always same = (always x y, beside_any xs ys always (omega (arith, same)))

-- what holds of each port and of any session that has made nothing does of each and the session of its place
unmade : (book_log : BookLog) (n : ℕ) → All (λ (k : Known). k.made ≡ []) (beginners book_log n)
unmade book_log zero = All-nil (λ (k : Known). k.made ≡ [])
unmade book_log (suc n) =
    All-append (λ (k : Known). k.made ≡ []) (beginners book_log n) _ (unmade book_log n) (All-cons (λ (k : Known). k.made ≡ []) _ [] refl (All-nil (λ (k : Known). k.made ≡ [])))

pub with_any : {X : Type 0} (P : X → Known → Type 0) (xs : List X) (ks : List Known) → length xs ≡ length ks → All (λ (x : X). (me : Known) → me.made ≡ [] → P x me) xs → All (λ (k : Known). k.made ≡ []) ks → AllZip P xs ks
with_any P [] [] same each none = tt
with_any P [] (k ∷ ks) same each none = absurd (omega (arith, same))
with_any P (x ∷ xs) [] same each none = absurd (omega (arith, same))
with_any P (x ∷ xs) (k ∷ ks) same each none = (
  All-head (λ x. (me : Known) → me.made ≡ [] → P x me) x xs each k (All-head (λ (k : Known). k.made ≡ []) k ks none),
  with_any P xs ks (omega (arith, same)) (All-tail (λ x. (me : Known) → me.made ≡ [] → P x me) x xs each) (All-tail (λ (k : Known). k.made ≡ []) k ks none),
)

pub with_beginners : {X : Type 0} (P : X → Known → Type 0) (xs : List X) (book_log : BookLog) (n : ℕ) → length xs ≡ n → All (λ (x : X). (me : Known) → me.made ≡ [] → P x me) xs
    → AllZip P xs (beginners book_log n)
with_beginners P xs book_log n same each = with_any P xs (beginners book_log n) (same ∙ sym (count_of book_log n)) each (unmade book_log n)

-- a history and its book
pub log_is : (l : BookLog) (book : Book) (log : List Entry) → l.book ≡ book → l.log ≡ log → l ≡ record { book = book; log = log }
log_is l book log of is = ap (λ (b : Book). record { book = b; log = l.log }) of ∙ ap (λ (es : List Entry). record { book = book; log = es }) is

-- a server has a store just where it was given an engine
pub has_engine : {D : Type 0} {g : Ghosts D} (engine : Option (Engine D g)) → is_some (flusher_of engine) ≡ is_some engine
has_engine None = refl
has_engine (Some engine) = refl
