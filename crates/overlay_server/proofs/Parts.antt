-- The sessions of a server, what they were given, and what they left, side by side.
use Rattle.std.proofs.Common.{◌≡◌, ◌∷◌, [], ℕ, zero, suc, ◌<◌, List, Option, length, map, refl, ap, sym, ◌∙◌, subst, arith}
use Rattle.std.specs.List.{All, AllZip, AllByRecursion}
use Rattle.std.proofs.lemmas.List.{length-map}
use Rattle.std.proofs.lemmas.List.Elements.{All-append, All-cons, All-nil, All-head, All-tail}
use Rattle.logbook.specs.Pages.{Book}
use Rattle.overlay_terms.specs.Histories.{Version, Entry, History, BeginsWith}
use Rattle.book_history.specs.Known.{Known, seen}
use Rattle.book_history.specs.Logs.{history_of}
use Rattle.book_history.proofs.Chains.{begins_with}
use Rattle.book_lock.specs.Steps.{beginners, HasAllOf}
use Rattle.script_form.specs.Transcript.{BookStore}
use Rattle.kept_store.proofs.Histories.{begins_self}
use Rattle.session_threads.specs.Running.{IsRunOf}
use Rattle.session_threads.specs.Seats.{session_of, port_of, ended_session, finished_of}
use Rattle.session_threads.specs.declared.running.Script.{Script}
use Rattle.session_threads.specs.declared.running.Ended.{Ended}
use Rattle.session_threads.specs.declared.port.Finished.{Finished}
use Rattle.session_threads.specs.declared.port.Port.{Port}
use Rattle.overlay_server.specs.Given.{Given, given_at, given_to}
use Rattle.overlay_server.specs.Serving.{AreServed, IsServed, Part, first_log}

-- a session that a book begins with: it has seen the first version alone
abbrev beginner : Book → Version → ℕ → Known
beginner book start n = record { book = book; session = n; log = first_log start; made = [] }

abbrev parts_of : {R W : Type 0} (remaining : R → Option (List ℕ)) (contents : W → Option (List ℕ)) → List (Script R W) → List (Ended R W) → List (Part W)
parts_of remaining contents [] ended = []
parts_of remaining contents (s ∷ ss) [] = []
parts_of remaining contents (s ∷ ss) (e ∷ es) =
    record { session = s.session; given = given_at remaining contents (port_of s); finished = finished_of e } ∷ parts_of remaining contents ss es

module _ {R W : Type 0} (remaining : R → Option (List ℕ)) (contents : W → Option (List ℕ)) (P : Script R W → Ended R W → Type 0) where
  sessions_are : (ss : List (Script R W)) (es : List (Ended R W)) → AllZip P ss es → map (λ (p : Part W). p.session) (parts_of remaining contents ss es) ≡ map session_of ss
  sessions_are [] [] h = refl
  sessions_are [] (e ∷ es) h = absurd h
  sessions_are (s ∷ ss) [] h = absurd h
  sessions_are (s ∷ ss) (e ∷ es) h = ap (λ (ks : List Known). session_of s ∷ ks) (sessions_are ss es h.1)

  given_are : (ss : List (Script R W)) (es : List (Ended R W)) → AllZip P ss es → map (λ (p : Part W). p.given) (parts_of remaining contents ss es) ≡ given_to remaining contents (map port_of ss)
  given_are [] [] h = refl
  given_are [] (e ∷ es) h = absurd h
  given_are (s ∷ ss) [] h = absurd h
  given_are (s ∷ ss) (e ∷ es) h = ap (λ (gs : List Given). given_at remaining contents (port_of s) ∷ gs) (given_are ss es h.1)

  finished_are : (ss : List (Script R W)) (es : List (Ended R W)) → AllZip P ss es → map (λ (p : Part W). p.finished) (parts_of remaining contents ss es) ≡ map finished_of es
  finished_are [] [] h = refl
  finished_are [] (e ∷ es) h = absurd h
  finished_are (s ∷ ss) [] h = absurd h
  finished_are (s ∷ ss) (e ∷ es) h = ap (λ (os : List (Finished W)). finished_of e ∷ os) (finished_are ss es h.1)

-- ---- what holds of all sessions

-- the sessions that a book begins with
pub all_begin : (book : Book) (start : Version) (P : Known → Type 0) → ((n : ℕ) → P (beginner book start n))
    → (n : ℕ) → All P (beginners (record { book = book; log = first_log start }) n)
all_begin book start P each zero = All-nil P
all_begin book start P each (suc n) =
    All-append P (beginners (record { book = book; log = first_log start }) n) (beginner book start n ∷ [])
    (all_begin book start P each n) (All-cons P (beginner book start n) [] (each n) (All-nil P))

-- of all scripts' sessions
pub of_scripts : {R W : Type 0} (P : Known → Type 0) (ss : List (Script R W)) → All P (map session_of ss) → All (λ (s : Script R W). P (session_of s)) ss
of_scripts P [] h = All-nil (λ s. P (session_of s))
of_scripts P (s ∷ ss) h =
    All-cons (λ s. P (session_of s)) s ss (All-head P (session_of s) (map session_of ss) h) (of_scripts P ss (All-tail P (session_of s) (map session_of ss) h))

each_script : {R W : Type 0} (P : Script R W → Type 0) (ss : List (Script R W)) → All P ss → AllByRecursion P ss
each_script P [] h = tt
each_script P (s ∷ ss) h = (All-head P s ss h, each_script P ss (All-tail P s ss h))

-- of all sessions that have ended
pub of_ended : {R W : Type 0} (book : Book) (stored : BookStore) (remaining : R → Option (List ℕ)) (contents : W → Option (List ℕ)) (ss : List (Script R W)) (es : List (Ended R W))
    → AllZip (IsRunOf book stored remaining contents) ss es → All (λ (k : Known). k.book ≡ book) (map ended_session es)
of_ended book stored remaining contents [] [] h = All-nil (λ (k : Known). k.book ≡ book)
of_ended book stored remaining contents [] (e ∷ es) h = absurd h
of_ended book stored remaining contents (s ∷ ss) [] h = absurd h
of_ended book stored remaining contents (s ∷ ss) (e ∷ es) h =
    All-cons (λ (k : Known). k.book ≡ book) (ended_session e) (map ended_session es) h.0.of (of_ended book stored remaining contents ss es h.1)

-- ---- what a server owes

-- each session that ran was served, where the log has all of it
served : {R W : Type 0} (book : Book) (stored : BookStore) (remaining : R → Option (List ℕ)) (contents : W → Option (List ℕ)) (log : List Entry) (ss : List (Script R W)) (es : List (Ended R W))
    → AllZip (IsRunOf book stored remaining contents) ss es → All (HasAllOf log) (map ended_session es) → AllByRecursion (IsServed stored contents log) (parts_of remaining contents ss es)
served book stored remaining contents log [] es ran own = tt
served book stored remaining contents log (s ∷ ss) [] ran own = absurd ran
served book stored remaining contents log (s ∷ ss) (e ∷ es) ran own = (
  record {
    now = ended_session e;
    left = remaining e.port.reader;
    same = ran.0.same;
    goes_on = ran.0.goes_on;
    ran = ran.0.ran;
    own = All-head (HasAllOf log) (ended_session e) (map ended_session es) own;
  },
  served book stored remaining contents log ss es ran.1 (All-tail (HasAllOf log) (ended_session e) (map ended_session es) own),
)

-- the first session's history shows where the log begins
begins_there : {R W : Type 0} (book : Book) (stored : BookStore) (remaining : R → Option (List ℕ)) (contents : W → Option (List ℕ)) (start : Version) (log : List Entry) (ss : List (Script R W)) (es : List (Ended R W))
    → AllZip (IsRunOf book stored remaining contents) ss es → AllByRecursion (λ (s : Script R W). (seen s.session).start ≡ start) ss
    → All (HasAllOf log) (map ended_session es) → 0 < length ss → (history_of log).start ≡ start
begins_there book stored remaining contents start log [] es ran begun own some = absurd (omega (arith, some))
begins_there book stored remaining contents start log (s ∷ ss) [] ran begun own some = absurd ran
begins_there book stored remaining contents start log (s ∷ ss) (e ∷ es) ran begun own some =
    let first = All-head (HasAllOf log) (ended_session e) (map ended_session es) own in
    let on = begins_with e.session.log log ran.0.begun first.longer in
    ap (λ (h : History). h.start) on.1 ∙ ap (λ (h : History). h.start) ran.0.goes_on.1 ∙ begun.0

-- the scripts of a server whose sessions its book began with
pub record AreSeated {R W : Type 0} (book : Book) (start : Version) (ports : List (Port R W)) (scripts : List (Script R W)) : Type 0 where
  pub sessions : map session_of scripts ≡ beginners (record { book = book; log = first_log start }) (length ports)
  pub ports_are : map port_of scripts ≡ ports

pub all_of_book : {R W : Type 0} (book : Book) (start : Version) (ports : List (Port R W)) (scripts : List (Script R W)) → AreSeated book start ports scripts
    → All (λ (s : Script R W). s.session.book ≡ book) scripts
all_of_book book start ports scripts seated =
    of_scripts (λ (k : Known). k.book ≡ book) scripts
    (subst (All (λ (k : Known). k.book ≡ book)) (sym seated.sessions) (all_begin book start (λ (k : Known). k.book ≡ book) (λ n. refl) (length ports)))

starts_there : {R W : Type 0} (book : Book) (start : Version) (ports : List (Port R W)) (scripts : List (Script R W)) → AreSeated book start ports scripts
    → AllByRecursion (λ (s : Script R W). (seen s.session).start ≡ start) scripts
starts_there book start ports scripts seated =
    let P : Known → Type 0 = λ k. (seen k).start ≡ start in
    each_script (λ s. P (session_of s)) scripts
    (of_scripts P scripts (subst (All P) (sym seated.sessions) (all_begin book start P (λ n. refl) (length ports))))

-- each of their sessions has seen the first version
pub begin_there : {R W : Type 0} (book : Book) (start : Version) (ports : List (Port R W)) (scripts : List (Script R W)) → AreSeated book start ports scripts
    → AllByRecursion (λ (s : Script R W). BeginsWith (seen s.session) (history_of (first_log start))) scripts
begin_there book start ports scripts seated =
    let P : Known → Type 0 = λ k. BeginsWith (seen k) (history_of (first_log start)) in
    each_script (λ s. P (session_of s)) scripts
    (of_scripts P scripts (subst (All P) (sym seated.sessions) (all_begin book start P (λ n. begins_self (history_of (first_log start))) (length ports))))

length-map_reader : {R W : Type 0} (ss : List (Script R W)) → length (map port_of ss) ≡ length ss
length-map_reader [] = refl
length-map_reader (s ∷ ss) = ap suc (length-map_reader ss)

-- there are as many scripts as ports
pub as_many : {R W : Type 0} (book : Book) (start : Version) (ports : List (Port R W)) (scripts : List (Script R W)) → AreSeated book start ports scripts
    → length scripts ≡ length ports
as_many book start ports scripts seated = sym (length-map_reader scripts) ∙ ap (λ (rs : List _). length rs) seated.ports_are

module _ {R W : Type 0} (book : Book) (stored : BookStore) (remaining : R → Option (List ℕ)) (contents : W → Option (List ℕ)) (start : Version) (ports : List (Port R W)) (scripts : List (Script R W)) (seated : AreSeated book start ports scripts)
    (ended : List (Ended R W)) (ran : AllZip (IsRunOf book stored remaining contents) scripts ended) (log : List Entry) (own : All (HasAllOf log) (map ended_session ended)) where
  pub are_served : AreServed stored contents start log (given_to remaining contents ports) (map finished_of ended)
  are_served = record {
    book = book;
    parts = parts_of remaining contents scripts ended;
    sessions =
        sessions_are remaining contents (IsRunOf book stored remaining contents) scripts ended ran ∙ seated.sessions
        ∙ ap (λ (n : ℕ). beginners (record { book = book; log = first_log start }) n) (sym (length-map ports (given_at remaining contents)));
    given_are =
        given_are remaining contents (IsRunOf book stored remaining contents) scripts ended ran ∙ ap (λ (ps : List (Port R W)). given_to remaining contents ps) seated.ports_are;
    finished_are = finished_are remaining contents (IsRunOf book stored remaining contents) scripts ended ran;
    served = served book stored remaining contents log scripts ended ran own;
  }

  pub begins_first : 0 < length ports → (history_of log).start ≡ start
  begins_first some =
      begins_there book stored remaining contents start log scripts ended ran (starts_there book start ports scripts seated) own
      (omega (arith, some, as_many book start ports scripts seated))
