-- From what the threads of a server gave back that could not run, and what its book came to, to what it owes.
use Rattle.std.proofs.Common.{◌≡◌, ◌+◌, ◌<◌, ◌∷◌, ◌||◌, ℕ, zero, suc, Bool, true, false, List, [], Option, MatchBool, All, length, map, refl, sym, ap, subst, ◌∙◌, arith}
use Rattle.std.specs.List.{AllZip, list_any}
use Rattle.std.specs.declared.alloc.Global.{Global}
use Rattle.std.specs.declared.vec.Vec.{Vec}
use Rattle.std.proofs.lemmas.Bool.{true≢false}
use Rattle.std.proofs.lemmas.List.{length-map, nil_from_length}
use Rattle.std.proofs.lemmas.List.Elements.{All-nil}
use Rattle.std.proofs.lemmas.List.Sums.{sum_by_push}
use Rattle.logbook.specs.Pages.{Book}
use Rattle.disk_model.specs.declared.disk.Disk.{Ghosts}
use Rattle.overlay_terms.specs.Batches.{Batch}
use Rattle.overlay_terms.specs.Histories.{Version, Entry, commands_in}
use Rattle.overlay_terms.proofs.HistoryFolds.{newest_has_commands}
use Rattle.book_history.specs.BookLogs.{BookLog}
use Rattle.book_history.specs.Known.{Known}
use Rattle.book_history.specs.Logs.{history_of, newest_in, IsLog}
use Rattle.book_history.proofs.Chains.{is_history}
use Rattle.book_lock.specs.Steps.{beginners, HasAllOf}
use Rattle.store_flushing.specs.ReportNote.{notes_in}
use Rattle.store_flushing.specs.Stores.{flusher_in}
use Rattle.store_flushing.specs.declared.closed.Closed.{Closed}
use Rattle.store_flushing.specs.declared.keeper.store.Store.{Store}
use Rattle.store_flushing.specs.declared.keeper.report_log.ReportLog.{ReportLog}
use Rattle.script_form.specs.Transcript.{BookStore}
use Rattle.session_threads.specs.Counting.{made_in}
use Rattle.session_threads.specs.Running.{IsRunOf, was_begun}
use Rattle.session_threads.specs.Seats.{ended_session, finished_of, session_of}
use Rattle.session_threads.specs.declared.port.Finished.{Finished}
use Rattle.session_threads.specs.declared.port.Port.{Port}
use Rattle.session_threads.specs.declared.running.Script.{Script}
use Rattle.session_threads.specs.declared.running.Ended.{Ended}
use Rattle.session_threads.proofs.Lists.{beside_length}
use Rattle.session_threads.proofs.NotBegun.{unbegun_same}
use Rattle.overlay_server.specs.Given.{given_to}
use Rattle.overlay_server.specs.Refusing.{AreBack, AreStopped, IsRefusedFrom, IsRefusedOf, StoreComesBack}
use Rattle.overlay_server.specs.Serving.{AreServed, first_log, store_from}
use Rattle.overlay_server.specs.declared.opening.BookAnswer.{BookAnswer}
use Rattle.overlay_server.specs.declared.outcome.PortsBack.{PortsBack}
use Rattle.overlay_server.specs.declared.outcome.PortsBack.TheVariants.{Stopped}
use Rattle.overlay_server.specs.declared.outcome.PortsFault.{PortsFault}
use Rattle.overlay_server.specs.declared.outcome.ServerFault.{ServerFault}
use Rattle.overlay_server.proofs.Parts.{are_served, as_many, begins_first}
use Rattle.overlay_server.proofs.Refusals.{IsAnswered, IsHistoryLeft, refused_from}
use Rattle.overlay_server.proofs.ServedParts.{Began, IsClosed, Ran}
use Rattle.overlay_server.proofs.StoppedParts.{are_stopped, none_stopped}
use Rattle.overlay_server.proofs.StoreParts.{back_from, left_by}
use Rattle.overlay_server.proofs.Strangers.{no_other}

-- ---- where no session was begun, nothing was made

neither : (a b : Bool) → (a || b) ≡ false → (a ≡ false) × (b ≡ false)
neither true b not_run = absurd (true≢false not_run)
neither false b not_run = (refl, not_run)

-- whether any of them was begun
abbrev pub any_of : {W : Type 0} → List (Finished W) → Bool
any_of {W} finished = list_any (λ (one : Finished W). was_begun one.end) finished

as_they_were : {R W : Type 0} (book : Book) (stored : BookStore) (remaining : R → Option (List ℕ)) (contents : W → Option (List ℕ)) (ss : List (Script R W)) (es : List (Ended R W))
    → AllZip (IsRunOf book stored remaining contents) ss es → any_of (map finished_of es) ≡ false → map ended_session es ≡ map session_of ss
as_they_were book stored remaining contents [] [] ran not_run = refl
as_they_were book stored remaining contents [] (e ∷ es) ran not_run = absurd ran
as_they_were book stored remaining contents (s ∷ ss) [] ran not_run = absurd ran
as_they_were book stored remaining contents (s ∷ ss) (e ∷ es) ran not_run =
    let both = neither (was_begun e.end) (any_of (map finished_of es)) not_run in
    ap (λ (k : Known). k ∷ map ended_session es) (unbegun_same book stored remaining contents s e ran.0 both.0)
    ∙ ap (λ (ks : List Known). s.session ∷ ks) (as_they_were book stored remaining contents ss es ran.1 both.1)

beginners_made : (book_log : BookLog) (n : ℕ) → made_in (beginners book_log n) ≡ 0
beginners_made book_log zero = refl
beginners_made book_log (suc n) =
    omega (
      arith,
      beginners_made book_log n,
      sum_by_push (λ (k : Known). length k.made) (beginners book_log n) (record { book = book_log.book; session = n; log = book_log.log; made = [] }),
    )

-- a log whose last number is its first one's has no command
no_commands : (log : List Entry) (start : Version) (made : ℕ) → IsLog log → (history_of log).start ≡ start → (newest_in log).number ≡ start.number + made → made ≡ 0
    → commands_in (history_of log).entries ≡ []
no_commands log start made valid begins number none =
    let entries = (history_of log).entries in
    let risen = (newest_has_commands (history_of log) (is_history log valid)).number in
    let first : (history_of log).start.number ≡ start.number = ap (λ (v : Version). v.number) begins in
    nil_from_length (commands_in entries) (omega (arith, number, none, risen, first, length-map (commands_in entries) (λ (c : ℕ × Batch). c.1)))

-- the sessions that come back: all where one was begun, and else none
pub come_to : (begun : Bool) (back given : List Known) (all : List Known) → MatchBool begun (back ≡ given) (back ≡ []) → given ≡ all → MatchBool begun (back ≡ all) (back ≡ [])
come_to true back given all is same = is ∙ same
come_to false back given all is same = is

-- ---- what a server owes

-- its book has ended
record IsEndedSo {R W D : Type 0} (start : Version) (ended : List (Ended R W)) (begun : Bool) (fault : ServerFault D) : Type 0 where
  log : IsLog fault.seen_log.log
  sessions : All (HasAllOf fault.seen_log.log) (map ended_session ended)
  number : (newest_in fault.seen_log.log).number ≡ start.number + made_in (map ended_session ended)
  begun_is : begun ≡ any_of (map finished_of ended)
  come : MatchBool begun (fault.sessions.items ≡ map ended_session ended) (fault.sessions.items ≡ [])

module _ {R W D : Type 0} (g : Ghosts D) (book : Book) (remaining : R → Option (List ℕ)) (contents : W → Option (List ℕ)) (start : Version) (ports : List (Port R W)) (store after : Store D g)
    (scripts : List (Script R W)) (ended : List (Ended R W)) (fault : ServerFault D) (began : Began book start ports store scripts) (ran : Ran g book start remaining contents store after scripts ended) where
  abbrev stored : BookStore
  stored = store_from g start (flusher_in store)

  history_left : (begun : Bool) → IsEndedSo start ended begun fault → IsHistoryLeft g start (flusher_in store) (given_to remaining contents ports) fault
  history_left true so =
      let log = fault.seen_log.log in
      let entries = (history_of log).entries in
      let begins = begins_first book stored remaining contents start ports scripts began.seated ended ran.sessions log so.sessions began.some in
      let count : length fault.sessions.items ≡ length ports =
      ap (λ (ks : List Known). length ks) so.come ∙ length-map ended ended_session
      ∙ sym (beside_length (IsRunOf book stored remaining contents) scripts ended ran.sessions) ∙ as_many book start ports scripts began.seated in
      record {
        log = so.log;
        begins = begins;
        only =
            subst (λ (n : ℕ). All (λ (c : ℕ × Batch). c.0 < n) (commands_in entries)) (sym count)
            (no_other book stored remaining contents start ports scripts ended log began.seated ran.sessions so.sessions so.log begins so.number);
        none = λ none. absurd (omega (arith, began.some, count, ap (λ (ks : List Known). length ks) none));
        sessions =
            subst (AreStopped stored start log (given_to remaining contents ports)) (sym so.come)
            (are_stopped book stored remaining contents start ports scripts began.seated ended ran.sessions log so.sessions);
      }
  history_left false so =
      let log = fault.seen_log.log in
      let begins = begins_first book stored remaining contents start ports scripts began.seated ended ran.sessions log so.sessions began.some in
      let as_were = as_they_were book stored remaining contents scripts ended ran.sessions (sym so.begun_is) in
      let made : made_in (map ended_session ended) ≡ 0 =
      ap (λ (ks : List Known). made_in ks) (as_were ∙ began.seated.sessions) ∙ beginners_made (record { book = book; log = first_log start }) (length ports) in
      let nothing = no_commands log start (made_in (map ended_session ended)) so.log begins so.number made in
      record {
        log = so.log;
        begins = begins;
        only = subst (λ (cs : List (ℕ × Batch)). All (λ (c : ℕ × Batch). c.0 < length fault.sessions.items) cs) (sym nothing) (All-nil (λ (c : ℕ × Batch). c.0 < length fault.sessions.items));
        none = λ _. nothing;
        sessions = none_stopped stored start log (given_to remaining contents ports) fault.sessions.items book so.come;
      }

  pub stopped_from : (begun : Bool) (answer : BookAnswer) (closed : Closed D) → IsAnswered fault answer → IsClosed g start after ended closed
      → (fault.disk ≡ closed.disk) × ((fault.seen_log ≡ closed.seen_log) × (fault.notes ≡ closed.notes)) → begun ≡ any_of (map finished_of ended)
      → MatchBool begun (fault.sessions.items ≡ map ended_session ended) (fault.sessions.items ≡ []) → IsRefusedFrom g start (flusher_in store) (given_to remaining contents ports) fault
  stopped_from begun answer closed answered so same begun_is come =
      let log : fault.seen_log ≡ closed.seen_log = same.1.0 in
      refused_from g start (flusher_in store) (given_to remaining contents ports) fault answer answered
      (history_left begun (record {
        log = subst (λ (l : BookLog). IsLog l.log) (sym log) so.store.log;
        sessions = subst (λ (l : BookLog). All (HasAllOf l.log) (map ended_session ended)) (sym log) so.sessions;
        number = ap (λ (l : BookLog). (newest_in l.log).number) log ∙ so.number;
        begun_is = begun_is;
        come = come;
      }))
      (subst (λ (d : Option D). StoreComesBack g start fault.seen_log.log (notes_in fault.notes) (flusher_in store) d) (sym same.0)
      (subst (λ (l : BookLog). StoreComesBack g start l.log (notes_in fault.notes) (flusher_in store) closed.disk) (sym log)
      (subst (λ (t : ReportLog). StoreComesBack g start closed.seen_log.log (notes_in t) (flusher_in store) closed.disk) (sym same.1.1)
      (back_from g start (flusher_in store) closed (left_by g start store after closed began.log began.none_reported ran.kept.flushed so.store)))))

-- the same with what comes back of its ports: each writer, with just what its session was answered
pub stopped_of : {R W D : Type 0} (g : Ghosts D) (book : Book) (remaining : R → Option (List ℕ)) (contents : W → Option (List ℕ)) (start : Version) (ports : List (Port R W)) (store after : Store D g)
    (scripts : List (Script R W)) (ended : List (Ended R W)) (refused : PortsFault R W D) → Began book start ports store scripts → Ran g book start remaining contents store after scripts ended
    → (answer : BookAnswer) (closed : Closed D) → IsAnswered refused.fault answer → IsClosed g start after ended closed
    → (refused.fault.disk ≡ closed.disk) × ((refused.fault.seen_log ≡ closed.seen_log) × (refused.fault.notes ≡ closed.notes))
    → (finished : Vec (Finished W) Global) → finished.items ≡ map finished_of ended → refused.back ≡ Stopped finished
    → MatchBool (any_of finished.items) (refused.fault.sessions.items ≡ map ended_session ended) (refused.fault.sessions.items ≡ [])
    → IsRefusedOf remaining contents g start (flusher_in store) (given_to remaining contents ports) refused
stopped_of {R} {W} g book remaining contents start ports store after scripts ended refused began ran answer closed answered so same finished finished_are back come =
    let stored = store_from g start (flusher_in store) in
    let all = given_to remaining contents ports in
    let log = refused.fault.seen_log.log in
    let own = subst (λ (l : BookLog). All (HasAllOf l.log) (map ended_session ended)) (sym same.1.0) so.sessions in
    record {
      fault = stopped_from g book remaining contents start ports store after scripts ended refused.fault began ran (any_of finished.items) answer closed answered so same
          (ap (λ (fs : List (Finished W)). any_of fs) finished_are) come;
      ports =
          subst (λ (b : PortsBack R W). AreBack remaining contents stored start all refused.fault b) (sym back)
          (subst (AreServed stored contents start log all) (sym finished_are)
          (are_served book stored remaining contents start ports scripts began.seated ended ran.sessions log own));
    }
