-- From what the threads of a server gave back, and what `close` says, to what the server owes.
use Rattle.std.proofs.Common.{◌≡◌, ◌+◌, ◌<◌, ℕ, List, [], Option, All, length, map, sym, subst}
use Rattle.std.specs.Arc.{arc_value}
use Rattle.std.specs.List.{AllZip}
use Rattle.std.proofs.lemmas.List.{length-map}
use Rattle.logbook.specs.Pages.{Book}
use Rattle.disk_model.specs.declared.disk.Disk.{Ghosts}
use Rattle.overlay_terms.specs.Batches.{Batch}
use Rattle.overlay_terms.specs.Histories.{Version, commands_in}
use Rattle.book_history.specs.Logs.{history_of, newest_in}
use Rattle.book_lock.specs.Steps.{HasAllOf}
use Rattle.store_flushing.specs.Stores.{flusher_in, reporter_of, notes_by}
use Rattle.store_flushing.specs.declared.closed.Closed.{Closed}
use Rattle.store_flushing.specs.declared.keeper.store.Store.{Store}
use Rattle.session_threads.specs.Counting.{made_in}
use Rattle.session_threads.specs.Running.{IsRunOf}
use Rattle.session_threads.specs.Seats.{ended_session, finished_of}
use Rattle.session_threads.specs.declared.port.Finished.{Finished}
use Rattle.session_threads.specs.declared.port.Port.{Port}
use Rattle.session_threads.specs.declared.running.Script.{Script}
use Rattle.session_threads.specs.declared.running.Ended.{Ended}
use Rattle.overlay_server.specs.Keeping.{IsStoreKept}
use Rattle.overlay_server.specs.Given.{given_at, given_to}
use Rattle.overlay_server.specs.Serving.{AreServed, IsLeftFrom, first_log, store_from}
use Rattle.overlay_server.specs.declared.outcome.Left.{Left}
use Rattle.overlay_server.proofs.Parts.{AreSeated, are_served, begins_first}
use Rattle.overlay_server.proofs.StoreParts.{HasClosed, left_by}
use Rattle.overlay_server.proofs.Strangers.{no_other}

-- a server began so: its store's log, and the scripts with their sessions
pub record Began {R W D : Type 0} {g : Ghosts D} (book : Book) (start : Version) (ports : List (Port R W)) (store : Store D g) (scripts : List (Script R W)) : Type 0 where
  pub log : (reporter_of store).log ≡ first_log start
  pub none_reported : notes_by store ≡ []
  pub some : 0 < length ports
  pub seated : AreSeated book start ports scripts

-- its threads have returned
pub record Ran {R W D : Type 0} (g : Ghosts D) (book : Book) (start : Version) (remaining : R → Option (List ℕ)) (contents : W → Option (List ℕ)) (store after : Store D g) (scripts : List (Script R W)) (ended : List (Ended R W)) : Type 0 where
  pub sessions : AllZip (IsRunOf book (store_from g start (flusher_in store)) remaining contents) scripts ended
  pub kept : IsStoreKept book g store after

-- its book is closed
pub record IsClosed {R W D : Type 0} (g : Ghosts D) (start : Version) (after : Store D g) (ended : List (Ended R W)) (closed : Closed D) : Type 0 where
  pub version : arc_value closed.version ≡ newest_in closed.seen_log.log
  pub sessions : All (HasAllOf closed.seen_log.log) (map ended_session ended)
  pub number : (newest_in closed.seen_log.log).number ≡ start.number + made_in (map ended_session ended)
  pub store : HasClosed g after closed

pub served_from : {R W D : Type 0} (g : Ghosts D) (book : Book) (remaining : R → Option (List ℕ)) (contents : W → Option (List ℕ)) (start : Version) (ports : List (Port R W)) (store after : Store D g)
    (scripts : List (Script R W)) (ended : List (Ended R W)) (left : Left W D) → Began book start ports store scripts → Ran g book start remaining contents store after scripts ended
    → IsClosed g start after ended left.closed → left.sessions.items ≡ map finished_of ended → IsLeftFrom contents g start (flusher_in store) (given_to remaining contents ports) left
served_from {W = W} g book remaining contents start ports store after scripts ended left began ran closed finished =
    let stored = store_from g start (flusher_in store) in
    let log = left.closed.seen_log.log in
    let begins = begins_first book stored remaining contents start ports scripts began.seated ended ran.sessions log closed.sessions began.some in
    record {
      version = closed.version;
      log = closed.store.log;
      begins = begins;
      only =
          subst (λ (n : ℕ). All (λ (c : ℕ × Batch). c.0 < n) (commands_in (history_of log).entries)) (sym (length-map ports (given_at remaining contents)))
          (no_other book stored remaining contents start ports scripts ended log began.seated ran.sessions closed.sessions closed.store.log begins closed.number);
      sessions =
          subst (λ (os : List (Finished W)). AreServed stored contents start log (given_to remaining contents ports) os) (sym finished)
          (are_served book stored remaining contents start ports scripts began.seated ended ran.sessions log closed.sessions);
      kept = left_by g start store after left.closed began.log began.none_reported ran.kept.flushed closed.store;
    }
