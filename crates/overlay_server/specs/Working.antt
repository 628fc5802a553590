-- What the threads of a server begin with.
use Rattle.std.specs.Prelude.{◌≡◌, ℕ, Bool, List, length, All, IfSome, Option}
use Rattle.logbook.specs.Pages.{Book}
use Rattle.overlay_terms.specs.Batches.{Batch}
use Rattle.overlay_terms.specs.Histories.{Entry, History}
use Rattle.book_history.specs.Known.{Known}
use Rattle.book_history.specs.declared.fault.ReportedFault.{ReportedFault}
use Rattle.script_form.specs.Transcript.{StoreReport}
use Rattle.script_form.specs.Turns.{Turn}
use Rattle.server_session.specs.Asking.{MayAskAll}
use Rattle.server_session.specs.Replying.{IsAtStart, IsPastMost, MayReport}
use Rattle.session_threads.specs.Rooms.{HasRoom}
use Rattle.session_threads.specs.declared.running.Script.{Script}
use Rattle.overlay_server.specs.declared.threads.Work.{Work}

-- the sessions are of this book, and there is room for what they leave. What their writers may report is what may be
-- reported of the book's store. Each writer goes on from what its session knows, has all of its script left, if it keeps
-- that, and may report a limit that the script passes. What a script asks for counts as asked of its session. `there` says
-- whether the book has a store
pub record IsReady {J R W : Type 0} (book : Book) (stored : List Entry → ℕ → Type 0) (failed : List Entry → ReportedFault → Type 0) (asked : ℕ → Batch → Type 0) (there : Bool) (may : History → StoreReport → Type 0) (from : W → Bool → Known → Type 0) (remaining : R → Option (List ℕ)) (left : W → Option (List Turn)) (may_pass : W → Type 0) (work : Work J R W) : Type 0 where
  pub scripts : All (λ (script : Script R W). script.session.book ≡ book) work.seats.scripts.items
  pub reported : All (λ (script : Script R W). MayReport stored failed there script.session may) work.seats.scripts.items
  pub goes_on : All (λ (script : Script R W). from script.port.writer there script.session) work.seats.scripts.items
  pub own : All (λ (script : Script R W). IfSome (left script.port.writer) (IsAtStart (remaining script.port.reader))) work.seats.scripts.items
  pub asked_for : All (λ (script : Script R W). MayAskAll (asked script.session.session) (remaining script.port.reader)) work.seats.scripts.items
  pub limit : All (λ (script : Script R W). IsPastMost script.port.most (remaining script.port.reader) → may_pass script.port.writer) work.seats.scripts.items
  pub room : HasRoom work.seats (length work.seats.scripts.items)
