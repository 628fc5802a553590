-- How a session ran in its thread.
use Rattle.std.specs.Prelude.{◌≡◌, ◌<◌, ℕ, Bool, true, not, nat_eq, List, length, Option}
use Rattle.logbook.specs.Pages.{Book}
use Rattle.overlay_terms.specs.Histories.{BeginsWith}
use Rattle.book_history.specs.Known.{seen}
use Rattle.script_form.specs.declared.session_end.SessionEnd.{SessionEnd}
use Rattle.script_form.specs.declared.session_end.SessionEnd.TheVariants.{End, Failed}
use Rattle.script_form.specs.Transcript.{BookStore}
use Rattle.server_session.specs.Session.{IsSessionWithin}
use Rattle.session_threads.specs.declared.running.Script.{Script}
use Rattle.session_threads.specs.declared.running.Ended.{Ended}

-- a session of this book ran its script: what it put to its writer are the replies;
-- `stored`: whether the book has a store
pub record IsRunOf {R W : Type 0} (book : Book) (stored : BookStore) (remaining : R → Option (List ℕ))
    (contents : W → Option (List ℕ)) (script : Script R W) (ended : Ended R W) : Type 0 where
  pub of : ended.session.book ≡ book
  pub same : ended.session.session ≡ script.session.session
  pub begun : 0 < length ended.session.log
  pub goes_on : BeginsWith (seen ended.session) (seen script.session)
  pub ran : IsSessionWithin script.port.most stored ended.end script.session ended.session
      (remaining script.port.reader) (remaining ended.port.reader) (contents script.port.writer)
      (contents ended.port.writer)

-- a script was not begun: its session, its reader and its writer are as they were, as where a session has no memory
pub record IsNotBegunOf {R W : Type 0} (script : Script R W) (ended : Ended R W) : Type 0 where
  pub session : ended.session ≡ script.session
  pub port : ended.port ≡ script.port
  pub end : ended.end ≡ Failed 40
  pub seen_some : 0 < length script.session.log

-- a session was begun: it did not end for want of memory for itself
abbrev pub was_begun : SessionEnd → Bool
was_begun End = true
was_begun (Failed code) = not (nat_eq code 40)
