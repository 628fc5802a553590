-- A book whose commands are all of its first session, as that of a server of one reader: the session was alone.
use Rattle.std.specs.Prelude.{◌≡◌, ◌<◌, ℕ, List, [], flat_map, All}
use Rattle.logbook.specs.Pages.{Book}
use Rattle.overlay_terms.specs.Histories.{Version, Entry, commands_in}
use Rattle.book_history.specs.Known.{Known, seen}
use Rattle.book_history.specs.Logs.{history_of, IsLog}
use Rattle.book_lock.specs.Steps.{HasAllOf}
use Rattle.script_form.specs.Transcript.{BookStore}
use Rattle.script_form.specs.Turns.{Turn}
use Rattle.line_laws.specs.Deciding.{Answered, AreAlone, history_after, turns_in}
use Rattle.server_session.specs.Session.{IsSharedRun}
use Rattle.overlay_server.specs.Serving.{first_log}

-- the first of the sessions that a book begins with
abbrev pub first_session : Book → Version → Known
first_session book start = record { book = book; session = 0; log = first_log start; made = [] }

-- a session was alone, as `lines_decide` asks it: its turns were answered so, and made all that was accepted meanwhile
pub record WasAlone (stored : BookStore) (was : Known) (turns : List Turn) (now : Known) (replies : List ℕ) : Type 0 where
  pub all : List Answered
  pub alone : AreAlone stored was.session (seen was) all
  pub same_turns : turns_in all ≡ turns
  pub same_after : history_after (seen was) all ≡ seen now
  pub same_replies : flat_map (λ (one : Answered). one.reply) all ≡ replies

-- where a book has no command but those of its first session, as that of a server of one reader, that session was alone
abbrev pub OneSessionIsAlone : BookStore → Type 0
OneSessionIsAlone stored =
    (start : Version) (book : Book) (log : List Entry) (turns : List Turn) (now : Known) (replies : List ℕ) → IsLog log
    → All (λ c. c.0 < 1) (commands_in (history_of log).entries) → now.session ≡ 0 → HasAllOf log now
    → IsSharedRun stored (first_session book start) turns now replies → WasAlone stored (first_session book start) turns now replies
