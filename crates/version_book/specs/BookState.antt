-- The book's state beside its log.
use Rattle.std.specs.Prelude.{◌≡◌, ℕ, ◌+◌, ◌%◌, ◌^◌, Bool, true, false, List, [], Option, Some, None, if◌then◌else◌}
use Rattle.book_history.specs.Fault.{passes}
use Rattle.version_book.specs.HeldTiles.{unmarked}
use Rattle.version_book.specs.declared.held_tiles.HeldTile.{HeldTile}
use Rattle.book_history.specs.declared.fault.ReportedFault.{ReportedFault}
use Rattle.version_book.specs.declared.book_state.BookState.{BookState}

-- what is left of a store's fault once a command is accepted
abbrev pub left_over : Option ReportedFault → Option ReportedFault
left_over (Some fault) = if passes fault then None else Some fault
left_over None = None

-- which fault holds once the store reports one: one that stays for good keeps its place
abbrev pub kept_fault : Option ReportedFault → ReportedFault → Option ReportedFault
kept_fault (Some old) fault = if passes old then Some fault else Some old
kept_fault None fault = Some fault

-- the count of news after this one
abbrev pub next_news : ℕ → ℕ
next_news news = (news + 1) % 2 ^ 64

-- a book begins: no tile is handed out or marked, and the store reported nothing
pub record IsFresh (new : BookState) : Type 0 where
  pub held : new.held.list.items ≡ []
  pub fault : new.fault ≡ None
  pub resting : new.resting ≡ false
  pub closing : new.closing ≡ false
  pub news : new.news ≡ 0

-- these tiles are handed out or marked now, and nothing else changed
pub record HasHeld (old : BookState) (tiles : List HeldTile) (new : BookState) : Type 0 where
  pub held : new.held.list.items ≡ tiles
  pub fault : new.fault ≡ old.fault
  pub resting : new.resting ≡ old.resting
  pub closing : new.closing ≡ old.closing
  pub news : new.news ≡ old.news

-- a command was accepted: no tile is marked, faults that pass are gone, the reporter does not rest, and there are news
pub record IsAfterCommand (old new : BookState) : Type 0 where
  pub held : new.held.list.items ≡ unmarked old.held.list.items
  pub fault : new.fault ≡ left_over old.fault
  pub resting : new.resting ≡ false
  pub closing : new.closing ≡ old.closing
  pub news : new.news ≡ next_news old.news

-- tiles were finished: these are handed out or marked now, and there are news where one was kept
pub record IsAfterFinish (old : BookState) (tiles : List HeldTile) (is_kept : Bool) (new : BookState) : Type 0 where
  pub held : new.held.list.items ≡ tiles
  pub fault : new.fault ≡ old.fault
  pub resting : new.resting ≡ old.resting
  pub closing : new.closing ≡ old.closing
  pub news : new.news ≡ (if is_kept then next_news old.news else old.news)

-- the store reported a fault: it holds where none stays for good, and the reporter rests
pub record IsAfterFailure (old : BookState) (fault : ReportedFault) (new : BookState) : Type 0 where
  pub fault_reported : new.fault ≡ kept_fault old.fault fault
  pub resting : new.resting ≡ true
  pub held : new.held ≡ old.held
  pub closing : new.closing ≡ old.closing
  pub news : new.news ≡ old.news

-- the book closes from now on
pub record IsAfterClosing (old new : BookState) : Type 0 where
  pub closing : new.closing ≡ true
  pub held : new.held ≡ old.held
  pub fault : new.fault ≡ old.fault
  pub resting : new.resting ≡ old.resting
  pub news : new.news ≡ old.news
