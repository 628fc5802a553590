-- What a store's thread leaves.
use Rattle.std.specs.Prelude.{◌≡◌, ℕ, false, List}
use Rattle.logbook.specs.Pages.{Book}
use Rattle.disk_model.specs.declared.disk.Disk.{Ghosts}
use Rattle.overlay_terms.specs.Histories.{Entry}
use Rattle.root_store.specs.Running.{is_busy}
use Rattle.book_history.specs.Logs.{history_of}
use Rattle.book_history.specs.declared.fault.ReportedFault.{ReportedFault}
use Rattle.kept_store.specs.Failing.{HoldsOfFailed}
use Rattle.kept_store.specs.Storing.{IsStoreOf, Flushes, HoldsOfStored}
use Rattle.store_flushing.specs.Stores.{reporter_of}
use Rattle.store_flushing.specs.ReportNote.{KeepsNotes}
use Rattle.store_flushing.specs.declared.keeper.Keeper.{Keeper}
use Rattle.store_flushing.specs.declared.keeper.store.Store.{Store}
use Rattle.store_flushing.specs.declared.keeper.store.Store.TheVariants.{Kept, Alone}

module _ {D : Type 0} (g : Ghosts D) where
  -- the store is the same one, is one of what the reporter has seen, was at each moment, and rests; reports
  -- were written down, and stay true
  pub record IsFlushed (old new : Keeper D g) : Type 0 where
    pub same : new.held.flusher.commit.name ≡ old.held.flusher.commit.name
    pub flushes : IsStoreOf g (history_of old.reporter.log) old.held.flusher → Flushes g (history_of old.reporter.log) old.held.flusher (history_of new.reporter.log) new.held.flusher
    pub rests : is_busy new.held.flusher.commit.phase ≡ false
    pub notes_stay : KeepsNotes g old new

  -- the same where there is a store; and where there is none, the reporter has seen no more
  abbrev pub AreFlushed : Store D g → Store D g → Type 0
  AreFlushed (Kept old) (Kept new) = IsFlushed old new
  AreFlushed (Alone old) (Alone new) = new ≡ old
  AreFlushed (Kept old) (Alone new) = ⊥
  AreFlushed (Alone old) (Kept new) = ⊥

  -- where there is a store, it is the book's own, a predicate holds of each number that it comes to hold, and one of each
  -- fault for which it fails
  abbrev pub HoldsOfStore : Book → (List Entry → ℕ → Type 0) → (List Entry → ReportedFault → Type 0) → Store D g → Type 0
  HoldsOfStore own stored failed (Kept keeper) =
      HoldsOfStored g stored (history_of keeper.reporter.log) keeper.held.flusher
      × HoldsOfFailed g failed (history_of keeper.reporter.log) keeper.held.flusher
      × (keeper.held.flusher.commit.name ≡ own)
  HoldsOfStore own stored failed (Alone reporter) = Unit {0}

-- the store's thread has returned: its reporter is of this book, and it committed versions of the book alone
pub record IsStoreKept {D : Type 0} (book : Book) (g : Ghosts D) (old new : Store D g) : Type 0 where
  pub of : (reporter_of new).book ≡ book
  pub flushed : AreFlushed g old new
