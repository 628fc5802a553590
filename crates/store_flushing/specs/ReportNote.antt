-- The numbers that were reported durable, each with the disk's moment as it was reported.
use Rattle.std.specs.Prelude.{◌≡◌, ℕ, ◌≤◌, List, length, drop, map, All}
use mathlib.Core.List.{IsPrefix}
use Rattle.disk_model.specs.declared.disk.Disk.{Ghosts}
use Rattle.overlay_terms.specs.Histories.{History}
use Rattle.book_history.specs.Logs.{history_of}
use Rattle.kept_store.specs.Among.{IsFileIn}
use Rattle.kept_store.specs.Since.{reported_in}
use Rattle.kept_store.specs.Storing.{IsStoreOf}
use Rattle.store_flushing.specs.declared.keeper.Keeper.{Keeper}
use Rattle.store_flushing.specs.declared.keeper.report_log.ReportNote.{ReportNote}
use Rattle.store_flushing.specs.declared.keeper.report_log.ReportLog.{ReportLog}

-- what was written down
abbrev pub notes_in : ReportLog → List ReportNote
notes_in log = log.seen.log

-- the numbers that were reported durable since an earlier history
abbrev pub news_in : History → History → List ℕ
news_in was now = drop (length (reported_in was.entries)) (reported_in now.entries)

-- a number that is reported at this moment
abbrev pub note_then : ℕ → ℕ → ReportNote
note_then moment number = record { number = number; moment = moment }

-- numbers that are reported at this moment
abbrev pub notes_at : ℕ → List ℕ → List ReportNote
notes_at moment numbers = map (note_then moment) numbers

-- each number that a history reports durable has a note, in order; a crash at the note's moment or later leaves no less
pub record StaysReported {D : Type 0} (g : Ghosts D) (history : History) (reported : List ReportNote) (old last : D) : Type 0 where
  pub each : reported_in history.entries ≡ map (λ (t : ReportNote). t.number) reported
  pub stays : All (λ (t : ReportNote). (g.moment old ≤ t.moment) × (t.moment ≤ g.moment last)
      × ((c : List ℕ) → g.left_since last t.moment c → IsFileIn history t.number c)) reported

-- from a history, its notes and its disk to later ones: no note is struck out; if all held since `first`, all do now
pub record NotesGoOn {D : Type 0} (g : Ghosts D) (was : History) (reported : List ReportNote) (old : D) (now : History) (more : List ReportNote) (new : D) : Type 0 where
  pub goes_on : IsPrefix reported more
  pub later : g.moment old ≤ g.moment new
  pub stays : (first : D) → g.moment first ≤ g.moment old → StaysReported g was reported first old → StaysReported g now more first new

-- the same from a keeper to what its calls make of it, where its store is one of the history that its reporter has seen
abbrev pub KeepsNotes : {D : Type 0} (g : Ghosts D) → Keeper D g → Keeper D g → Type 0
KeepsNotes g old new = IsStoreOf g (history_of old.reporter.log) old.held.flusher
    → NotesGoOn g (history_of old.reporter.log) (notes_in old.notes) old.held.flusher.commit.disk
    (history_of new.reporter.log) (notes_in new.notes) new.held.flusher.commit.disk
