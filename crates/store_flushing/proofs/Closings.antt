-- What is left of a store for the log that a book ends with.
use Rattle.std.proofs.Common.{◌≡◌, ℕ, ◌≤◌, List, Option, Some, None, IfSome, All, sym, subst, arith}
use Rattle.disk_model.specs.declared.disk.Disk.{Ghosts}
use Rattle.disk_model.specs.Moments.{Leaves}
use Rattle.overlay_terms.specs.Histories.{Entry, History, IsHistory, BeginsWith, newest}
use Rattle.root_store.specs.declared.phase.Phase.{Phase}
use Rattle.root_store.specs.declared.phase.Phase.TheVariants.{Idle}
use Rattle.commit_plan.proofs.Reading.{calm_stands}
use Rattle.flush_core.specs.declared.flusher.Flusher.{Flusher}
use Rattle.book_history.specs.Logs.{newest_in}
use Rattle.book_lock.specs.Heard.{Heard, HasHeard}
use Rattle.kept_store.specs.declared.opened.ShutStore.{ShutStore}
use Rattle.kept_store.specs.Among.{IsFileIn, IsFileExactlyIn}
use Rattle.kept_store.specs.Storing.{IsStoreAt, IsStoreOf}
use Rattle.store_flushing.specs.ReportNote.{NotesGoOn}
use Rattle.store_flushing.specs.declared.keeper.report_log.ReportNote.{ReportNote}
use Rattle.kept_store.proofs.Histories.{among_more, file_more}
use Rattle.store_flushing.proofs.ReportedLemmas.{reported_at_end}

-- the number that is stored, and the disk, of a store if there is one
abbrev pub IsLeftOf : {D : Type 0} {g : Ghosts D} → Option (ShutStore D g) → ℕ → Option D → Type 0
IsLeftOf o stored disk = IfSome o (λ s. (stored ≡ s.flusher.commit.root.version) × (disk ≡ Some s.flusher.commit.disk))

-- all that is reported is stored
pub reported_left : {D : Type 0} {g : Ghosts D} (o : Option (ShutStore D g)) (stored : ℕ) (disk : Option D) → IsLeftOf o stored disk → (reporter : Heard) (log : List Entry) → HasHeard log reporter
    → All (λ (entry : Entry). entry.version.durable ≤ (newest_in log).durable) log
    → IfSome o (λ s. (newest_in reporter.log).durable ≤ s.flusher.commit.root.version → All (λ (entry : Entry). entry.version.durable ≤ stored) log)
reported_left None stored disk is reporter log heard all = tt
reported_left (Some s) stored disk is reporter log heard all = λ less k d at. omega (arith, all k d at, heard.durable, less, is.0)

module _ {D : Type 0} (g : Ghosts D) (was now : History) (on : BeginsWith now was) where
  -- a store at rest: each file stands for the version that is stored
  pub exactly_on : (f : Flusher D g) → IsStoreOf g was f → f.commit.phase ≡ Idle → Leaves g f.commit.disk (IsFileExactlyIn now f.commit.root.version)
  exactly_on f store idle c left =
      let rest = subst (λ (p : Phase). IsStoreAt g was p f) idle store.store in
      record {
        held = rest.x.held;
        among = among_more was now rest.x.held on rest.held;
        exactly = rest.number;
        stands = calm_stands rest.x c (rest.stands.leaves c left);
      }

  -- what is said of files for the number of the store holds for the number and the disk that are left
  left : (P : ℕ → List ℕ → Type 0) (f : Flusher D g) (stored : ℕ) (disk : Option D) → stored ≡ f.commit.root.version → disk ≡ Some f.commit.disk → Leaves g f.commit.disk (P f.commit.root.version)
      → IfSome disk (λ d. Leaves g d (P stored))
  left P f stored disk number is all =
      subst (λ (q : Option D). IfSome q (λ d. Leaves g d (P stored))) (sym is) (subst (λ (n : ℕ). Leaves g f.commit.disk (P n)) (sym number) all)

  pub files_left : (o : Option (ShutStore D g)) (stored : ℕ) (disk : Option D) → IsLeftOf o stored disk
      → IfSome o (λ s. Leaves g s.flusher.commit.disk (IsFileIn was s.flusher.commit.root.version) → IfSome disk (λ d. Leaves g d (IsFileIn now stored)))
  files_left None stored disk is = tt
  files_left (Some s) stored disk is = λ all. left (IsFileIn now) s.flusher stored disk is.0 is.1 (λ c at. file_more was now s.flusher.commit.root.version s.flusher.commit.root.version c on (omega arith) (all c at))

  pub exactly_left : (o : Option (ShutStore D g)) (stored : ℕ) (disk : Option D) → IsLeftOf o stored disk
      → IfSome o (λ s. IsStoreOf g was s.flusher → s.flusher.commit.phase ≡ Idle → IfSome disk (λ d. Leaves g d (IsFileExactlyIn now stored)))
  exactly_left None stored disk is = tt
  exactly_left (Some s) stored disk is = λ store idle. left (IsFileExactlyIn now) s.flusher stored disk is.0 is.1 (exactly_on s.flusher store idle)

  -- what was written down is all that the log reports
  pub notes_left : IsHistory now → (newest now).durable ≡ (newest was).durable → (reported : List ReportNote) → (o : Option (ShutStore D g)) (stored : ℕ) (disk : Option D) → IsLeftOf o stored disk
      → IfSome o (λ s. IfSome disk (λ d. NotesGoOn g was reported s.flusher.commit.disk now reported d))
  notes_left history same reported None stored disk is = tt
  notes_left history same reported (Some s) stored disk is =
      subst (λ (q : Option D). IfSome q (λ d. NotesGoOn g was reported s.flusher.commit.disk now reported d)) (sym is.1) (reported_at_end g was now reported s.flusher.commit.disk on history same)
