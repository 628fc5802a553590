-- How a store is followed over the calls of its keeper.
use Rattle.std.proofs.Common.{◌≡◌, ◌∙◌, ℕ, List, arith}
use Rattle.disk_model.specs.declared.disk.Disk.{Ghosts}
use Rattle.disk_model.proofs.Runs.{joined, widened}
use Rattle.overlay_terms.specs.Histories.{Entry, History}
use Rattle.book_history.specs.Logs.{history_of}
use Rattle.flush_core.specs.declared.flusher.Flusher.{Flusher}
use Rattle.kept_store.specs.Among.{IsFileIn}
use Rattle.kept_store.specs.Storing.{IsStoreOf, Flushes, KeepsReported, IsFollowed, HoldsOfStored}
use Rattle.kept_store.proofs.Histories.{begins_self, begins_trans, file_more}

module _ {D : Type 0} (g : Ghosts D) where
  pub by_run : (was now : History) (s t : Flusher D g) → t.commit.name ≡ s.commit.name → Flushes g was s now t → IsFollowed g was s now t
  by_run was now s t same run = record { same = same; goes_on = run.goes_on; store = run.store; no_less = run.no_less; moments = run.moments }

  pub by_call : (was now : History) (s t : Flusher D g) → t.commit.name ≡ s.commit.name → KeepsReported g was s now t → IsFollowed g was s now t
  by_call was now s t same call = record { same = same; goes_on = call.goes_on; store = call.store; no_less = call.no_less; moments = call.moments }

  pub further : (a b c : History) (s t u : Flusher D g) → IsFollowed g a s b t → IsFollowed g b t c u → IsFollowed g a s c u
  further a b c s t u first second = record {
    same = second.same ∙ first.same;
    goes_on = begins_trans a b c first.goes_on second.goes_on;
    store = second.store;
    no_less = omega (arith, first.no_less, second.no_less);
    moments = joined g s.commit.disk t.commit.disk u.commit.disk (IsFileIn c s.commit.root.version) (IsFileIn c t.commit.root.version)
        (λ file is. file_more c c t.commit.root.version s.commit.root.version file (begins_self c) first.no_less is)
        (widened g s.commit.disk t.commit.disk (IsFileIn b s.commit.root.version) (IsFileIn c s.commit.root.version) (λ file is. file_more b c s.commit.root.version s.commit.root.version file second.goes_on (omega arith) is) first.moments)
        second.moments;
  }

  -- what holds of all that a store comes to hold holds of what it comes to hold from a later moment on
  pub handed_on : (stored : List Entry → ℕ → Type 0) (was now : History) (s t : Flusher D g) → (IsStoreOf g was s → IsFollowed g was s now t)
      → HoldsOfStored g stored was s → HoldsOfStored g stored now t
  handed_on stored was now s t so_far all log f on =
      all log f (λ is. let first : IsFollowed g was s now t = so_far is in further was now (history_of log) s t f first (on first.store))
