use Rattle.std.proofs.Common.{◌≡◌, ◌≤◌, ℕ, length, take}
use Rattle.std.specs.Prelude.{vec_len, vec_capacity}
use Rattle.overlay_terms.specs.KeptLaws.{IsExact}
use Rattle.root_store.specs.Running.{KeepsTo}
use Rattle.overlay_engine.specs.Runs.{Drives}
use Rattle.overlay_engine.proofs.engine.Engine.drive.Given as goal

-- the first steps are made, and there is room for the answers to all
abbrev pub invariant-loop-step : goal.invariant-loop-step
invariant-loop-step g l = record {
  drives : Drives g.D.Disk (take l.step-index l.steps) l.fn.self l.replies.items l.self;
  exact : IsExact l.fn.self.version → IsExact l.self.version;
  blocks : (limit : ℕ) → KeepsTo limit l.fn.self.flusher.commit → KeepsTo limit l.self.flusher.commit;
  count : vec_len l.replies ≡ l.step-index;
  room : length l.steps ≤ vec_capacity l.replies;
}
