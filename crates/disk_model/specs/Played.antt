-- Calls played again in memory.
use Rattle.std.specs.Prelude.{◌≡◌, ℕ, ◌<◌, length}
use Rattle.disk_model.specs.declared.image.Faces.{Faces}
use Rattle.disk_model.specs.Image.{IsWithin, IsFilled}
use Rattle.disk_model.specs.Replay.{State}

-- the three files that are kept are those of a state
pub record Plays (s : State) (byte : ℕ) (faces : Faces) : Type 0 where
  pub synced : faces.synced.items ≡ s.synced
  pub seen : faces.seen.items ≡ s.seen
  pub filled : IsFilled byte s faces.filled.items
  pub within : (i : ℕ) → IsWithin s.ranges i → i < length s.seen
