-- One file of those that a crash may leave, by a choice.
use Rattle.std.specs.Prelude.{◌≡◌, ◌⊎◌, ℕ, ◌+◌, ◌<◌, ◌≤◌, List, [], ◌∷◌, length, slice_index}
use Rattle.disk_model.specs.declared.image.Choice.{Choice}
use Rattle.disk_model.specs.declared.image.Choice.TheVariants.{Old, New, Fill}
use Rattle.disk_model.specs.Replay.{State, IsOutside}

-- in one of these ranges
abbrev pub IsWithin : List (ℕ × ℕ) → ℕ → Type 0
IsWithin [] i = ⊥
IsWithin (r ∷ ranges) i = ((r.0 ≤ i) × (i < r.0 + r.1)) ⊎ IsWithin ranges i

-- the file as it is seen, with this byte wherever it was written since the last sync
pub record IsFilled (byte : ℕ) (s : State) (c : List ℕ) : Type 0 where
  pub size : length c ≡ length s.seen
  pub written : (i : ℕ) → IsWithin s.ranges i → slice_index c i ≡ byte
  pub others : (i : ℕ) → i < length s.seen → IsOutside s.ranges i → slice_index c i ≡ slice_index s.seen i

-- the file that a choice names
abbrev pub IsChosen : State → Choice → List ℕ → Type 0
IsChosen s Old c = c ≡ s.synced
IsChosen s New c = c ≡ s.seen
IsChosen s (Fill byte) c = IsFilled byte s c
