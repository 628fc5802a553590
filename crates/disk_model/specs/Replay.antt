-- What the calls of a disk make of it, and what a crash may leave then.
use Rattle.std.specs.Prelude.{◌≡◌, ◌⊎◌, ℕ, ◌+◌, ◌-◌, ◌<◌, ◌≤◌, [], ◌∷◌, ◌++◌}
use Rattle.std.specs.Prelude.{List, length, take, drop, replicate, slice_index}
use Rattle.disk_model.specs.declared.mem_disk.Call.{Call}
use Rattle.disk_model.specs.declared.mem_disk.Call.TheVariants.{Length, Read, Write, Sync}

-- what a read gives, what the last sync kept, and the ranges that were written since
pub record State : Type 0 where
  pub seen : List ℕ
  pub synced : List ℕ
  pub ranges : List (ℕ × ℕ)

-- the file with these bytes written over it, and zeros in a gap after its end
unfoldable pub over : List ℕ → ℕ → List ℕ → List ℕ
over file at bytes = take at (file ++ replicate (at - length file) 0) ++ (bytes ++ drop (at + length bytes) file)

-- the state after one call more
abbrev pub after : Call → State → State
after Length s = s
after (Read at n) s = s
after (Write at bytes) s =
    record { seen = over s.seen at bytes.items; synced = s.synced; ranges = (at, length bytes.items) ∷ s.ranges }
after Sync s = record { seen = s.seen; synced = s.seen; ranges = [] }

-- the state after these calls, the first of them first
abbrev pub replay : State → List Call → State
replay s [] = s
replay s (call ∷ calls) = replay (after call s) calls

-- a file whose bytes are all on the disk
abbrev pub start : List ℕ → State
start file = record { seen = file; synced = file; ranges = [] }

-- in none of these ranges
abbrev pub IsOutside : List (ℕ × ℕ) → ℕ → Type 0
IsOutside [] i = Unit {0}
IsOutside (r ∷ ranges) i = ((i < r.0) ⊎ (r.0 + r.1 ≤ i)) × IsOutside ranges i

-- until a sync each written range, and the part past the old end, may hold any bytes, and the length lies between
pub record MayLeave (s : State) (c : List ℕ) : Type 0 where
  pub no_shorter : length s.synced ≤ length c
  pub no_longer : length c ≤ length s.seen
  pub stays : (i : ℕ) → i < length s.synced → IsOutside s.ranges i → slice_index c i ≡ slice_index s.synced i

-- what a crash may leave at some moment since t
abbrev pub LeftSince : List ℕ → List Call → ℕ → List ℕ → Type 0
LeftSince file calls t c = (k : ℕ) × (t ≤ k) × (k ≤ length calls) × MayLeave (replay (start file) (take k calls)) c
