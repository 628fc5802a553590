-- A new file.
use Rattle.std.specs.Prelude.{◌≡◌, ◌⊎◌, ℕ, ◌+◌, ◌*◌, ◌<◌, ◌≤◌, [], ◌∷◌, ◌==◌, if◌then◌else◌}
use Rattle.std.specs.Prelude.{false, slice_index, List, length, nat_lt, not, Option, Some, None}
use Rattle.disk_model.specs.declared.disk.Disk.{Ghosts}
use Rattle.disk_model.specs.Disk.{part, Holds, Torn}
use Rattle.disk_model.specs.Moments.{Leaves, LeavesOnly}
use Rattle.store_terms.specs.declared.root.Root.{Root}
use Rattle.store_terms.specs.Places.{block_size}
use Rattle.store_terms.specs.Roots.{body_size, body_text}
use Rattle.store_terms.specs.StandsFor.{gate, open_gate, body_at, slots_end}
use Rattle.commit_plan.specs.declared.fault.StoreFault.{StoreFault}
use Rattle.commit_plan.specs.declared.fault.StoreFault.TheVariants.{Device, Full, Damaged, NotEmpty, Failed}
use Rattle.commit_plan.specs.declared.fault.StoreFault.TheVariants.{SequenceLimit, OutOfMemory}
use Rattle.commit_plan.specs.Kept.{Kept, Rest}

-- how many blocks a new store has: its slots, and one for its catalog
abbrev pub new_blocks : ℕ
new_blocks = 3

-- the root of a new store, which holds nothing
abbrev pub first_root : Root
first_root = record { is_old = false; sequence = 0; version = 0; catalog = record { block = 2; size = 2 } }

-- the root in the other slot, whose gate is shut: it names the same catalog, one sequence later
abbrev pub second_root : Root
second_root = record { is_old = false; sequence = 1; version = 0; catalog = record { block = 2; size = 2 } }

abbrev pub nothing_kept : Kept
nothing_kept = record {
  root = first_root;
  listing = [];
  held = record { number = 0; layers = []; tiles = [] };
}

-- a place in three blocks that is not the first gate's, and in no body and not in the catalog
pub record IsZeroPlace (i : ℕ) : Type 0 where
  pub within : i < block_size * new_blocks
  pub gate : 0 < i
  pub first : (i < body_at 0) ⊎ (body_at 0 + body_size ≤ i)
  pub second : (i < body_at 1) ⊎ (body_at 1 + body_size ≤ i)
  pub catalog : (i < slots_end) ⊎ (slots_end + 2 ≤ i)

-- three blocks with both bodies, each whole, and an empty catalog, and zeros elsewhere, whatever the first gate
pub record IsBlank (file : List ℕ) : Type 0 where
  pub size : length file ≡ block_size * new_blocks
  pub first : Holds file (body_at 0) (body_text first_root)
  pub second : Holds file (body_at 1) (body_text second_root)
  pub catalog : part file slots_end 2 ≡ 0 ∷ 0 ∷ []
  pub unused : (i : ℕ) → IsZeroPlace i → slice_index file i ≡ 0

-- what is written first: both gates are shut
pub record IsFirstWrite (file : List ℕ) : Type 0 where
  pub blank : IsBlank file
  pub shut : gate file 0 ≡ 0
  pub other_shut : gate file 1 ≡ 0

-- a new store: its first gate is open, and the other one is shut
pub record IsNewFile (file : List ℕ) : Type 0 where
  pub blank : IsBlank file
  pub opened : gate file 0 ≡ open_gate
  pub other_shut : gate file 1 ≡ 0

-- the first write, torn anywhere: what a crash might have left before, but for the three blocks
abbrev pub Begun : {D : Type 0} → Ghosts D → D → List ℕ → Type 0
Begun g old file = (was : List ℕ) × g.may_leave old was × Torn 0 (block_size * new_blocks) was file

-- a store is made in two phases: until the first sync has succeeded, a crash leaves what the first write has torn; that sync leaves three blocks whose gates are shut; from then on a crash leaves the same three blocks, whatever the first gate
pub record MadeInPhases {D : Type 0} (g : Ghosts D) (old new : D) : Type 0 where
  -- the disk as that sync left it
  pub synced : D
  pub before : LeavesOnly g old synced (Begun g old)
  pub first : Leaves g synced IsFirstWrite
  pub after : LeavesOnly g synced new IsBlank

-- with its first gate open it is a store that holds nothing
abbrev pub BlankIsAtRest : Type 0
BlankIsAtRest = (file : List ℕ) → IsBlank file → gate file 0 ≡ open_gate → Rest nothing_kept file

-- why no store is made of a file: it is not empty, or there is no block for the catalog
abbrev pub refusal_of_new : List ℕ → ℕ → Option StoreFault
refusal_of_new file max_blocks =
    if not (length file == 0) then Some NotEmpty else if nat_lt max_blocks new_blocks then Some Full else None

-- what is known of the calls after a refusal: the length alone was asked for, or the device failed in one of the five
abbrev pub CallsAfter : StoreFault → ℕ → ℕ → Type 0
CallsAfter Device old new = new ≤ old + 5
CallsAfter fault old new = new ≡ old + 1

-- a fault says the reason, unless the device failed; memory is asked for only where there is none
abbrev pub HasReason : StoreFault → Option StoreFault → Type 0
HasReason Device reason = Unit {0}
HasReason OutOfMemory reason = reason ≡ None
HasReason Full reason = reason ≡ Some Full
HasReason NotEmpty reason = reason ≡ Some NotEmpty
HasReason (Damaged damage) reason = ⊥
HasReason Failed reason = ⊥
HasReason SequenceLimit reason = ⊥
