-- Why a commit is not begun, and where its writes lie.
use Rattle.std.specs.Prelude.{◌≡◌, ◌≢◌, ℕ, ◌+◌, ◌*◌, ◌≤◌, length}
use Rattle.std.specs.List.{AllByRecursion}
use Rattle.disk_model.specs.declared.disk.Disk.{Ghosts}
use Rattle.extent_map.specs.Taken.{taken_of}
use Rattle.store_terms.specs.Places.{block_size}
use Rattle.store_terms.specs.StandsFor.{body_at}
use Rattle.commit_plan.specs.ImageHeld.{image_held}
use Rattle.commit_plan.specs.declared.image.Image.{Image}
use Rattle.commit_plan.specs.Next.{IsLaidOut}
use Rattle.commit_plan.specs.Sizes.{sizes_of}
use Rattle.commit_plan.specs.Kept.{other}
use Rattle.commit_plan.specs.Live.{live_content}
use Rattle.commit_plan.specs.declared.write.Write.{Write}
use Rattle.root_store.specs.Running.{KeepsTo}
use Rattle.root_store.specs.declared.commit.Commit.{Commit}
use Rattle.store_terms.specs.declared.root.Root.{Root}
use Rattle.store_terms.specs.Roots.{sequence_max}
use Rattle.commit_plan.specs.declared.fault.StoreFault.{StoreFault}
use Rattle.commit_plan.specs.declared.fault.StoreFault.TheVariants.{Device, Full, Damaged, NotEmpty, Failed}
use Rattle.commit_plan.specs.declared.fault.StoreFault.TheVariants.{SequenceLimit, OutOfMemory}
use Rattle.root_store.specs.declared.phase.Phase.{Phase}
use Rattle.root_store.specs.declared.phase.Phase.TheVariants as phases

-- why no commit begins, whatever it is to write: an earlier call failed; else, there is no number for the commit
abbrev pub IsRefusal : Phase → Root → StoreFault → Type 0
IsRefusal phase root Failed = phase ≡ phases.Failed
IsRefusal phase root SequenceLimit = (phase ≢ phases.Failed) × (sequence_max ≤ root.sequence)
IsRefusal phase root Full = ⊥
IsRefusal phase root OutOfMemory = ⊥
IsRefusal phase root Device = ⊥
IsRefusal phase root (Damaged damage) = ⊥
IsRefusal phase root NotEmpty = ⊥

-- why one is not begun: there is no room for it, as is said of it, or no memory; or no commit begins at all
abbrev pub IsReason : Phase → Root → Type 0 → StoreFault → Type 0
IsReason phase root no_room Full = no_room
IsReason phase root no_room OutOfMemory = Unit {0}
IsReason phase root no_room fault = IsRefusal phase root fault

-- the writes of a commit of an image: the new records, as long as its own tiles and layers make them, the
-- catalog and the body of the other slot; each but the body in the lowest run that is free of what the live root
-- takes and of the runs before it
abbrev pub LaysOut : {D : Type 0} {g : Ghosts D} → Commit D g → Image → Commit D g → Type 0
LaysOut old image new =
    IsLaidOut (live_content old.live) (taken_of old.live.room.map) old.live.room.max_blocks (image_held image)
    (sizes_of (live_content old.live) image) (body_at (other old.root)) new.next_root new.plan.items

-- a write ends at or below a block limit
abbrev pub EndsBelow : ℕ → Write → Type 0
EndsBelow limit w = w.at + length w.bytes.items ≤ block_size * limit

-- so does each write that a commit lays, for the blocks that its file may have
abbrev pub LaidIsBelow : {D : Type 0} → Ghosts D → Type 0
LaidIsBelow {D = D} g =
    (limit : ℕ) (old new : Commit D g) (image : Image) → KeepsTo limit old → LaysOut old image new
    → AllByRecursion (EndsBelow limit) new.plan.items
