-- What opening knows of a file that it has read, and what the completing write makes of it.
use Rattle.std.specs.Prelude.{◌≡◌, ◌≢◌, ◌⊎◌, ℕ, ◌+◌, ◌*◌, ◌^◌, ◌<◌, ◌≤◌, List, length, Result, Ok, OnOk, OnErr}
use Rattle.overlay_terms.specs.Commands.{version_max}
use Rattle.disk_model.specs.declared.disk.Disk.{Ghosts}
use Rattle.disk_model.specs.Disk.{Holds, Torn}
use Rattle.disk_model.specs.Moments.{Leaves, LeavesOnly}
use Rattle.store_terms.specs.Places.{block_size}
use Rattle.store_terms.specs.declared.root.Root.{Root}
use Rattle.store_terms.specs.Roots.{body_size, body_text, ours, sequence_max}
use Rattle.store_terms.specs.Image.{listing_of, held_of}
use Rattle.store_terms.specs.StandsFor.{gate, open_gate, body, body_at}
use Rattle.root_reading.specs.declared.load_fault.LoadFault.{LoadFault}
use Rattle.commit_plan.specs.Kept.{Kept, own, other, Harmless, Live, Shut, Rest}

-- what opening has read of the root that it takes
pub record IsTakenRoot (file : List ℕ) (r : Root) : Type 0 where
  pub long : block_size * 2 ≤ length file
  pub opened : gate file (own r) ≡ open_gate
  pub spelt : body file (own r) ≡ ours r
  pub bounded : r.sequence ≤ sequence_max
  pub numbered : r.version ≤ version_max

-- the root of a file: it is taken, and behind a gate of the other slot that is open there is one that does no harm
pub record Found (file : List ℕ) (r : Root) : Type 0 where
  pub taken : IsTakenRoot file r
  pub beside : (gate file (other r) ≢ open_gate) ⊎ Harmless (other r) r file

-- a root that is taken, with what it lists and holds, is live
abbrev pub TakenIsLive : Type 0
TakenIsLive = (file : List ℕ) (x : Kept) → IsTakenRoot file x.root → listing_of file x.root ≡ Ok x.listing
    → held_of file x.root ≡ Ok x.held → Live x file

-- the twin of a root: the next sequence, and the same version, catalog and format
abbrev pub twin : Root → Root
twin r = record { is_old = r.is_old; sequence = r.sequence + 1; version = r.version; catalog = r.catalog }

-- the slot that a root is not in has the body of its twin
abbrev pub HoldsTwin : Root → List ℕ → Type 0
HoldsTwin r file = Holds file (body_at (other r)) (body_text (twin r))

-- the twin's body behind the shut gate, put whole, leaves the store at rest
abbrev pub TwinHeals : Type 0
TwinHeals =
    (x : Kept) (old new : List ℕ) → x.root.sequence < sequence_max → x.root.catalog.block < 2 ^ 64
    → x.root.catalog.size < 2 ^ 32 → Shut x old
    → Torn (body_at (other x.root)) body_size old new → HoldsTwin x.root new → Rest x new

-- the completing write and its sync: a crash at any moment leaves what holds x behind its one open gate, and in
-- the end whatever the other gate holds, behind which is the body of the twin of x's root
pub record Heals {D : Type 0} (g : Ghosts D) (old new : D) (result : Result (Unit {0}) LoadFault)
    (x : Kept) : Type 0 where
  pub honest : g.is_honest new
  pub run : LeavesOnly g old new (Shut x)
  pub ok : OnOk result (Leaves g new (Rest x))
  pub twin : OnOk result (Leaves g new (HoldsTwin x.root))
  pub err : OnErr result (Leaves g new (Shut x))
