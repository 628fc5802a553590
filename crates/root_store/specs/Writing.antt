-- What a step of a commit writes.
use Rattle.std.specs.Prelude.{ℕ, List, [], ◌∷◌, length, drop, Option, Some, None, Result, OnOk}
use Rattle.disk_model.specs.declared.disk.Disk.{Ghosts}
use Rattle.disk_model.specs.Disk.{Holds, Torn}
use Rattle.disk_model.specs.Moments.{Leaves, LeavesOnly}
use Rattle.store_terms.specs.declared.root.Root.{Root}
use Rattle.store_terms.specs.StandsFor.{gate_at, open_gate}
use Rattle.commit_plan.specs.declared.write.Write.{Write}
use Rattle.commit_plan.specs.Kept.{other}
use Rattle.root_store.specs.declared.phase.Phase.{Phase}
use Rattle.root_store.specs.declared.phase.Phase.TheVariants.{Idle, Close, Settle, Put, Open, Finish, Failed}
use Rattle.root_store.specs.declared.commit.Commit.{Commit}
use Rattle.root_store.specs.Opening.{Untouched}

-- the writes of the plan that are not made yet
abbrev pub writes_left : {D : Type 0} {g : Ghosts D} → Commit D g → List Write
writes_left s = drop s.next s.plan.items

-- the first of some writes: where its bytes go, and the bytes
abbrev pub first_write : List Write → Option (ℕ × List ℕ)
first_write [] = None
first_write (w ∷ writes) = Some (w.at, w.bytes.items)

-- what the call writes that a phase is named for: a byte that shuts or opens the other slot's gate, or the first write
-- that is left; a sync writes nothing
abbrev pub write_in : Phase → Root → List Write → Option (ℕ × List ℕ)
write_in Idle root writes = None
write_in Close root writes = Some (gate_at (other root), 0 ∷ [])
write_in Settle root writes = None
write_in Put root writes = first_write writes
write_in Open root writes = Some (gate_at (other root), open_gate ∷ [])
write_in Finish root writes = None
write_in Failed root writes = None

-- the writes that are left after that call
abbrev pub left_after : Phase → List Write → List Write
left_after Put writes = drop 1 writes
left_after Finish writes = []
left_after phase writes = writes

-- a file that was one of these before n bytes were written at this offset, whole or in part
abbrev pub IsWrittenOver : ℕ → ℕ → (List ℕ → Type 0) → List ℕ → Type 0
IsWrittenOver at n outcomes file = (was : List ℕ) × outcomes was × Torn at n was file

-- these bytes are put at this offset, and nothing else is written: after Ok they are there; whether Ok or not, the file
-- as it is seen, and each that a crash may leave in the end or at a moment until then, is as before but for their place
pub record Puts {D T E : Type 0} (g : Ghosts D) (at : ℕ) (bytes : List ℕ) (old new : D)
    (result : Result T E) : Type 0 where
  pub put : OnOk result (Holds (g.seen new) at bytes)
  pub others : Torn at (length bytes) (g.seen old) (g.seen new)
  pub crash : Leaves g new (IsWrittenOver at (length bytes) (g.may_leave old))
  pub run : LeavesOnly g old new (IsWrittenOver at (length bytes) (g.may_leave old))

-- just this is written; or nothing
abbrev pub WritesOnly : {D T E : Type 0} → Ghosts D → Option (ℕ × List ℕ) → D → D → Result T E → Type 0
WritesOnly g None old new result = Untouched g old new
WritesOnly g (Some write) old new result = Puts g write.0 write.1 old new result
