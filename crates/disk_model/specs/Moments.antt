-- What a crash may leave over a run of calls.
use Rattle.std.specs.Prelude.{◌⊎◌, ℕ, ◌≤◌, List}
use Rattle.disk_model.specs.declared.disk.Disk.{Ghosts}

-- a crash now leaves a file that has P
abbrev pub Leaves : {D : Type 0} → Ghosts D → D → (List ℕ → Type 0) → Type 0
Leaves g disk P = (c : List ℕ) → g.may_leave disk c → P c

-- a crash at any moment since old leaves a file that has P
pub record LeavesOnly {D : Type 0} (g : Ghosts D) (old new : D) (P : List ℕ → Type 0) : Type 0 where
  pub later : g.moment old ≤ g.moment new
  pub each : (c : List ℕ) → g.left_since new (g.moment old) c → P c
  -- since an earlier moment only files that have P are added: so two such stretches make one
  pub before : (t : ℕ) (c : List ℕ) → t ≤ g.moment old → g.left_since new t c → g.left_since old t c ⊎ P c
