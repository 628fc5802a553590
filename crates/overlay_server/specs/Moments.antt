-- The present moment of a disk.
use Rattle.std.specs.Prelude.{List, ℕ}
use Rattle.disk_model.specs.declared.disk.Disk.{Ghosts}

-- since now there is no other moment
abbrev pub HasOnlyNow : {D : Type 0} → Ghosts D → Type 0
HasOnlyNow {D} g = (disk : D) (c : List ℕ) → g.is_honest disk → g.left_since disk (g.moment disk) c → g.may_leave disk c
