-- What a disk is that gives up once a write or a sync has failed.
use Rattle.std.specs.Prelude.{◌≡◌, ◌⊎◌, ℕ, ◌+◌, Result, IsErr}
use Rattle.disk_model.specs.declared.disk.Disk.{Ghosts}
use Rattle.disk_model.specs.Disk.{Fewer, Elapses, CountsFailure, CountsCall}
use Rattle.file_disk.specs.declared.guarded_disk.Access.TheVariants as access
use Rattle.file_disk.specs.declared.guarded_disk.GuardedDisk.{GuardedDisk}

-- the disk below
abbrev pub below_of : {D : Type 0} → GuardedDisk D → D
below_of d = d.disk

-- how many calls it has refused, up to the top of a u64
abbrev pub refused_of : {D : Type 0} → GuardedDisk D → ℕ
refused_of d = d.refused

-- a write or a sync has failed
abbrev pub HasFailed : {D : Type 0} → GuardedDisk D → Type 0
HasFailed d = d.access ≡ access.Failed

-- it is read alone
abbrev pub IsReadAlone : {D : Type 0} → GuardedDisk D → Type 0
IsReadAlone d = d.access ≡ access.Reading

-- once a write or a sync has failed, a call fails, the disk below stays as it was, and that remains so
pub record GivesUp {D T E : Type 0} (result : Result T E) (old new : GuardedDisk D) : Type 0 where
  pub failed : HasFailed old → IsErr result
  pub untouched : HasFailed old → below_of new ≡ below_of old
  pub remains : HasFailed old → HasFailed new

-- a disk that is read alone refuses a write, which leaves the disk below as it was; and it is read alone after it
pub record RefusesWrite {D T E : Type 0} (result : Result T E) (old new : GuardedDisk D) : Type 0 where
  pub refused : IsReadAlone old → IsErr result
  pub untouched : IsReadAlone old → below_of new ≡ below_of old
  pub remains : IsReadAlone old → IsReadAlone new

-- a disk that is read alone is so after a call, unless it has failed
abbrev pub StaysReadAlone : {D : Type 0} → GuardedDisk D → GuardedDisk D → Type 0
StaysReadAlone old new = IsReadAlone old → IsReadAlone new ⊎ HasFailed new

-- a call of an honest disk: time goes on, and the call is counted, as a failure too where it is one
pub record IsCallCounted {D T E : Type 0} (g : Ghosts D) (result : Result T E)
    (old new : GuardedDisk D) : Type 0 where
  pub time : Elapses (g.moment (below_of old)) (g.moment (below_of new)) (g.left_since (below_of old))
      (g.left_since (below_of new)) (g.may_leave (below_of new))
  pub cause : CountsFailure result (g.faults (below_of old) + refused_of old) (g.faults (below_of new) + refused_of new)
  pub calls : CountsCall result (g.calls (below_of old) + refused_of old) (g.calls (below_of new) + refused_of new)

-- a read gives the same bytes, and a crash leaves nothing that it might not have left before
pub record StaysAsItWas {D : Type 0} (g : Ghosts D) (old new : D) : Type 0 where
  pub seen : g.seen new ≡ g.seen old
  pub crash : Fewer (g.may_leave old) (g.may_leave new)
