-- The runs of blocks that the records of a root take.
use Rattle.std.specs.Prelude.{◌≡◌, ◌⊎◌, ℕ, ◌+◌, ◌^◌, ◌<◌, ◌≤◌, List, [], ◌∷◌, Result, Ok, Err, if◌then◌else◌}
use Rattle.std.specs.List.{AllByRecursion}
use Rattle.extent_map.specs.declared.extent.Extent as runs
use Rattle.extent_map.specs.Extents.{IsUnused}
use Rattle.store_terms.specs.declared.root.RecordExtent.{RecordExtent}
use Rattle.store_terms.specs.Places.{blocks, all_apart}
use Rattle.store_terms.specs.declared.damage.Damage.{Damage}
use Rattle.store_terms.specs.declared.damage.Damage.TheVariants.{Overlap}
use Rattle.store_terms.specs.Image.{Held}

-- the runs of some extents, one for each, in order
abbrev pub AreRunsOf : List RecordExtent → List runs.Extent → Type 0
AreRunsOf [] [] = Unit {0}
AreRunsOf [] (r ∷ rs) = ⊥
AreRunsOf (e ∷ es) [] = ⊥
AreRunsOf (e ∷ es) (r ∷ rs) = (r.block ≡ e.block) × (r.blocks ≡ blocks e.size) × AreRunsOf es rs

-- what blocks are free of the runs that are taken are free of the extents, and no others
pub record IsMapOf (extents : List RecordExtent) (taken : List runs.Extent) : Type 0 where
  pub there : (start need : ℕ) → IsUnused taken start need
      → AllByRecursion (λ e. (start + need ≤ e.block) ⊎ (e.block + blocks e.size ≤ start)) extents
  pub back : (start need : ℕ)
      → AllByRecursion (λ e. (start + need ≤ e.block) ⊎ (e.block + blocks e.size ≤ start)) extents
      → IsUnused taken start need

-- the end of an extent is a number of 64 bits, as in any file
abbrev pub IsNear : RecordExtent → Type 0
IsNear e = e.block + blocks e.size < 2 ^ 64

abbrev pub AllNear : List RecordExtent → Type 0
AllNear es = AllByRecursion IsNear es

-- a run of the blocks of each extent, in order, whatever those of an extent that no file has
abbrev pub AreRunsFor : List RecordExtent → List runs.Extent → Type 0
AreRunsFor [] [] = Unit {0}
AreRunsFor [] (r ∷ rs) = ⊥
AreRunsFor (e ∷ es) [] = ⊥
AreRunsFor (e ∷ es) (r ∷ rs) = (IsNear e → (r.block ≡ e.block) × (r.blocks ≡ blocks e.size)) × AreRunsFor es rs

-- what is held, if no two extents have a block in common
abbrev pub if_apart : List RecordExtent → Held → Result Held Damage
if_apart es held = if all_apart es then Ok held else Err Overlap
