-- The lowest run that fits, for one length and for several.
use Rattle.std.specs.Prelude.{◌≡◌, ℕ, ◌+◌, ◌<◌, ◌≤◌, List, [], ◌∷◌, ◌++◌}
use Rattle.extent_map.specs.declared.extent.Extent.{Extent}
use Rattle.extent_map.specs.Blocks.{blocks}
use Rattle.extent_map.specs.Extents.{IsUnused}

-- the lowest start, from block 2 on, of so many free blocks below the limit
pub record IsFirstFit (taken : List Extent) (limit need start : ℕ) : Type 0 where
  pub behind : 2 ≤ start
  pub below : start + need ≤ limit
  pub free : IsUnused taken start need
  pub lowest : (s : ℕ) → 2 ≤ s → s < start → IsUnused taken s need → ⊥

-- so many free blocks lie nowhere from block 2 on and below the limit
abbrev pub NoFit : List Extent → ℕ → ℕ → Type 0
NoFit taken limit need = (s : ℕ) → 2 ≤ s → s + need ≤ limit → IsUnused taken s need → ⊥

-- each length in order has the lowest run that is free of what is taken and of the runs before it
abbrev pub IsPlanned : List Extent → ℕ → List ℕ → List Extent → Type 0
IsPlanned taken limit [] [] = Unit {0}
IsPlanned taken limit [] (run ∷ runs) = ⊥
IsPlanned taken limit (n ∷ lengths) [] = ⊥
IsPlanned taken limit (n ∷ lengths) (run ∷ runs) =
    (run.blocks ≡ blocks n) × IsFirstFit taken limit (blocks n) run.block × IsPlanned (run ∷ taken) limit lengths runs

-- what is taken once these runs are taken too, in order
abbrev pub taken_with : List Extent → List Extent → List Extent
taken_with taken [] = taken
taken_with taken (run ∷ runs) = taken_with (run ∷ taken) runs

-- some length finds no run, where each before it has found its own
pub record IsFull (taken : List Extent) (limit : ℕ) (lengths : List ℕ) : Type 0 where
  pub before : List ℕ
  pub wanted : ℕ
  pub behind : List ℕ
  pub runs : List Extent
  pub are : lengths ≡ before ++ wanted ∷ behind
  pub planned : IsPlanned taken limit before runs
  pub none : NoFit (taken_with taken runs) limit (blocks wanted)

-- where each length has found its run, none has found none
abbrev pub PlannedIsNotFull : Type 0
PlannedIsNotFull =
    (taken : List Extent) (limit : ℕ) (lengths : List ℕ) (runs : List Extent) → IsPlanned taken limit lengths runs
    → IsFull taken limit lengths → ⊥
