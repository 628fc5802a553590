-- Extents that are taken, and what is free of them.
use Rattle.std.specs.Prelude.{◌⊎◌, ℕ, ◌+◌, ◌≤◌, List, [], ◌∷◌, length, take, drop, ⊤}
use Rattle.std.specs.Coded.{×_prop, Unit-prop, le_prop}
use Rattle.std.specs.List.{AllByRecursion, AllByRecursion-prop}
use Rattle.extent_map.specs.declared.extent.Extent.{Extent}

-- so many blocks from a start on have none in common with an extent: one ends before the other begins
abbrev pub IsApart : ℕ → ℕ → Extent → Type 0
IsApart start need e = (start + need ≤ e.block) ⊎ (e.block + e.blocks ≤ start)

-- they have none in common with any that is taken
abbrev pub IsUnused : List Extent → ℕ → ℕ → Type 0
IsUnused taken start need = AllByRecursion (IsApart start need) taken

-- no two extents have a block in common
abbrev pub AreApart : List Extent → Type 0
AreApart [] = Unit {0}
AreApart (e ∷ es) = IsUnused es e.block e.blocks × AreApart es

-- what is free of the one is free of the other
pub record AreAlike (given taken : List Extent) : Type 0 where
  pub there : (start need : ℕ) → IsUnused given start need → IsUnused taken start need
  pub back : (start need : ℕ) → IsUnused taken start need → IsUnused given start need

-- each extent ends before those after it begin
abbrev pub Ascend : List Extent → Type 0
Ascend [] = ⊤
Ascend (e ∷ es) = AllByRecursion (λ f. e.block + e.blocks ≤ f.block) es × Ascend es

pub Ascend-prop : (es : List Extent) → IsProp (Ascend es)
Ascend-prop [] = Unit-prop
Ascend-prop (e ∷ es) = ×_prop (AllByRecursion-prop _ (λ f. le_prop) es) (Ascend-prop es)

-- so many blocks from a start on lie between the extents before a place and those from it on
pub record IsGap (taken : List Extent) (place start need : ℕ) : Type 0 where
  pub within : place ≤ length taken
  pub before : AllByRecursion (λ e. e.block + e.blocks ≤ start) (take place taken)
  pub behind : AllByRecursion (λ e. start + need ≤ e.block) (drop place taken)
