-- What is free of runs is free of the extents that they are of.
use Rattle.std.proofs.Common.{◌≡◌, ◌⊎◌, inl, inr, ℕ, ◌+◌, ◌≤◌, List, [], ◌∷◌, sym, subst, arith}
use Rattle.std.specs.List.{AllByRecursion}
use Rattle.extent_map.specs.declared.extent.Extent as runs
use Rattle.extent_map.specs.Extents.{IsApart, IsUnused, AreAlike}
use Rattle.store_terms.specs.declared.root.RecordExtent.{RecordExtent}
use Rattle.store_terms.specs.Places.{blocks}
use Rattle.root_reading.specs.RootRuns.{AreRunsOf, IsMapOf}

-- so many blocks from a start on are free of some extents
abbrev pub AreFreeOf : ℕ → ℕ → List RecordExtent → Type 0
AreFreeOf start need es = AllByRecursion (λ e. (start + need ≤ e.block) ⊎ (e.block + blocks e.size ≤ start)) es

apart_there : (start need : ℕ) (e : RecordExtent) (r : runs.Extent) → r.block ≡ e.block → r.blocks ≡ blocks e.size
    → IsApart start need r → (start + need ≤ e.block) ⊎ (e.block + blocks e.size ≤ start)
apart_there start need e r block size (inl before) = inl (omega (arith, before, block))
apart_there start need e r block size (inr behind) =
    inr (subst (λ (n : ℕ). e.block + n ≤ start) size (subst (λ (n : ℕ). n + r.blocks ≤ start) block behind))

apart_back : (start need : ℕ) (e : RecordExtent) (r : runs.Extent) → r.block ≡ e.block → r.blocks ≡ blocks e.size
    → (start + need ≤ e.block) ⊎ (e.block + blocks e.size ≤ start) → IsApart start need r
apart_back start need e r block size (inl before) = inl (omega (arith, before, block))
apart_back start need e r block size (inr behind) =
    inr (subst (λ (n : ℕ). n + r.blocks ≤ start) (sym block) (subst (λ (n : ℕ). e.block + n ≤ start) (sym size) behind))

free_there : (es : List RecordExtent) (rs : List runs.Extent) (start need : ℕ) → AreRunsOf es rs → IsUnused rs start need
    → AreFreeOf start need es
free_there [] [] start need are free = tt
free_there [] (r ∷ rs) start need are free = absurd are
free_there (e ∷ es) [] start need are free = absurd are
free_there (e ∷ es) (r ∷ rs) start need are free =
    (apart_there start need e r are.0 are.1 free.0, free_there es rs start need are.2 free.1)

free_back : (es : List RecordExtent) (rs : List runs.Extent) (start need : ℕ) → AreRunsOf es rs → AreFreeOf start need es
    → IsUnused rs start need
free_back [] [] start need are free = tt
free_back [] (r ∷ rs) start need are free = absurd are
free_back (e ∷ es) [] start need are free = absurd are
free_back (e ∷ es) (r ∷ rs) start need are free =
    (apart_back start need e r are.0 are.1 free.0, free_back es rs start need are.2 free.1)

-- a map in which the runs of some extents are taken is that of the extents
pub map_of_runs : (es : List RecordExtent) (rs taken : List runs.Extent) → AreRunsOf es rs → AreAlike rs taken
    → IsMapOf es taken
map_of_runs es rs taken are alike = record {
  there = λ start need free. free_there es rs start need are (alike.back start need free);
  back = λ start need free. alike.there start need (free_back es rs start need are free);
}
