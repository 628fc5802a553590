-- Plans of one length more.
use Rattle.std.proofs.Common.{◌≡◌, ℕ, List, [], ◌∷◌, ◌++◌, refl}
use Rattle.extent_map.specs.declared.extent.Extent.{Extent}
use Rattle.extent_map.specs.Extents.{AreAlike}
use Rattle.extent_map.specs.Blocks.{blocks}
use Rattle.extent_map.specs.FirstFit.{IsFirstFit, NoFit, IsPlanned, taken_with}

pub fit_alike : (given taken : List Extent) (limit need start : ℕ) → AreAlike given taken → IsFirstFit taken limit need start → IsFirstFit given limit need start
fit_alike given taken limit need start alike fit = record {
  behind = fit.behind;
  below = fit.below;
  free = alike.back start need fit.free;
  lowest = λ s two below free. fit.lowest s two below (alike.there s need free);
}

pub none_alike : (given taken : List Extent) (limit need : ℕ) → AreAlike given taken → NoFit taken limit need → NoFit given limit need
none_alike given taken limit need alike none s two below free = none s two below (alike.there s need free)

-- one length more finds its run
pub planned_more : (taken : List Extent) (limit : ℕ) (lengths : List ℕ) (runs : List Extent) (n : ℕ) (run : Extent) → IsPlanned taken limit lengths runs
    → run.blocks ≡ blocks n → IsFirstFit (taken_with taken runs) limit (blocks n) run.block → IsPlanned taken limit (lengths ++ n ∷ []) (runs ++ run ∷ [])
planned_more taken limit [] [] n run planned size fit = (size, fit, tt)
planned_more taken limit [] (r ∷ runs) n run planned size fit = absurd planned
planned_more taken limit (m ∷ lengths) [] n run planned size fit = absurd planned
planned_more taken limit (m ∷ lengths) (r ∷ runs) n run planned size fit = (planned.0, planned.1, planned_more (r ∷ taken) limit lengths runs n run planned.2 size fit)

-- the runs so far and one more
pub taken_more : (taken runs : List Extent) (run : Extent) → taken_with taken (runs ++ run ∷ []) ≡ run ∷ taken_with taken runs
taken_more taken [] run = refl
taken_more taken (r ∷ runs) run = taken_more (r ∷ taken) runs run
