-- What the steps are over masks that are looked up.
use Rattle.std.specs.Prelude.{ℕ, ◌<◌, Bool, false, List, length, get_or, All}
use Rattle.overlay_terms.specs.Trees.{Steps}
use Rattle.crossing_sweep.specs.Rows.{HasValue}
use Rattle.crossing_sweep.specs.declared.values.Values.{Values}

-- what the steps are over the first masks, from 0 on
abbrev pub AreFirst : Steps → List Bool → Type 0
AreFirst steps first = (mask : ℕ) → mask < length first → HasValue steps mask (get_or first mask false)

-- what they are over some masks
abbrev pub AreRemembered : Steps → List (ℕ × Bool) → Type 0
AreRemembered steps masks = All (λ e. HasValue steps e.0 e.1) masks

-- both
pub record AreValues (steps : Steps) (values : Values) : Type 0 where
  pub first : AreFirst steps values.first.items
  pub remembered : AreRemembered steps values.remembered.items
