-- Values of steps over masks, listed one by one.
use Rattle.std.proofs.Common.{◌≡◌, ℕ, ◌<◌, ◌≤◌, ◌⊎◌, inl, inr, Bool, false, List, [], ◌∷◌, ◌++◌, length, get_or, sym, subst, arith}
use Rattle.std.proofs.lemmas.Bool.{cases_lt}
use Rattle.std.proofs.lemmas.List.{get_or_append_left, get_or_push, length_push}
use Rattle.overlay_terms.specs.Trees.{Steps}
use Rattle.crossing_sweep.specs.Rows.{HasValue}
use Rattle.crossing_sweep.specs.Values.{AreFirst}

pub one_more : (steps : Steps) (values : List Bool) (next : Bool) → AreFirst steps values → HasValue steps (length values) next → AreFirst steps (values ++ next ∷ [])
one_more steps values next known new mask inside = by (cases_lt mask (length values)) where
  by : (mask < length values) ⊎ (length values ≤ mask) → HasValue steps mask (get_or (values ++ next ∷ []) mask false)
  by (inl l) = subst (HasValue steps mask) (sym (get_or_append_left values (next ∷ []) false mask l)) (known mask l)
  by (inr l) =
      let last : length values ≡ mask = omega (arith, l, inside, length_push values next) in
      subst (HasValue steps mask) (sym (get_or_push values next false mask last)) (subst (λ (m : ℕ). HasValue steps m next) last new)
