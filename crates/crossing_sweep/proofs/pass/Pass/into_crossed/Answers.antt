use Rattle.std.proofs.Common.{◌≡◌, ◌<◌, ◌≤◌, inl, inr, ◌⊎◌, List, [], ◌∷◌, length, refl, subst, arith}
use Rattle.crossing_sweep.specs.StripCrossed.{HasStripFound}
use Rattle.crossing_sweep.specs.PassState.{PassState}
use Rattle.crossing_sweep.specs.declared.progress.Progress.{Progress}
use Rattle.crossing_sweep.proofs.UnderWay.{ends_way}
use Rattle.crossing_sweep.proofs.pass.Pass.into_crossed.Goals as goal

pub returns : goal.returns
returns c cap ended settled =
    let progress : Progress = c.self.inside.progress in
    let Found : PassState → Type 0 = λ s. (s.ahead ≡ 0) ⊎ (cap < s.rows) → s.settled ≤ cap → HasStripFound s.input cap s.listed c.sort.new.rows.items progress.names.items progress.nodes progress.search.tests.items in
    subst Found c.self.view_is
    (λ e few. ends_way c.self.inside.input.now c.self.invariant.amid.way.valid progress.search.listed c.self.invariant.amid.full c.self.invariant.amid.all_coming progress.search.ahead progress.search.tests.items progress.rows.items c.sort.new.rows.items c.self.invariant.names cap
    c.self.invariant.amid.way (no_more progress.search.ahead e) progress.status.items progress.names.items c.self.invariant.kept progress.nodes c.self.invariant.counted few c.in_ok-sort.ensures) ended settled
  where
    no_more : {A : Type 0} {P : Type 0} (l : List A) → (length l ≡ 0) ⊎ P → (l ≡ []) ⊎ P
    no_more [] (inl e) = inl refl
    no_more (x ∷ xs) (inl e) = absurd (omega (arith, e))
    no_more l (inr h) = inr h
