use Rattle.std.proofs.Common.{◌≡◌, ℕ, ◌+◌, Bool, List, [], ◌∷◌, ◌++◌, length, sym, subst, ap, ◌∙◌}
use Rattle.std.proofs.lemmas.List.{length_push}
use Rattle.overlay_terms.specs.Trees.{Steps}
use Rattle.crossing_sweep.specs.Rows.{HasValue}
use Rattle.crossing_sweep.specs.Values.{AreFirst}
use Rattle.crossing_sweep.proofs.ValueLemmas.{one_more}
use Rattle.crossing_sweep.proofs.values.first_values.Goals as goal

pub loop-mask-preserved : goal.loop-mask-preserved
loop-mask-preserved c =
    let steps : Steps = c.args.input.now.steps in
    let old : List Bool = c.loop-mask.values.items in
    let next : Bool = c.value.result in
    let here : HasValue steps c.loop-mask.mask next = subst (λ (s : Steps). HasValue s c.loop-mask.mask next) c.steps-in-loop-mask.ensures.value c.value.ensures.known in
    let last : HasValue steps (length old) next = subst (λ (m : ℕ). HasValue steps m next) (sym c.loop-mask.invariant.count) here in
    let items : c.push.new.self.items ≡ old ++ next ∷ [] = c.in_ok-push.ensures.items in
    record {
      count = ap length items ∙ length_push old next ∙ ap (λ n. n + 1) c.loop-mask.invariant.count;
      known = subst (AreFirst steps) (sym items) (one_more steps old next c.loop-mask.invariant.known last);
    }
