use Rattle.std.proofs.Common.{◌≡◌, ap, ◌∙◌, rules}
use Rattle.std.proofs.lemmas.Option.{IfSome_then}
use Rattle.std.proofs.lemmas.Result.{IfOk-weaker}
use Rattle.crossing_sweep.specs.StripInput.{part, StripInput}
use Rattle.tile_workers.proofs.worker.build_next.Goals as goal

pub returns : goal.returns
returns g c =
    let same : c.in-Some.column ≡ c.args.strip.now.next = search rules in
    let is : part c.input-input.result.now c.in-Some.column ≡ part c.args.strip.now.input c.args.strip.now.next =
    ap (λ (x : StripInput). part x c.in-Some.column) c.input-input.ensures.value ∙ ap (part c.args.strip.now.input) same in
    IfOk-weaker c.build_while.result _ _ (λ o made. IfSome_then o made (λ built e. e ∙ is)) c.build_while.ensures.input
