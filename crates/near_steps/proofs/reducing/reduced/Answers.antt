use Rattle.std.proofs.Common.{◌≡◌, sym, subst}
use Rattle.std.proofs.lemmas.Result.{IfOk-weaker}
use Rattle.near_steps.specs.Cores.{box_of}
use Rattle.near_steps.specs.Thinned.{thinned, IsReduced}
use Rattle.near_steps.proofs.LineLemmas.{reduced}
use Rattle.near_steps.proofs.reducing.reduced.Goals as goal

pub returns : goal.returns
returns c = record {
  reduced =
      IfOk-weaker c.thinned.result (λ kept. kept.items ≡ thinned (box_of c.args.core.now) c.args.points.now) (λ kept. IsReduced (box_of c.args.core.now) c.args.points.now kept.items)
      (λ kept e. subst (IsReduced (box_of c.args.core.now) c.args.points.now) (sym e) (reduced (box_of c.args.core.now) c.args.points.now)) c.thinned.ensures;
}
