use Rattle.std.proofs.Common.{refl}
use Rattle.crossing_sweep.proofs.StripLemmas.{few_layers}
use Rattle.crossing_sweep.proofs.pass_input.PassInput.marked.Goals as goal

pub returns-clause-few : goal.returns-clause-few
returns-clause-few c = few_layers _ c.self.inside.marked.now c.self.invariant.0 refl
