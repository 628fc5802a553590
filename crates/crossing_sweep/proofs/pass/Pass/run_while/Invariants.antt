use Rattle.std.proofs.Common.{◌≡◌, ◌-◌, ◌≤◌}
use Rattle.crossing_sweep.specs.Amid.{IsPassing}
use Rattle.crossing_sweep.specs.Rows.{count_settled}
use Rattle.crossing_sweep.specs.Values.{AreValues}
use Rattle.crossing_sweep.specs.PassState.{nodes_max}
use Rattle.crossing_sweep.proofs.pass.Pass.run_while.Given as goal

abbrev pub invariant-loop-values : goal.invariant-loop-values
invariant-loop-values g l = record {
  passing : IsPassing l.input l.progress;
  known : AreValues l.input.steps l.values;
  listed : l.progress.search.listed ≡ l.fn.self.listed;
  settled : l.fn.self.settled ≤ l.cap → count_settled l.progress.nodes l.progress.rows.items ≤ l.cap;
}

abbrev pub decreases-loop-values : goal.decreases-loop-values
decreases-loop-values g l = nodes_max l.input - l.progress.nodes
