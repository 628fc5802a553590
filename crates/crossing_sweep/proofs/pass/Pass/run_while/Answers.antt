use Rattle.std.proofs.Common.{◌≡◌, ◌+◌, ◌≤◌, length, ◌∙◌, rules, arith}
use Rattle.crossing_sweep.specs.Rows.{count_settled}
use Rattle.crossing_sweep.specs.declared.progress.Progress.{Progress}
use Rattle.crossing_sweep.proofs.pass.Pass.run_while.Goals as goal

pub loop-values-preserved : goal.loop-values-preserved
loop-values-preserved g c =
    let before : Progress = c.loop-values.progress in
    let after : Progress = c.go_on.new.progress in
    let way : (¬ (length before.search.ahead ≡ 0)) × (length before.rows.items ≤ c.args.cap) = search rules in
    let settled : count_settled after.nodes after.rows.items ≡ length before.rows.items = c.in_ok-go_on.ensures.settled way.0 in
    record {
      passing = c.in_ok-go_on.ensures.passing;
      known = c.go_on.ensures.known;
      listed = c.in_ok-go_on.ensures.listed ∙ c.loop-values.invariant.listed;
      settled = λ _. omega (arith, settled, way.1);
    }

pub loop-values-smaller : goal.loop-values-smaller
loop-values-smaller g c =
    let before : Progress = c.loop-values.progress in
    let after : Progress = c.go_on.new.progress in
    let way : (¬ (length before.search.ahead ≡ 0)) × (length before.rows.items ≤ c.args.cap) = search rules in
    let more : after.nodes ≡ before.nodes + 1 = c.in_ok-go_on.ensures.more way.0 in
    omega (arith, more, c.in_ok-go_on.ensures.few)

pub go_on-requires-clause-known : goal.go_on-requires-clause-known
go_on-requires-clause-known g c = c.loop-values.invariant.known
