use Rattle.std.proofs.Common.{◌-◌, map, arith}
use Rattle.arrange.specs.Lines.{line_marked}
use Rattle.arrange.proofs.RunLemmas.{ends_along, few_ends, pass_with, pass_without, pass_ends}
use Rattle.arrange.proofs.finding_units.units_on_line.Goals as goal
use Rattle.arrange.proofs.finding_units.units_on_line.Goals.{in-Some+in_ok-push, in_default}

pub add-requires-clause-few : goal.add-requires-clause-few
add-requires-clause-few c = few_ends c.args.run.now c.in_ok-ends.ends.items c.in_ok-ends.ensures.moved (c.loop-i.i - 1) c.index.result.now (omega arith) c.index.ensures

pub loop-i-preserved : goal.loop-i-preserved
loop-i-preserved c =
    let ends = c.in_ok-ends.ends.items in
    let marked = map line_marked c.args.run.now in
    let along = ends_along c.args.run.now ends c.requires c.in_ok-ends.ensures.moved c.in_ok-ends.ensures.in_order in
    elim c.match-unit_between.branch [
      | in-Some+in_ok-push w ↦
          rw (w.list-is, w.in_ok-push.ensures.items)
          (pass_with marked ends along c.loop-i.i c.index.result.now c.index-in-loop-i.result.now c.index-in-loop-i-2.result.now (omega arith) (omega arith) c.index.ensures c.index-in-loop-i.ensures c.index-in-loop-i-2.ensures
          c.loop-i.passed c.add.new.self c.loop-i.list.items c.loop-i.invariant c.add.ensures w.in-Some.unit (w.in-Some.ensures))
      | in_default w ↦
          rw w.list-is
          (pass_without marked ends along c.loop-i.i c.index.result.now c.index-in-loop-i.result.now c.index-in-loop-i-2.result.now (omega arith) (omega arith) c.index.ensures c.index-in-loop-i.ensures c.index-in-loop-i-2.ensures
          c.loop-i.passed c.add.new.self c.loop-i.list.items c.loop-i.invariant c.add.ensures (w.in_default.ensures))
    ]

pub returns : goal.returns
returns c =
    let along = ends_along c.args.run.now c.in_ok-ends.ends.items c.requires c.in_ok-ends.ensures.moved c.in_ok-ends.ensures.in_order in
    pass_ends (map line_marked c.args.run.now) c.in_ok-ends.ends.items along c.loop-i.i c.loop-i.passed c.loop-i.list.items (omega arith) c.loop-i.invariant
