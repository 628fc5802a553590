use Rattle.std.proofs.lemmas.Result.{err_from_is_err_and}
use Rattle.block_reading.specs.Reading.{many}
use Rattle.block_reading.specs.Jobs.{point}
use Rattle.block_reading.proofs.Loops.{fails, goes_on, is_done, starts}
use Rattle.block_reading.proofs.shapes_in.points_at.Goals as goal

pub returns-in_err-rest : goal.returns-in_err-rest
returns-in_err-rest c =
    let p = err_from_is_err_and c.from_residual.result c.from_residual.ensures.1 in
    rw (p.1, p.2)
    (fails point c.in_err-rest.field-0.0 c.loop-at.points.items c.args.many_are c.loop-at.at c.loop-at.rest.now (many point 0 c.args.many_are c.args.bytes.now) c.loop-at-test.true c.in_err-rest.ensures.err c.loop-at.invariant)

pub loop-at-preserved : goal.loop-at-preserved
loop-at-preserved c =
    let read = c.in_ok-rest.ensures.ok in
    rw read.2
    (goes_on point c.loop-at.points.items c.args.many_are c.loop-at.at c.loop-at.rest.now read.0 c.in_ok-rest.rest.now (many point 0 c.args.many_are c.args.bytes.now) c.loop-at-test.true read.1 c.loop-at.invariant)

pub loop-at-init : goal.loop-at-init
loop-at-init c = starts point c.new-points.result.items c.args.many_are c.args.bytes.now c.new-points.ensures.items

pub returns : goal.returns
returns c = is_done point c.loop-at.points.items c.args.many_are c.loop-at.at c.loop-at.rest.now (many point 0 c.args.many_are c.args.bytes.now) c.loop-at-test.false c.loop-at.invariant
