use Rattle.std.proofs.lemmas.Result.{err_from_is_err_and}
use Rattle.block_reading.specs.Reading.{many}
use Rattle.block_reading.specs.Jobs.{fraction}
use Rattle.block_reading.proofs.Loops.{fails, goes_on, is_done, starts}
use Rattle.block_reading.proofs.jobs_in.fractions_at.Goals as goal

pub returns-in_err-rest : goal.returns-in_err-rest
returns-in_err-rest c =
    let p = err_from_is_err_and c.from_residual.result c.from_residual.ensures.1 in
    rw (p.1, p.2)
    (fails (λ _. fraction c.args.at) c.in_err-rest.field-0.0 c.loop.points.items c.args.many_are c.loop.counter c.loop.rest.now (many (λ _. fraction c.args.at) 0 c.args.many_are c.args.bytes.now) c.loop-test.true c.in_err-rest.ensures.err c.loop.invariant)

pub loop-preserved : goal.loop-preserved
loop-preserved c =
    let read = c.in_ok-rest.ensures.ok in
    rw read.2
    (goes_on (λ _. fraction c.args.at) c.loop.points.items c.args.many_are c.loop.counter c.loop.rest.now read.0 c.in_ok-rest.rest.now (many (λ _. fraction c.args.at) 0 c.args.many_are c.args.bytes.now) c.loop-test.true read.1 c.loop.invariant)

pub loop-init : goal.loop-init
loop-init c = starts (λ _. fraction c.args.at) c.new-points.result.items c.args.many_are c.args.bytes.now c.new-points.ensures.items

pub returns : goal.returns
returns c = is_done (λ _. fraction c.args.at) c.loop.points.items c.args.many_are c.loop.counter c.loop.rest.now (many (λ _. fraction c.args.at) 0 c.args.many_are c.args.bytes.now) c.loop-test.false c.loop.invariant
