use Rattle.std.proofs.lemmas.Result.{err_from_is_err_and}
use Rattle.block_reading.specs.Reading.{many}
use Rattle.block_reading.specs.Jobs.{job}
use Rattle.block_reading.proofs.Loops.{fails, goes_on, is_done, starts}
use Rattle.block_reading.proofs.jobs_in.many_jobs_at.Goals as goal

pub returns-in_err-next : goal.returns-in_err-next
returns-in_err-next c =
    let p = err_from_is_err_and c.from_residual.result c.from_residual.ensures.1 in
    rw (p.1, p.2)
    (fails (job c.args.kind) c.in_err-next.field-0.0 c.loop-at.jobs.items c.args.many_are c.loop-at.at c.loop-at.rest.now (many (job c.args.kind) 0 c.args.many_are c.args.bytes.now) c.loop-at-test.true c.in_err-next.ensures c.loop-at.invariant)

pub loop-at-preserved : goal.loop-at-preserved
loop-at-preserved c =
    rw c.in_ok-push.ensures.items
    (goes_on (job c.args.kind) c.loop-at.jobs.items c.args.many_are c.loop-at.at c.loop-at.rest.now c.in_ok-next.next c.in_ok-next.after.now (many (job c.args.kind) 0 c.args.many_are c.args.bytes.now) c.loop-at-test.true c.in_ok-next.ensures c.loop-at.invariant)

pub loop-at-init : goal.loop-at-init
loop-at-init c = starts (job c.args.kind) c.new-jobs.result.items c.args.many_are c.args.bytes.now c.new-jobs.ensures.items

pub returns : goal.returns
returns c = is_done (job c.args.kind) c.loop-at.jobs.items c.args.many_are c.loop-at.at c.loop-at.rest.now (many (job c.args.kind) 0 c.args.many_are c.args.bytes.now) c.loop-at-test.false c.loop-at.invariant
