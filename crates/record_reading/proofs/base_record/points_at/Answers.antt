use Rattle.std.proofs.lemmas.Result.{err_from_is_err_and}
use Rattle.store_terms.specs.Fields.{read_many}
use Rattle.store_terms.specs.BaseRecord.{whole_point}
use Rattle.store_terms.proofs.Loops.{goes_on, is_done}
use Rattle.record_reading.proofs.Failing.{fails, starts}
use Rattle.record_reading.proofs.base_record.points_at.Goals as goal

pub returns-in_err-rest : goal.returns-in_err-rest
returns-in_err-rest c =
    let p = err_from_is_err_and c.from_residual.result c.from_residual.ensures.1 in
    rw (p.1, p.2)
    (fails whole_point.read c.in_err-rest.field-0.0 c.loop.points.items c.args.count c.loop.counter c.loop.rest.now
    (read_many whole_point.read c.args.count c.args.bytes.now) c.loop-test.true c.in_err-rest.ensures.err c.loop.invariant)

pub loop-preserved : goal.loop-preserved
loop-preserved c =
    let read = c.in_ok-rest.ensures.ok in
    rw read.2
    (goes_on whole_point.read c.loop.points.items c.args.count c.loop.counter c.loop.rest.now read.0 c.in_ok-rest.rest.now (read_many whole_point.read c.args.count c.args.bytes.now) c.loop-test.true read.1 c.loop.invariant)

pub loop-init : goal.loop-init
loop-init c = starts whole_point.read c.new-points.result.items c.args.count c.args.bytes.now c.new-points.ensures.items

pub returns : goal.returns
returns c =
    is_done whole_point.read c.loop.points.items c.args.count c.loop.counter c.loop.rest.now
    (read_many whole_point.read c.args.count c.args.bytes.now) c.loop-test.false c.loop.invariant
