use Rattle.std.proofs.lemmas.Result.{err_from_is_err_and}
use Rattle.store_terms.specs.Fields.{read_many}
use Rattle.store_terms.specs.BaseRecord.{ring}
use Rattle.store_terms.proofs.Loops.{goes_on, is_done}
use Rattle.record_reading.proofs.Failing.{fails, starts}
use Rattle.record_reading.proofs.base_record.rings_at.Goals as goal

pub returns-in_err-ring : goal.returns-in_err-ring
returns-in_err-ring c =
    let p = err_from_is_err_and c.from_residual.result c.from_residual.ensures.1 in
    rw (p.1, p.2)
    (fails ring.read c.in_err-ring.field-0.0 c.loop.rings.items c.args.count c.loop.counter c.loop.rest.now
    (read_many ring.read c.args.count c.args.bytes.now) c.loop-test.true c.in_err-ring.ensures c.loop.invariant)

pub loop-preserved : goal.loop-preserved
loop-preserved c =
    rw c.in_ok-push.ensures.items
    (goes_on ring.read c.loop.rings.items c.args.count c.loop.counter c.loop.rest.now c.in_ok-ring.ring c.in_ok-ring.after.now (read_many ring.read c.args.count c.args.bytes.now) c.loop-test.true c.in_ok-ring.ensures c.loop.invariant)

pub loop-init : goal.loop-init
loop-init c = starts ring.read c.new-rings.result.items c.args.count c.args.bytes.now c.new-rings.ensures.items

pub returns : goal.returns
returns c =
    is_done ring.read c.loop.rings.items c.args.count c.loop.counter c.loop.rest.now
    (read_many ring.read c.args.count c.args.bytes.now) c.loop-test.false c.loop.invariant
