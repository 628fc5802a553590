use Rattle.std.proofs.Common.{arith}
use Rattle.record_reading.proofs.NameBytes.{name_read, name_short}
use Rattle.record_reading.proofs.Tails.{tail_is}
use Rattle.record_reading.proofs.catalog_record.name_at.Goals as goal

pub returns-then-rest-size : goal.returns-then-rest-size
returns-then-rest-size c =
    name_short c.args.bytes.now c.in_ok-count.rest.now c.in_ok-count.count c.in_ok-count.ensures.gives
    (omega (arith, c.if-rest-size.true, c.from-size.ensures))

pub returns : goal.returns
returns c =
    rw (c.in_ok-name.ensures.items, tail_is c.from-size.result c.in_ok-count.rest.now, c.from-size.ensures)
    (name_read c.args.bytes.now c.in_ok-count.rest.now c.in_ok-count.count c.in_ok-count.ensures.gives
    (omega (arith, c.if-rest-size.false, c.from-size.ensures)))
