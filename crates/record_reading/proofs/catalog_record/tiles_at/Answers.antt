use Rattle.std.proofs.lemmas.Result.{err_from_is_err_and}
use Rattle.store_terms.specs.Fields.{read_many}
use Rattle.store_terms.specs.Choices.{optional}
use Rattle.store_terms.specs.Catalog.{extent}
use Rattle.store_terms.proofs.Loops.{goes_on, is_done}
use Rattle.record_reading.proofs.Failing.{fails, starts}
use Rattle.record_reading.proofs.catalog_record.tiles_at.Goals as goal

pub returns-in_err-tile : goal.returns-in_err-tile
returns-in_err-tile c =
    let p = err_from_is_err_and c.from_residual.result c.from_residual.ensures.1 in
    rw (p.1, p.2)
    (fails (optional extent).read c.in_err-tile.field-0.0 c.loop.tiles.items c.args.columns c.loop.counter c.loop.rest.now
    (read_many (optional extent).read c.args.columns c.args.bytes.now) c.loop-test.true c.in_err-tile.ensures c.loop.invariant)

pub loop-preserved : goal.loop-preserved
loop-preserved c =
    rw c.in_ok-push.ensures.items
    (goes_on (optional extent).read c.loop.tiles.items c.args.columns c.loop.counter c.loop.rest.now c.in_ok-tile.tile c.in_ok-tile.after.now (read_many (optional extent).read c.args.columns c.args.bytes.now) c.loop-test.true c.in_ok-tile.ensures c.loop.invariant)

pub loop-init : goal.loop-init
loop-init c = starts (optional extent).read c.new-tiles.result.items c.args.columns c.args.bytes.now c.new-tiles.ensures.items

pub returns : goal.returns
returns c =
    is_done (optional extent).read c.loop.tiles.items c.args.columns c.loop.counter c.loop.rest.now
    (read_many (optional extent).read c.args.columns c.args.bytes.now) c.loop-test.false c.loop.invariant
