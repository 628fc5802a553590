use Rattle.std.proofs.Common.{◌∷◌, [], ◌∙◌, ap}
use Rattle.std.proofs.lemmas.Result.{err_from_is_err_and}
use Rattle.std.proofs.lemmas.List.{map-append}
use Rattle.store_terms.specs.Fields.{read_many}
use Rattle.store_terms.specs.Catalog.{listed}
use Rattle.store_terms.proofs.Loops.{goes_on, is_done}
use Rattle.store_terms.specs.Listing.{entry_of, entries_of}
use Rattle.record_reading.proofs.Failing.{fails, starts}
use Rattle.record_reading.proofs.catalog_record.listing_at.Goals as goal

pub returns-in_err-layer : goal.returns-in_err-layer
returns-in_err-layer c =
    let p = err_from_is_err_and c.from_residual.result c.from_residual.ensures.1 in
    rw (p.1, p.2)
    (fails (listed c.args.columns).read c.in_err-layer.field-0.0
    (entries_of c.loop.listing.items) c.args.count c.loop.counter c.loop.rest.now
    (read_many (listed c.args.columns).read c.args.count c.args.bytes.now) c.loop-test.true c.in_err-layer.ensures c.loop.invariant)

pub loop-preserved : goal.loop-preserved
loop-preserved c =
    let pushed = ap entries_of c.in_ok-push.ensures.items
    ∙ map-append entry_of c.loop.listing.items (c.in_ok-layer.layer ∷ []) in
    rw pushed
    (goes_on (listed c.args.columns).read (entries_of c.loop.listing.items) c.args.count c.loop.counter c.loop.rest.now
    (entry_of c.in_ok-layer.layer) c.in_ok-layer.after.now
    (read_many (listed c.args.columns).read c.args.count c.args.bytes.now) c.loop-test.true c.in_ok-layer.ensures c.loop.invariant)

pub loop-init : goal.loop-init
loop-init c = starts (listed c.args.columns).read (entries_of c.new-listing.result.items) c.args.count c.args.bytes.now (ap entries_of c.new-listing.ensures.items)

pub returns : goal.returns
returns c =
    is_done (listed c.args.columns).read (entries_of c.loop.listing.items) c.args.count c.loop.counter c.loop.rest.now
    (read_many (listed c.args.columns).read c.args.count c.args.bytes.now) c.loop-test.false c.loop.invariant
