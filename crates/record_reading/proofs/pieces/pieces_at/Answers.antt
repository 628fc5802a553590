use Rattle.std.proofs.Common.{◌≡◌, ◌&&◌, rules, ap, sym, ◌∙◌}
use Rattle.std.proofs.lemmas.Result.{err_from_is_err_and}
use Rattle.store_terms.specs.Fields.{read_many}
use Rattle.store_terms.specs.TileRecord.{piece}
use Rattle.store_terms.proofs.Loops.{goes_on}
use Rattle.record_reading.proofs.Failing.{fails}
use Rattle.record_reading.specs.PieceOrder.{are_in_order}
use Rattle.record_reading.proofs.pieces.pieces_at.Goals as goal

pub returns-in_err-rest-clause-pieces : goal.returns-in_err-rest-clause-pieces
returns-in_err-rest-clause-pieces c =
    let p = err_from_is_err_and c.from_residual.result c.from_residual.ensures.1 in
    rw (p.1, p.2)
    (fails piece.read c.in_err-rest.field-0.0 c.loop.pieces.items c.args.count c.loop.counter c.loop.rest.now
    (read_many piece.read c.args.count c.args.bytes.now) c.loop-test.true c.in_err-rest.ensures.err c.loop.invariant.0)

pub loop-preserved : goal.loop-preserved
loop-preserved c =
    let read = c.in_ok-rest.ensures.ok in
    let seen : c.deref.result.now ≡ c.push_piece.new.pieces.items = search rules in
    let placed = c.is_last_placed-stand.ensures c.loop.pieces.items read.0 (seen ∙ read.2) in (
      rw read.2
          (goes_on piece.read c.loop.pieces.items c.args.count c.loop.counter c.loop.rest.now read.0 c.in_ok-rest.rest.now (read_many piece.read c.args.count c.args.bytes.now) c.loop-test.true read.1 c.loop.invariant.0),
      ap (λ stand. stand && c.is_last_placed-stand.result) c.loop.invariant.1 ∙ sym placed ∙ ap (are_in_order c.args.column) seen,
    )
