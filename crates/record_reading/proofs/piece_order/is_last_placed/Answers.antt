use Rattle.std.proofs.Common.{◌≡◌, true, rules, arith, ◌∙◌, ap}
use Rattle.std.specs.Prelude.{◌&&◌}
use Rattle.overlay_terms.specs.Column.{is_in_column}
use Rattle.exact_point.specs.NamedPiece.{ends_of}
use Rattle.record_reading.specs.PieceOrder.{are_in_order}
use Rattle.record_reading.proofs.PieceOrderLemmas.{behind}
use Rattle.record_reading.proofs.piece_order.is_last_placed.Goals as goal

pub returns : goal.returns
returns c before last is =
    let p = c.index-pieces-last.result in
    let begins : is_in_column c.args.column (ends_of p).0 ≡ true = search rules in
    behind c.args.column c.args.pieces.now last before p c.index-pieces-last-3.result c.index-pieces-last-2.result is
    (omega (arith, c.if-last-eq0.false, c.requires)) c.index-pieces-last.is begins c.index-pieces-last-3.is
    c.index-pieces-last-2.is
    ∙ ap (λ b. are_in_order c.args.column before && b) (search rules)
