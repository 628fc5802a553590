use Rattle.std.proofs.Common.{rules}
use Rattle.record_reading.proofs.PieceOrderLemmas.{formed}
use Rattle.record_reading.proofs.tile_record.parts_at.Goals as goal

pub returns-in_ok-pieces-in-0-clause-formed : goal.returns-in_ok-pieces-in-0-clause-formed
returns-in_ok-pieces-in-0-clause-formed c =
    let pieces = c.in_ok-pieces-in-0.pieces in
    formed c.args.column c.len-few.result pieces.items c.in_ok-pieces-in-0.stand (search rules) c.in_ok-pieces-in-0.ensures.ordered
