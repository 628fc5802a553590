use Rattle.std.proofs.Common.{arith}
use Rattle.overlay_grid.proofs.Pictures.{row_ended}
use Rattle.overlay_grid.proofs.rows.push_row.Goals as goal

pub returns : goal.returns
returns c =
    row_ended (λ v. v.items) c.args.columns.now c.loop-column.column-index c.args.j c.args.text.now.items c.loop-column.text.items c.push-2.new.self.items
    (omega arith) c.loop-column.invariant c.in_ok-push-2.ensures.items
