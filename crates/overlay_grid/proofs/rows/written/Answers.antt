use Rattle.std.proofs.Common.{map, arith}
use Rattle.overlay_grid.proofs.Pictures.{row_more}
use Rattle.overlay_grid.proofs.rows.written.Goals as goal

pub push_row-requires : goal.push_row-requires
push_row-requires c = λ k d l. omega (arith, c.requires k d l, c.ny-ny.ensures.value)

pub loop-j-preserved : goal.loop-j-preserved
loop-j-preserved c = row_more c.nx-nx.result c.ny-ny.result c.loop-j.j (map (λ v. v.items) c.args.columns.now) c.loop-j.text.items c.push_row.new.text.items c.loop-j.invariant c.in_ok-push_row.ensures
