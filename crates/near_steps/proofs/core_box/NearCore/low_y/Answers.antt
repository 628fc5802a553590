use Rattle.near_steps.proofs.CoreLemmas.{low_y_near, near_read}
use Rattle.near_steps.proofs.core_box.NearCore.low_y.Goals as goal

pub returns-clause-near : goal.returns-clause-near
returns-clause-near c =
    let core = c.self.inside in
    near_read core.low_y (low_y_near (record { low_x = core.low_x; high_x = core.high_x; low_y = core.low_y; high_y = core.high_y }) c.self.invariant)
