use Rattle.map_window.specs.Window.{Box}
use Rattle.near_steps.proofs.CoreLemmas.{size_read, x_span, y_span}
use Rattle.near_steps.proofs.core_box.NearCore.size.Goals as goal

pub returns-clause-in_range : goal.returns-clause-in_range
returns-clause-in_range c =
    let core = c.self.inside in
    let all : Box = record { low_x = core.low_x; high_x = core.high_x; low_y = core.low_y; high_y = core.high_y } in
    (size_read core.low_x core.high_x (x_span all c.self.invariant), size_read core.low_y core.high_y (y_span all c.self.invariant))
