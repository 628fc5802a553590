use Rattle.std.proofs.Common.{◌≡◌, ◌≤◌, ◌∙◌, length, arith, take_all}
use Rattle.arrange.proofs.tile_input.TileInput.try_copy.Goals as goal

pub invariant_of-result : goal.invariant_of-result
invariant_of-result c =
    let full : length c.deref-m-items.result.now ≤ c.loop-m.m-index = omega arith in
    let items : c.loop-m.marked.items ≡ c.self.inside.marked.items =
    c.loop-m.invariant ∙ take_all c.loop-m.m-index c.deref-m-items.result.now full ∙ c.deref-m-items.ensures.value in
    let steps : c.in_ok-steps.steps ≡ c.self.inside.steps = c.in_ok-steps.ensures in
    rw (items, steps) c.self.invariant
