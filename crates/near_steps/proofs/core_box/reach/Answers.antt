use Rattle.std.proofs.Common.{◌∙◌}
use Rattle.std.specs.Int.{w64}
use Rattle.std.proofs.lemmas.Int.{to_z-of_z}
use Rattle.near_steps.proofs.CoreLemmas.{coordinate_read, reach_in_range, reach_is}
use Rattle.near_steps.proofs.core_box.reach.Goals as goal

pub over-requires : goal.over-requires
over-requires c =
    reach_in_range c.args.low c.args.x c.lowest-from.result c.highest-to.result c.clamp-at.result c.requires (to_z-of_z w64 c.args.x c.ranges.x)
    (to_z-of_z w64 c.lowest-from.result (record { sfits = c.lowest-from.type_inv })) (to_z-of_z w64 c.highest-to.result (record { sfits = c.highest-to.type_inv }))
    (to_z-of_z w64 c.clamp-at.result (record { sfits = c.clamp-at.type_inv })) c.lowest-from.ensures c.highest-to.ensures c.clamp-at.ensures

pub returns-clause-value : goal.returns-clause-value
returns-clause-value c =
    coordinate_read c.over.result c.over.ensures.in_range ∙ c.over.ensures.value
    ∙ reach_is c.args.low c.args.x c.lowest-from.result c.highest-to.result c.clamp-at.result c.requires (to_z-of_z w64 c.args.x c.ranges.x)
    (to_z-of_z w64 c.lowest-from.result (record { sfits = c.lowest-from.type_inv })) (to_z-of_z w64 c.highest-to.result (record { sfits = c.highest-to.type_inv }))
    (to_z-of_z w64 c.clamp-at.result (record { sfits = c.clamp-at.type_inv })) c.lowest-from.ensures c.highest-to.ensures c.clamp-at.ensures
