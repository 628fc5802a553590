use Rattle.std.proofs.Common.{ℕ, subst, rules}
use Rattle.extent_map.specs.Blocks.{blocks}
use Rattle.extent_map.specs.FirstFit.{NoFit}
use Rattle.extent_map.specs.Taken.{taken_of}
use Rattle.commit_plan.proofs.room.Room.place.Goals as goal

pub returns-in-Err-Full-clause-full : goal.returns-in-Err-Full-clause-full
returns-in-Err-Full-clause-full c u =
    let room = c.args.self.now in
    let none : NoFit (taken_of room.map) room.max_blocks (blocks c.args.size) =
    subst (λ (m : ℕ). NoFit (taken_of room.map) m (blocks c.args.size)) room.limit
    (c.in-Err-Full.ensures.full (search rules)) in
    none
