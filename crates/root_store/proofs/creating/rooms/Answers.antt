use Rattle.std.proofs.Common.{[], ◌∷◌}
use Rattle.extent_map.specs.Taken.{taken_of}
use Rattle.root_reading.specs.RootRuns.{AreRunsOf}
use Rattle.commit_plan.specs.Kept.{extents_in}
use Rattle.root_store.specs.Creating.{nothing_kept}
use Rattle.root_reading.proofs.Rooms.{map_of_runs}
use Rattle.root_store.proofs.creating.rooms.Goals as goal

pub returns-clause-room : goal.returns-clause-room
returns-clause-room c =
    let run = c.in-Some.run' in
    let are : AreRunsOf (extents_in nothing_kept) (run ∷ []) = (c.in-Some.ensures.block, c.in-Some.ensures.blocks, tt) in
    map_of_runs (extents_in nothing_kept) (run ∷ []) (taken_of c.in_ok-room.room.map) are c.in_ok-room.ensures.taken
