-- What a commit has filed so far.
use Rattle.std.specs.Prelude.{◌≡◌, ℕ, List, [], ◌++◌}
use Rattle.extent_map.specs.declared.extent.Extent as runs
use Rattle.extent_map.specs.Extents.{AreAlike}
use Rattle.extent_map.specs.FirstFit.{IsFull, IsPlanned, taken_with}
use Rattle.extent_map.specs.Taken.{taken_of}
use Rattle.root_reading.specs.RootRuns.{AreRunsOf}
use Rattle.commit_plan.specs.declared.room.Room.{Room}
use Rattle.commit_plan.specs.Filed.{Filed, lengths_of, extents_of_filed}

-- the records of a commit that have their places, in the order in which they are written: in a file of at most so many
-- blocks, beside the runs that the live root takes
pub record Drafted : Type 0 where
  pub given : List runs.Extent
  pub limit : ℕ
  pub filed : List Filed

-- no record yet, in the room that a live root leaves
abbrev pub begun_in : Room → Drafted
begun_in room = record { given = taken_of room.map; limit = room.max_blocks; filed = [] }

-- a draft with some records more
abbrev pub with_filed : Drafted → List Filed → Drafted
with_filed d fs = record { given = d.given; limit = d.limit; filed = d.filed ++ fs }

-- the sizes of its records
abbrev pub sizes_in : Drafted → List ℕ
sizes_in d = lengths_of d.filed

-- records have these runs: each the lowest that is free beside what is taken and beside the records before it
pub record HaveRuns (given : List runs.Extent) (limit : ℕ) (filed : List Filed)
    (places : List runs.Extent) : Type 0 where
  pub planned : IsPlanned given limit (lengths_of filed) places
  pub runs : AreRunsOf (extents_of_filed filed) places

-- each record of a draft has its run
abbrev pub ArePlaced : Drafted → Type 0
ArePlaced d = (places : List runs.Extent) × HaveRuns d.given d.limit d.filed places

-- of the records of a draft and some more, of these sizes, one finds no run, where each before it has found its own
abbrev pub HasNoRunFor : Drafted → List ℕ → Type 0
HasNoRunFor d sizes = IsFull d.given d.limit (sizes_in d ++ sizes)

-- what the code of a draft keeps: its records lie in room that the live root's leaves, and
-- are taken in a room of its own
pub record IsDraft (live room : Room) (filed : List Filed) : Type 0 where
  pub limit : room.max_blocks ≡ live.max_blocks
  pub places : List runs.Extent
  pub placed : HaveRuns (taken_of live.map) live.max_blocks filed places
  pub alike : AreAlike (taken_with (taken_of live.map) places) (taken_of room.map)
