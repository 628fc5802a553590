-- Whether there is room for a commit.
use Rattle.extent_map.specs.FirstFit.{IsFull}
use Rattle.extent_map.specs.Taken.{taken_of}
use Rattle.commit_plan.specs.declared.image.Image.{Image}
use Rattle.commit_plan.specs.declared.live_records.LiveRecords.{LiveRecords}
use Rattle.commit_plan.specs.Live.{live_content}
use Rattle.commit_plan.specs.Next.{ArePlanned}
use Rattle.commit_plan.specs.Sizes.{sizes_of}

-- each new record of an image finds, in order, the lowest run that is free of what is taken and of the runs before it
abbrev pub HasRoom : LiveRecords → Image → Type 0
HasRoom live image = ArePlanned (taken_of live.room.map) live.room.max_blocks (sizes_of (live_content live) image)

-- some new record finds no run, where each before it has found its own
abbrev pub HasNoRoom : LiveRecords → Image → Type 0
HasNoRoom live image = IsFull (taken_of live.room.map) live.room.max_blocks (sizes_of (live_content live) image)
