use Rattle.std.proofs.Common.{◌≡◌, map, take}
use Rattle.feature_jobs.specs.Answers.{near_of}
use Rattle.feature_jobs.proofs.cells.nears.Given as goal

-- the members so far are there
abbrev pub invariant-loop-one : goal.invariant-loop-one
invariant-loop-one l = l.list.items ≡ map near_of (take l.one-index l.members)
