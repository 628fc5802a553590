use Rattle.std.proofs.Common.{take}
use Rattle.std.specs.Prelude.{All}
use Rattle.feature_jobs.specs.Findings.{HasNoPiece}
use Rattle.feature_jobs.proofs.relation.has_part.Given as goal

-- the first windows have no boundary
abbrev pub invariant-loop-window : goal.invariant-loop-window
invariant-loop-window l = All (HasNoPiece l.steps) (take l.window-index l.list)
