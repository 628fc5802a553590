use Rattle.std.proofs.Common.{◌≡◌, map, take}
use Rattle.swept_area.specs.Swept.{swept_area}
use Rattle.swept_area.specs.Pieces.{sided_from}
use Rattle.swept_area.proofs.area.swept_area.Given as goal

-- the sum so far
abbrev pub invariant-loop-piece : goal.invariant-loop-piece
invariant-loop-piece l = l.total ≡ swept_area (map (sided_from l.by) (take l.piece-index l.pieces))
