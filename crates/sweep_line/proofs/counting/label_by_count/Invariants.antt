use Rattle.std.proofs.Common.{◌≡◌, map, take}
use Rattle.std.specs.Prelude.{All}
use Rattle.sweep_line.specs.Label.{IsLabelled}
use Rattle.sweep_line.proofs.counting.label_by_count.Given as goal

abbrev pub invariant-loop-piece : goal.invariant-loop-piece
invariant-loop-piece l = record {
  pieces : map (λ e. e.piece) l.labels.items ≡ take l.piece-index l.piece-items;
  sides : All (IsLabelled l.fn.input) l.labels.items;
}
