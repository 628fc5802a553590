use Rattle.std.proofs.Common.{◌≡◌, ◌≤◌, map, take, length}
use Rattle.layer_expr.specs.StepList.{reached, reached_of}
use Rattle.layer_book.specs.Question.{marked_layers}
use Rattle.layer_book.proofs.layers.Layers.wanted_layers.Given as goal

-- the wanted layers so far
abbrev pub invariant-loop-i : goal.invariant-loop-i
invariant-loop-i l = record {
  room : length l.layers ≡ 32;
  few : l.count ≤ l.i;
  so_far : reached (take l.count l.layers) ≡ map reached_of (marked_layers l.wanted (take l.i l.self));
}
