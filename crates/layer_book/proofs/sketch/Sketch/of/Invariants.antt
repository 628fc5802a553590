use Rattle.std.proofs.Common.{◌≡◌, map, take, length}
use Rattle.layer_book.specs.Sketch.{entry_layer}
use Rattle.layer_book.proofs.sketch.Sketch.of.Given as goal

-- the layers so far
abbrev pub invariant-loop-i : goal.invariant-loop-i
invariant-loop-i l = record { made : map entry_layer l.entries.items ≡ take l.i l.layers; count : length l.entries.items ≡ l.i }
