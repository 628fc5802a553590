use Rattle.std.proofs.Common.{◌≡◌, ◌≤◌, map, take, length}
use Rattle.layer_book.specs.Layer.{others}
use Rattle.layer_book.specs.Sketch.{entry_layer}
use Rattle.layer_book.proofs.sketch.Sketch.without.Given as goal

-- the entries so far with other names
abbrev pub invariant-loop-old : goal.invariant-loop-old
invariant-loop-old l = record { made : map entry_layer l.entries.items ≡ others (map entry_layer (take l.old-index l.old-items)) l.name; count : length l.entries.items ≤ l.old-index }
