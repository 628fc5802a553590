use Rattle.std.proofs.Common.{◌≡◌, ◌+◌, map, drop}
use Rattle.overlay_terms.specs.Commands.{index_of}
use Rattle.layer_book.specs.Sketch.{entry_layer}
use Rattle.layer_book.proofs.sketch.Sketch.index_of.Given as goal

-- the name is not among the entries so far
abbrev pub invariant-loop-entry : goal.invariant-loop-entry
invariant-loop-entry l = record {
  count : l.i ≡ l.entry-index;
  behind : index_of (map entry_layer l.entry-items) l.name ≡ l.entry-index + index_of (map entry_layer (drop l.entry-index l.entry-items)) l.name;
}
