use Rattle.std.proofs.Common.{◌≡◌, map, take, length, bytes_eq, if◌then◌else◌}
use Rattle.overlay_terms.specs.Layers.{Layer}
use Rattle.layer_book.specs.Sketch.{entry_layer}
use Rattle.layer_book.proofs.sketch.Sketch.replaced.Given as goal

-- the entries so far, each of the name replaced
abbrev pub invariant-loop-old : goal.invariant-loop-old
invariant-loop-old l = record {
  made : map entry_layer l.entries.items ≡ map (λ (layer : Layer). if bytes_eq layer.name l.name then entry_layer l.entry else layer) (map entry_layer (take l.old-index l.old-items));
  count : length l.entries.items ≡ l.old-index;
}
