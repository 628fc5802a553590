use Rattle.std.specs.Prelude.{◌≤◌}
use Rattle.overlay_terms.specs.Commands.{index_of}
use Rattle.layer_book.proofs.layers.Layers.find.Given as goal

-- none of the layers before this one has the name
abbrev pub invariant-loop-index : goal.invariant-loop-index
invariant-loop-index l = l.index ≤ index_of l.self l.name
