use Rattle.std.proofs.Common.{◌≡◌, map, take}
use Rattle.overlay_terms.specs.Layers.{Layer}
use Rattle.layer_book.specs.Command.{command}
use Rattle.layer_book.specs.Touching.{touched_columns}
use Rattle.layer_book.proofs.layers.Layers.touched_rows.Given as goal

-- the rows of the layers so far
abbrev pub invariant-loop-i : goal.invariant-loop-i
invariant-loop-i l = l.rows.items ≡ map (λ (layer : Layer). touched_columns l.self (command l.change) layer.name) (take l.i l.self)
