use Rattle.std.proofs.Common.{◌≡◌, ◌++◌, ◌∷◌, take, flat_map, length, codes, decimal}
use Rattle.layer_book.specs.Listing.{layer_line}
use Rattle.layer_book.proofs.layers.Layers.list.Given as goal

-- the lines of the layers so far
abbrev pub invariant-loop-i : goal.invariant-loop-i
invariant-loop-i l = l.text.items ≡ codes "layers " ++ (decimal (length l.self) ++ (10 ∷ flat_map layer_line (take l.i l.self)))
