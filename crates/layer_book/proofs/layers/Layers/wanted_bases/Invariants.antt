use Rattle.std.proofs.Common.{◌≡◌, map, take}
use Rattle.layer_book.specs.Question.{marked_layers}
use Rattle.layer_book.proofs.MarkedLayers.{rings_of}
use Rattle.layer_book.proofs.layers.Layers.wanted_bases.Given as goal

-- the wanted base layers so far
abbrev pub invariant-loop-i : goal.invariant-loop-i
invariant-loop-i l = map (λ b. b.now) l.bases.items ≡ rings_of (marked_layers l.wanted (take l.i l.self))
