use Rattle.std.proofs.Common.{◌≡◌, map, drop}
use Rattle.overlay_terms.specs.Batches.{refusal_from}
use Rattle.layer_book.specs.Command.{command}
use Rattle.layer_book.specs.Sketch.{sketched}
use Rattle.layer_book.proofs.layers.Layers.refusal_of_all.Given as goal

-- no command so far is refused: the answer is that of those that are left
abbrev pub invariant-loop-change : goal.invariant-loop-change
invariant-loop-change l = record {
  count : l.place ≡ l.change-index;
  told : refusal_from l.place (sketched l.sketch) (map command (drop l.change-index l.commands)) ≡ refusal_from 0 l.self (map command l.commands);
}
