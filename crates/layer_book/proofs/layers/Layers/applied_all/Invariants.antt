use Rattle.std.proofs.Common.{◌≡◌, map, drop}
use Rattle.overlay_terms.specs.Commands.{AllAccepted}
use Rattle.overlay_terms.specs.Batches.{applied_all}
use Rattle.layer_book.specs.Command.{command}
use Rattle.layer_book.proofs.layers.Layers.applied_all.Given as goal

-- the commands that are left are accepted, and make of the layers what all make of the first ones
abbrev pub invariant-loop-change : goal.invariant-loop-change
invariant-loop-change l = record {
  accepted : AllAccepted l.layers (map command (drop l.change-index l.commands));
  made : applied_all l.layers (map command (drop l.change-index l.commands)) ≡ applied_all l.self (map command l.commands);
}
