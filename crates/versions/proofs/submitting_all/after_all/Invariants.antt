use Rattle.std.proofs.Common.{◌≡◌, ℕ, map, drop}
use Rattle.overlay_terms.specs.Layers.{Name}
use Rattle.overlay_terms.specs.Commands.{AllAccepted}
use Rattle.overlay_terms.specs.Batches.{applied_all}
use Rattle.layer_book.specs.Command.{command}
use Rattle.layer_tiles.specs.Table.{laid, IsLaid}
use Rattle.versions.specs.Laid.{left_by_all}
use Rattle.versions.proofs.submitting_all.after_all.Given as goal

-- the commands that are left are accepted, and leave what all leave of the first layers and tiles
abbrev pub invariant-loop-change : goal.invariant-loop-change
invariant-loop-change l = record {
  accepted : AllAccepted l.now.value.layers (map command (drop l.change-index l.commands));
  layers : applied_all l.now.value.layers (map command (drop l.change-index l.commands)) ≡ applied_all l.initial.now.value.layers (map command l.commands);
  tiles : (name : Name) (k : ℕ) → left_by_all (laid l.now.value) (map command (drop l.change-index l.commands)) name k ≡ left_by_all (laid l.initial.now.value) (map command l.commands) name k;
  valid : IsLaid (laid l.now.value);
}
