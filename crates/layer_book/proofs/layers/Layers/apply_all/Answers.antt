use Rattle.std.proofs.Common.{sym, subst}
use Rattle.overlay_terms.specs.Commands.{AllAccepted}
use Rattle.overlay_terms.proofs.BatchLemmas.{accepted_in_turn}
use Rattle.layer_book.proofs.BatchRefusals.{no_batch_reason}
use Rattle.layer_book.proofs.layers.Layers.apply_all.Goals as goal

pub applied_all-requires : goal.applied_all-requires
applied_all-requires c =
    subst (AllAccepted c.args.self.now) (sym c.commands-commands.ensures.value)
    ((accepted_in_turn c.args.self.now c.args.batch.now).0 (no_batch_reason _ c.in_default.ensures))
