use Rattle.std.proofs.Common.{List, map, ◌+◌, sym, subst, arith}
use Rattle.overlay_terms.specs.Layers.{Layer}
use Rattle.overlay_terms.specs.Commands.{AllAccepted}
use Rattle.layer_book.proofs.BatchRefusals.{no_batch_reason}
use Rattle.layer_book.specs.Command.{command}
use Rattle.layer_tiles.specs.Table.{laid}
use Rattle.versions.proofs.NextVersion.{laid_is_version, laid_out}
use Rattle.versions.proofs.NextBatch.{accepted_parts, next_small, next_follows}
use Rattle.versions.proofs.version.Version.submit_all.Goals as goal

pub after_all-requires-clause-accepted : goal.after_all-requires-clause-accepted
after_all-requires-clause-accepted c =
    let old = c.args.self.now in
    subst (λ (ls : List Layer). AllAccepted ls (map command c.commands.result.now)) (sym c.in_ok-table.ensures.layers)
    (subst (AllAccepted old.layers) (sym c.commands.ensures.value) (accepted_parts old.number old.layers c.args.batch.now (no_batch_reason _ c.in_default.ensures)).in_turn)

pub of-requires : goal.of-requires
of-requires c =
    laid_is_version (c.number-number.result + 1) c.durable-durable.result (laid c.in_ok-next.next.value)
    (next_small c.args.self.now c.args.batch.now c.number-number.result (no_batch_reason _ c.in_default.ensures) c.number-number.ensures.value c.number-number.ensures.small)
    (omega (arith, c.number-number.ensures.value, c.durable-durable.ensures.reported))
    c.in_ok-next.ensures.valid

pub returns-clause-ok : goal.returns-clause-ok
returns-clause-ok c =
    next_follows c.args.self.now c.args.batch.now (map command c.commands.result.now) c.number-number.result c.durable-durable.result (laid c.in_ok-table.table.value) (laid c.in_ok-next.next.value) c.of.result
    (no_batch_reason _ c.in_default.ensures) c.number-number.ensures.value c.durable-durable.ensures.value
    (laid_out c.in_ok-table.table.value c.args.self.now c.in_ok-table.ensures.layers c.in_ok-table.ensures.tiles) c.commands.ensures.value c.in_ok-next.ensures.layers c.in_ok-next.ensures.tiles c.of.ensures
