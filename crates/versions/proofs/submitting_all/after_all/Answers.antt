use Rattle.std.proofs.Common.{map, drop, ◌+◌, ap, subst, ◌∙◌}
use Rattle.overlay_terms.specs.Commands.{applied, refusal_of, AllAccepted}
use Rattle.layer_book.specs.Command.{command}
use Rattle.layer_tiles.specs.Table.{laid, left_at, Tabled}
use Rattle.versions.proofs.NextBatch.{batch_step, commands_left}
use Rattle.versions.proofs.submitting_all.after_all.Goals as goal

pub after-requires : goal.after-requires
after-requires c =
    let at = c.loop-change in
    let left = commands_left c.args.commands.now at.change-index c.change-item.result c.loop-change-test.true c.change-item.is in
    ap (λ (t : Tabled). refusal_of t.layers (command c.change-item.result)) c.deref.ensures ∙ (subst (AllAccepted at.now.value.layers) left at.invariant.accepted).0

pub loop-change-preserved : goal.loop-change-preserved
loop-change-preserved c =
    let at = c.loop-change in
    let commands = c.args.commands.now in
    let i = at.change-index in
    let change = command c.change-item.result in
    let step = batch_step (laid c.args.table.value) (laid at.now.value) (laid c.in_ok-next.next) (laid c.in_ok-shared.shared.value) (map command commands) (map command (drop (i + 1) commands)) (map command (drop i commands)) change
    (commands_left commands i c.change-item.result c.loop-change-test.true c.change-item.is) at.invariant.accepted at.invariant.layers at.invariant.tiles
    (c.in_ok-next.ensures.layers ∙ ap (λ (t : Tabled). applied t.layers change) c.deref.ensures) (λ name k. c.in_ok-next.ensures.tiles name k ∙ ap (λ (t : Tabled). left_at (laid t) change name k) c.deref.ensures)
    c.in_ok-next.ensures.valid (ap laid c.in_ok-shared.ensures.ok) in
    record { accepted = step.accepted; layers = step.layers; tiles = step.tiles; valid = step.valid }
