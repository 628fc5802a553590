use Rattle.std.proofs.Common.{ap, ◌+◌, ◌∙◌, sym, subst, arith}
use Rattle.overlay_terms.specs.Commands.{refusal_of}
use Rattle.layer_book.specs.Command.{command}
use Rattle.layer_tiles.specs.Table.{laid, IsLaid, Tabled}
use Rattle.versions.proofs.NextVersion.{accepted_parts, laid_is_version, laid_out, next_small, next_follows, none_refused}
use Rattle.versions.proofs.version.Version.submit.Goals as goal

pub after-requires : goal.after-requires
after-requires c =
    let old = c.args.self.now in
    let change = command c.args.change.now in
    ap (λ (t : Tabled). refusal_of t.layers change) c.deref.ensures ∙ ap (λ ls. refusal_of ls change) c.in_ok-table.ensures.layers
    ∙ (accepted_parts old.number old.layers change (none_refused _ c.in-None.ensures)).by_layers

pub of-requires : goal.of-requires
of-requires c =
    laid_is_version (c.number-number.result + 1) c.durable-durable.result (laid c.in_ok-next.next.value)
    (next_small c.args.self.now (command c.args.change.now) c.number-number.result (none_refused _ c.in-None.ensures) c.number-number.ensures.value c.number-number.ensures.small)
    (omega (arith, c.number-number.ensures.value, c.durable-durable.ensures.reported))
    (subst (λ (t : Tabled). IsLaid (laid t)) (sym c.in_ok-next.ensures.ok) c.in_ok-made.ensures.valid)

pub returns-clause-ok : goal.returns-clause-ok
returns-clause-ok c =
    next_follows c.args.self.now (command c.args.change.now) c.number-number.result c.durable-durable.result (laid c.deref.result.now) (laid c.in_ok-made.made) (laid c.in_ok-next.next.value) c.of.result
    (none_refused _ c.in-None.ensures) c.number-number.ensures.value c.durable-durable.ensures.value (ap laid c.deref.ensures ∙ laid_out c.in_ok-table.table.value c.args.self.now c.in_ok-table.ensures.layers c.in_ok-table.ensures.tiles)
    c.in_ok-made.ensures.layers c.in_ok-made.ensures.tiles (ap laid c.in_ok-next.ensures.ok) c.of.ensures
