use Rattle.std.proofs.Common.{ap, ◌∙◌}
use Rattle.overlay_terms.specs.Commands.{refusal_of, applied}
use Rattle.layer_book.specs.Command.{command}
use Rattle.layer_tiles.specs.Table.{laid, placed_rows}
use Rattle.layer_tiles.proofs.LookLemmas.{after_is_table, after_finds}
use Rattle.layer_tiles.proofs.table.Table.after.Goals as goal

pub applied-requires : goal.applied-requires
applied-requires c = ap (λ ls. refusal_of ls (command c.args.change.now)) c.layers.ensures.value ∙ c.requires

pub rows_left-requires-clause-made : goal.rows_left-requires-clause-made
rows_left-requires-clause-made c = c.in_ok-layers.ensures ∙ ap (λ ls. applied ls (command c.args.change.now)) c.layers.ensures.value

pub invariant_of-result : goal.invariant_of-result
invariant_of-result c =
    after_is_table (laid c.args.self.now) (command c.args.change.now) c.layers.ensures.valid c.in_ok-layers.layers c.in_ok-shared.shared.value (placed_rows c.in_ok-rows.rows.items)
    (c.in_ok-layers.ensures ∙ ap (λ ls. applied ls (command c.args.change.now)) c.layers.ensures.value) c.in_ok-shared.ensures.ok c.in_ok-rows.ensures c.len.ensures.valid

pub returns-clause-tiles : goal.returns-clause-tiles
returns-clause-tiles c =
    after_finds (laid c.args.self.now) (command c.args.change.now) c.layers.ensures.valid c.in_ok-layers.layers c.in_ok-shared.shared.value (placed_rows c.in_ok-rows.rows.items)
    (c.in_ok-layers.ensures ∙ ap (λ ls. applied ls (command c.args.change.now)) c.layers.ensures.value) c.in_ok-shared.ensures.ok c.in_ok-rows.ensures

pub returns-clause-valid : goal.returns-clause-valid
returns-clause-valid c =
    (after_is_table (laid c.args.self.now) (command c.args.change.now) c.layers.ensures.valid c.in_ok-layers.layers c.in_ok-shared.shared.value (placed_rows c.in_ok-rows.rows.items)
    (c.in_ok-layers.ensures ∙ ap (λ ls. applied ls (command c.args.change.now)) c.layers.ensures.value) c.in_ok-shared.ensures.ok c.in_ok-rows.ensures c.len.ensures.valid).laid
