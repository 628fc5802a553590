use Rattle.layer_tiles.specs.Table.{placed_rows}
use Rattle.layer_tiles.proofs.RowLemmas.{empty_is_table, empty_has_none}
use Rattle.layer_tiles.proofs.Placed.{placed_empty}
use Rattle.layer_tiles.proofs.table.Table.of.Goals as goal

pub invariant_of-result : goal.invariant_of-result
invariant_of-result c =
    empty_is_table c.args.layers c.in_ok-shared.shared.value c.len.result (placed_rows c.in_ok-rows.rows.items) c.len.ensures.value c.in_ok-shared.ensures.ok (placed_empty c.in_ok-rows.rows.items c.len.result c.in_ok-rows.ensures) c.len.ensures.valid

pub returns-clause-tiles : goal.returns-clause-tiles
returns-clause-tiles c =
    empty_has_none c.args.layers c.in_ok-shared.shared.value c.len.result (placed_rows c.in_ok-rows.rows.items) c.len.ensures.value c.in_ok-shared.ensures.ok (placed_empty c.in_ok-rows.rows.items c.len.result c.in_ok-rows.ensures)

pub returns-clause-valid : goal.returns-clause-valid
returns-clause-valid c =
    (empty_is_table c.args.layers c.in_ok-shared.shared.value c.len.result (placed_rows c.in_ok-rows.rows.items) c.len.ensures.value c.in_ok-shared.ensures.ok (placed_empty c.in_ok-rows.rows.items c.len.result c.in_ok-rows.ensures) c.len.ensures.valid).laid
