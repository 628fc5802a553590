use Rattle.std.proofs.Common.{◌≡◌, [], List, refl, ap, subst, ◌∙◌}
use Rattle.layer_book.specs.Layer.{IsBook}
use Rattle.layer_tiles.specs.Table.{placed_rows, IsTable}
use Rattle.layer_tiles.proofs.RowLemmas.{empty_is_table, empty_has_none}
use Rattle.layer_tiles.proofs.table.Table.empty.Goals as goal

pub invariant_of-result : goal.invariant_of-result
invariant_of-result c =
    empty_is_table [] c.in_ok-shared.shared.value 0 (placed_rows c.new-2.result.items) refl (c.in_ok-shared.ensures.ok ∙ c.new-layers.ensures) (ap placed_rows c.new-2.ensures.items) (subst IsBook c.new-layers.ensures c.len.ensures.valid)

pub returns-clause-tiles : goal.returns-clause-tiles
returns-clause-tiles c =
    empty_has_none [] c.in_ok-shared.shared.value 0 (placed_rows c.new-2.result.items) refl (c.in_ok-shared.ensures.ok ∙ c.new-layers.ensures) (ap placed_rows c.new-2.ensures.items)

pub returns-clause-valid : goal.returns-clause-valid
returns-clause-valid c =
    (empty_is_table [] c.in_ok-shared.shared.value 0 (placed_rows c.new-2.result.items) refl (c.in_ok-shared.ensures.ok ∙ c.new-layers.ensures) (ap placed_rows c.new-2.ensures.items) (subst IsBook c.new-layers.ensures c.len.ensures.valid)).laid
