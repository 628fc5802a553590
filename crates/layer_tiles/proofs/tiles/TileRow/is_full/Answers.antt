use Rattle.std.proofs.Common.{is_some, nat_eq, ap, ◌∙◌}
use Rattle.std.specs.List.{list_all}
use Rattle.layer_tiles.specs.Table.{row_of}
use Rattle.layer_tiles.proofs.LateLemmas.{full_when}
use Rattle.layer_tiles.proofs.tiles.TileRow.is_full.Goals as goal

pub returns : goal.returns
returns c = ap (λ n. nat_eq n 0) c.self.invariant.told ∙ full_when (row_of c.self.inside.parts.value) ∙ ap (λ row. list_all is_some row) c.self.view_is
