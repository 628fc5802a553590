use Rattle.std.proofs.Common.{◌≡◌, length, map, take, ap, sym, ◌∙◌, arith}
use Rattle.layer_book.proofs.Lines.{none_there}
use Rattle.tile_build.specs.Tile.{finished_of}
use Rattle.layer_tiles.specs.Table.{placed_rows, tiles_of}
use Rattle.layer_tiles.proofs.FillingLemmas.{layer_more, tiles_whole}
use Rattle.layer_tiles.proofs.table.Table.all_tiles.Goals as goal
use Rattle.layer_tiles.proofs.table.Table.all_tiles.Goals.{in-Some+in_ok-add_row, in_default}

pub loop-place-preserved : goal.loop-place-preserved
loop-place-preserved c =
    let table = c.args.self.now in
    let i = c.loop-place.place in
    elim c.match-at.branch [
      | in-Some+in_ok-add_row w ↦
          ap (λ v. map finished_of v.items) w.list-is
          ∙ layer_more table.layers table.rows i _ w.in-Some.row.now (map finished_of c.loop-place.list.items) _ (sym w.in-Some.ensures.layer) (sym w.in-Some.ensures.row) c.loop-place.invariant w.in_ok-add_row.ensures
      | in_default w ↦ absurd (none_there table.layers i (omega (arith, c.len-place-end.ensures.value, ap length c.layers.ensures.value)) w.in_default.ensures.layer)
    ]

pub returns : goal.returns
returns c =
    let table = c.args.self.now in
    let all : c.loop-place.place ≡ length table.layers = omega (arith, c.len-place-end.ensures.value, ap length c.layers.ensures.value) in
    c.loop-place.invariant ∙ ap (λ n. tiles_of (take n table.layers) (take n (placed_rows table.rows))) all ∙ tiles_whole table.layers (placed_rows table.rows)
