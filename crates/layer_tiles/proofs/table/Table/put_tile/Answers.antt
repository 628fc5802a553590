use Rattle.std.proofs.Common.{◌≡◌, ◌<◌, ◌==◌, ◌&&◌, true, length, get_or, set, [], Some, bytes_eq, if◌then◌else◌, refl, ap, sym, ◌∙◌, subst}
use Rattle.overlay_terms.specs.Column.{column_count}
use Rattle.overlay_terms.specs.Commands.{index_of, stands_as_derived}
use Rattle.overlay_terms.specs.Histories.{tile_at}
use Rattle.tile_build.specs.Tile.{named_pieces, tile_of}
use Rattle.layer_tiles.specs.Table.{Tabled, placed_rows, tiles_in, IsTable}
use Rattle.layer_tiles.proofs.LookLemmas.{place_known, with_is_table, with_finds}
use Rattle.layer_tiles.proofs.Placed.{by_its_names, placed_with, rows_known}
use Rattle.layer_tiles.proofs.table.Table.put_tile.Goals as goal

pub put_in_row-requires : goal.put_in_row-requires
put_in_row-requires c =
    let v = c.self.inside in
    let derived = subst (λ (l : Tabled). stands_as_derived l.layers c.args.name.now ≡ true) (sym c.self.view_is) c.requires.derived_layer in
    let known = subst (λ k. k < column_count) c.number.ensures.value c.number.ensures.small in
    let index = c.index_of-place.ensures ∙ ap (λ ls. index_of ls c.args.name.now) c.deref.ensures in
    rows_known v.rows.items c.index_of-place.result (place_known v.layers.value (placed_rows v.rows.items) c.self.invariant c.args.name.now c.args.column (tile_of c.args.tile.value) derived known c.requires.formed c.index_of-place.result index)

-- where memory runs out, the rows are as they were
pub invariant_of-self : goal.invariant_of-self
invariant_of-self c = subst (λ rs. IsTable c.self.inside.layers.value (placed_rows rs)) (sym c.in_err-put_in_row.ensures.err) c.self.invariant

pub invariant_of-self-2 : goal.invariant_of-self-2
invariant_of-self-2 c =
    let v = c.self.inside in
    let derived = subst (λ (l : Tabled). stands_as_derived l.layers c.args.name.now ≡ true) (sym c.self.view_is) c.requires.derived_layer in
    let known = subst (λ k. k < column_count) c.number.ensures.value c.number.ensures.small in
    let index = c.index_of-place.ensures ∙ ap (λ ls. index_of ls c.args.name.now) c.deref.ensures in
    let made = placed_with v.rows.items c.put_in_row.new.rows.items c.index_of-place.result c.args.column (named_pieces c.args.tile.value) c.in_ok-put_in_row.ensures.ok
    ∙ ap (λ t. set (placed_rows v.rows.items) c.index_of-place.result (set (get_or (placed_rows v.rows.items) c.index_of-place.result []) c.args.column (Some t))) (by_its_names c.args.tile.value) in
    with_is_table v.layers.value (placed_rows v.rows.items) c.self.invariant c.args.name.now c.args.column (tile_of c.args.tile.value) derived known c.requires.formed c.index_of-place.result index
    v.layers.value (placed_rows c.put_in_row.new.rows.items) made refl

pub returns-clause-tiles : goal.returns-clause-tiles
returns-clause-tiles c =
    let v = c.self.inside in
    let derived = subst (λ (l : Tabled). stands_as_derived l.layers c.args.name.now ≡ true) (sym c.self.view_is) c.requires.derived_layer in
    let known = subst (λ k. k < column_count) c.number.ensures.value c.number.ensures.small in
    let index = c.index_of-place.ensures ∙ ap (λ ls. index_of ls c.args.name.now) c.deref.ensures in
    let made = placed_with v.rows.items c.put_in_row.new.rows.items c.index_of-place.result c.args.column (named_pieces c.args.tile.value) c.in_ok-put_in_row.ensures.ok
    ∙ ap (λ t. set (placed_rows v.rows.items) c.index_of-place.result (set (get_or (placed_rows v.rows.items) c.index_of-place.result []) c.args.column (Some t))) (by_its_names c.args.tile.value) in
    λ other k.
    with_finds v.layers.value (placed_rows v.rows.items) c.self.invariant c.args.name.now c.args.column (tile_of c.args.tile.value) derived known c.requires.formed c.index_of-place.result index
    v.layers.value (placed_rows c.put_in_row.new.rows.items) made refl other k
    ∙ ap (λ (l : Tabled). if bytes_eq c.args.name.now other && (c.args.column == k) then Some (tile_of c.args.tile.value) else tile_at (tiles_in l) other k) c.self.view_is

pub returns-clause-valid : goal.returns-clause-valid
returns-clause-valid c =
    let v = c.self.inside in
    let derived = subst (λ (l : Tabled). stands_as_derived l.layers c.args.name.now ≡ true) (sym c.self.view_is) c.requires.derived_layer in
    let known = subst (λ k. k < column_count) c.number.ensures.value c.number.ensures.small in
    let index = c.index_of-place.ensures ∙ ap (λ ls. index_of ls c.args.name.now) c.deref.ensures in
    let made = placed_with v.rows.items c.put_in_row.new.rows.items c.index_of-place.result c.args.column (named_pieces c.args.tile.value) c.in_ok-put_in_row.ensures.ok
    ∙ ap (λ t. set (placed_rows v.rows.items) c.index_of-place.result (set (get_or (placed_rows v.rows.items) c.index_of-place.result []) c.args.column (Some t))) (by_its_names c.args.tile.value) in
    (with_is_table v.layers.value (placed_rows v.rows.items) c.self.invariant c.args.name.now c.args.column (tile_of c.args.tile.value) derived known c.requires.formed c.index_of-place.result index
    v.layers.value (placed_rows c.put_in_row.new.rows.items) made refl).laid
