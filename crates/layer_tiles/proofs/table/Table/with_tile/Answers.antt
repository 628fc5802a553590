use Rattle.std.proofs.Common.{◌≡◌, ◌<◌, ◌==◌, ◌&&◌, true, length, get_or, set, [], Some, bytes_eq, if◌then◌else◌, ap, sym, ◌∙◌, subst}
use Rattle.overlay_terms.specs.Column.{column_count}
use Rattle.overlay_terms.specs.Commands.{index_of, stands_as_derived}
use Rattle.overlay_terms.specs.Histories.{tile_at}
use Rattle.tile_build.specs.Tile.{named_pieces, tile_of}
use Rattle.layer_tiles.specs.Table.{Tabled, placed_rows, tiles_in}
use Rattle.layer_tiles.proofs.LookLemmas.{place_known, with_is_table, with_finds}
use Rattle.layer_tiles.proofs.Placed.{by_its_names, placed_with, rows_known}
use Rattle.layer_tiles.proofs.table.Table.with_tile.Goals as goal

pub rows_with-requires : goal.rows_with-requires
rows_with-requires c =
    let v = c.self.inside in
    let derived = subst (λ (l : Tabled). stands_as_derived l.layers c.args.name.now ≡ true) (sym c.self.view_is) c.requires.derived_layer in
    let known = subst (λ k. k < column_count) c.number.ensures.value c.number.ensures.small in
    let index = c.index_of-place.ensures ∙ ap (λ ls. index_of ls c.args.name.now) c.deref.ensures in
    subst (λ rs. c.index_of-place.result < length rs) (sym c.deref-2.ensures.value)
    (rows_known v.rows.items c.index_of-place.result (place_known v.layers.value (placed_rows v.rows.items) c.self.invariant c.args.name.now c.args.column (tile_of c.args.tile.value) derived known c.requires.formed c.index_of-place.result index))

pub invariant_of-result : goal.invariant_of-result
invariant_of-result c =
    let v = c.self.inside in
    let derived = subst (λ (l : Tabled). stands_as_derived l.layers c.args.name.now ≡ true) (sym c.self.view_is) c.requires.derived_layer in
    let known = subst (λ k. k < column_count) c.number.ensures.value c.number.ensures.small in
    let index = c.index_of-place.ensures ∙ ap (λ ls. index_of ls c.args.name.now) c.deref.ensures in
    let same : c.in_ok-shared.shared.value ≡ v.layers.value = c.in_ok-shared.ensures.cases in
    let made = placed_with v.rows.items c.in_ok-rows.rows.items c.index_of-place.result c.args.column (named_pieces c.args.tile.value) (c.in_ok-rows.ensures ∙ ap (λ rs. set rs c.index_of-place.result (set (get_or rs c.index_of-place.result []) c.args.column (Some (named_pieces c.args.tile.value)))) c.deref-2.ensures.value)
    ∙ ap (λ t. set (placed_rows v.rows.items) c.index_of-place.result (set (get_or (placed_rows v.rows.items) c.index_of-place.result []) c.args.column (Some t))) (by_its_names c.args.tile.value) in
    with_is_table v.layers.value (placed_rows v.rows.items) c.self.invariant c.args.name.now c.args.column (tile_of c.args.tile.value) derived known c.requires.formed c.index_of-place.result index
    c.in_ok-shared.shared.value (placed_rows c.in_ok-rows.rows.items) made same

pub returns-clause-tiles : goal.returns-clause-tiles
returns-clause-tiles c =
    let v = c.self.inside in
    let derived = subst (λ (l : Tabled). stands_as_derived l.layers c.args.name.now ≡ true) (sym c.self.view_is) c.requires.derived_layer in
    let known = subst (λ k. k < column_count) c.number.ensures.value c.number.ensures.small in
    let index = c.index_of-place.ensures ∙ ap (λ ls. index_of ls c.args.name.now) c.deref.ensures in
    let same : c.in_ok-shared.shared.value ≡ v.layers.value = c.in_ok-shared.ensures.cases in
    let made = placed_with v.rows.items c.in_ok-rows.rows.items c.index_of-place.result c.args.column (named_pieces c.args.tile.value) (c.in_ok-rows.ensures ∙ ap (λ rs. set rs c.index_of-place.result (set (get_or rs c.index_of-place.result []) c.args.column (Some (named_pieces c.args.tile.value)))) c.deref-2.ensures.value)
    ∙ ap (λ t. set (placed_rows v.rows.items) c.index_of-place.result (set (get_or (placed_rows v.rows.items) c.index_of-place.result []) c.args.column (Some t))) (by_its_names c.args.tile.value) in
    λ other k.
    with_finds v.layers.value (placed_rows v.rows.items) c.self.invariant c.args.name.now c.args.column (tile_of c.args.tile.value) derived known c.requires.formed c.index_of-place.result index
    c.in_ok-shared.shared.value (placed_rows c.in_ok-rows.rows.items) made same other k
    ∙ ap (λ (l : Tabled). if bytes_eq c.args.name.now other && (c.args.column == k) then Some (tile_of c.args.tile.value) else tile_at (tiles_in l) other k) c.self.view_is

pub returns-clause-valid : goal.returns-clause-valid
returns-clause-valid c =
    let v = c.self.inside in
    let derived = subst (λ (l : Tabled). stands_as_derived l.layers c.args.name.now ≡ true) (sym c.self.view_is) c.requires.derived_layer in
    let known = subst (λ k. k < column_count) c.number.ensures.value c.number.ensures.small in
    let index = c.index_of-place.ensures ∙ ap (λ ls. index_of ls c.args.name.now) c.deref.ensures in
    let same : c.in_ok-shared.shared.value ≡ v.layers.value = c.in_ok-shared.ensures.cases in
    let made = placed_with v.rows.items c.in_ok-rows.rows.items c.index_of-place.result c.args.column (named_pieces c.args.tile.value) (c.in_ok-rows.ensures ∙ ap (λ rs. set rs c.index_of-place.result (set (get_or rs c.index_of-place.result []) c.args.column (Some (named_pieces c.args.tile.value)))) c.deref-2.ensures.value)
    ∙ ap (λ t. set (placed_rows v.rows.items) c.index_of-place.result (set (get_or (placed_rows v.rows.items) c.index_of-place.result []) c.args.column (Some t))) (by_its_names c.args.tile.value) in
    (with_is_table v.layers.value (placed_rows v.rows.items) c.self.invariant c.args.name.now c.args.column (tile_of c.args.tile.value) derived known c.requires.formed c.index_of-place.result index
    c.in_ok-shared.shared.value (placed_rows c.in_ok-rows.rows.items) made same).laid
