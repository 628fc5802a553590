use Rattle.std.proofs.Common.{◌++◌, ◌∷◌, [], sym, ap, subst, ◌∙◌}
use Rattle.overlay_terms.specs.Column.{column_count}
use Rattle.layer_tiles.specs.Filling.{IsLonger}
use Rattle.layer_tiles.specs.Table.{Tabled, places_in, placed_rows, tiles_in}
use Rattle.layer_tiles.proofs.FillingLemmas.{longer_is_table, longer_tiles}
use Rattle.layer_tiles.proofs.Placed.{placed_more, places_none}
use Rattle.layer_tiles.proofs.table.Table.with_row.Goals as goal

pub invariant_of-result : goal.invariant_of-result
invariant_of-result c =
    let v = c.self.inside in
    let more = subst (λ (t : Tabled). IsLonger t.layers c.args.layers) (sym c.self.view_is) c.requires.more in
    let pushed = placed_more v.rows.items c.push.new.self.items c.args.bare (c.in_ok-push.ensures.items ∙ ap (λ rs. rs ++ c.args.bare ∷ []) (c.in_ok-rows.ensures ∙ c.deref.ensures.value))
    ∙ ap (λ r. placed_rows v.rows.items ++ r ∷ []) (ap (λ r. places_in r) c.requires.bare ∙ places_none column_count) in
    longer_is_table v.layers.value c.args.layers c.in_ok-shared.shared.value (placed_rows v.rows.items) (placed_rows c.push.new.self.items) c.self.invariant more c.len.ensures.valid c.in_ok-shared.ensures.ok pushed

pub returns-clause-tiles : goal.returns-clause-tiles
returns-clause-tiles c =
    let v = c.self.inside in
    let more = subst (λ (t : Tabled). IsLonger t.layers c.args.layers) (sym c.self.view_is) c.requires.more in
    let pushed = placed_more v.rows.items c.push.new.self.items c.args.bare (c.in_ok-push.ensures.items ∙ ap (λ rs. rs ++ c.args.bare ∷ []) (c.in_ok-rows.ensures ∙ c.deref.ensures.value))
    ∙ ap (λ r. placed_rows v.rows.items ++ r ∷ []) (ap (λ r. places_in r) c.requires.bare ∙ places_none column_count) in
    longer_tiles v.layers.value c.args.layers c.in_ok-shared.shared.value (placed_rows v.rows.items) (placed_rows c.push.new.self.items) c.self.invariant more c.len.ensures.valid c.in_ok-shared.ensures.ok pushed
    ∙ ap tiles_in c.self.view_is

pub returns-clause-valid : goal.returns-clause-valid
returns-clause-valid c =
    let v = c.self.inside in
    let more = subst (λ (t : Tabled). IsLonger t.layers c.args.layers) (sym c.self.view_is) c.requires.more in
    let pushed = placed_more v.rows.items c.push.new.self.items c.args.bare (c.in_ok-push.ensures.items ∙ ap (λ rs. rs ++ c.args.bare ∷ []) (c.in_ok-rows.ensures ∙ c.deref.ensures.value))
    ∙ ap (λ r. placed_rows v.rows.items ++ r ∷ []) (ap (λ r. places_in r) c.requires.bare ∙ places_none column_count) in
    (longer_is_table v.layers.value c.args.layers c.in_ok-shared.shared.value (placed_rows v.rows.items) (placed_rows c.push.new.self.items) c.self.invariant more c.len.ensures.valid c.in_ok-shared.ensures.ok pushed).laid
