use Rattle.std.proofs.Common.{◌≡◌, List, Option, Some, None, slice_get, ap, sym, ◌∙◌, subst}
use Rattle.std.specs.Option.{option_map}
use Rattle.std.proofs.lemmas.Option.{slice_get-map}
use Rattle.layer_tiles.specs.TileCode.{Named}
use Rattle.layer_tiles.specs.Table.{laid, places_in, placed_rows, Tabled}
use Rattle.layer_tiles.proofs.LookLemmas.{row_there, row_read, row_missed, row_of_table}
use Rattle.layer_tiles.proofs.table.Table.row.Goals as goal

pub returns-in-Some-clause-value : goal.returns-in-Some-clause-value
returns-in-Some-clause-value c =
    let rows = c.deref.result.now in
    let row = c.in-Some.row.now in
    subst (λ (t : Tabled). Some row ≡ slice_get t.rows c.args.place) c.self.view_is
    (row_read rows c.args.place row c.in-Some.ensures.lookup.3.0 c.in-Some.ensures.lookup.1 ∙ ap (λ rs. slice_get rs c.args.place) c.deref.ensures.value)

pub returns-in-Some-clause-places : goal.returns-in-Some-clause-places
returns-in-Some-clause-places c =
    let v = c.self.inside in
    let rows = c.deref.result.now in
    let row = c.in-Some.row.now in
    let read : Some row ≡ slice_get v.rows.items c.args.place =
    row_read rows c.args.place row c.in-Some.ensures.lookup.3.0 c.in-Some.ensures.lookup.1 ∙ ap (λ rs. slice_get rs c.args.place) c.deref.ensures.value in
    subst (λ (t : Tabled). Some (places_in row) ≡ row_there (laid t) c.args.place) c.self.view_is
    (ap (λ (o : Option (List (Option Named))). option_map (λ r. places_in r) o) read ∙ sym (slice_get-map (λ r. places_in r) v.rows.items c.args.place)
    ∙ row_of_table v.layers.value (placed_rows v.rows.items) c.args.place c.self.invariant)

pub returns-in-None-clause-value : goal.returns-in-None-clause-value
returns-in-None-clause-value c =
    let rows = c.deref.result.now in
    subst (λ (t : Tabled). None ≡ slice_get t.rows c.args.place) c.self.view_is
    (row_missed rows c.args.place c.in-None.ensures.lookup.3 ∙ ap (λ rs. slice_get rs c.args.place) c.deref.ensures.value)

pub returns-in-None-clause-places : goal.returns-in-None-clause-places
returns-in-None-clause-places c =
    let v = c.self.inside in
    let rows = c.deref.result.now in
    let missed : None ≡ slice_get v.rows.items c.args.place =
    row_missed rows c.args.place c.in-None.ensures.lookup.3 ∙ ap (λ rs. slice_get rs c.args.place) c.deref.ensures.value in
    subst (λ (t : Tabled). None ≡ row_there (laid t) c.args.place) c.self.view_is
    (ap (λ (o : Option (List (Option Named))). option_map (λ r. places_in r) o) missed ∙ sym (slice_get-map (λ r. places_in r) v.rows.items c.args.place)
    ∙ row_of_table v.layers.value (placed_rows v.rows.items) c.args.place c.self.invariant)
