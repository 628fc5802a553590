use Rattle.std.proofs.Common.{◌≡◌, List, Result, Ok, Err, refl, ◌∙◌, sym, subst}
use Rattle.std.specs.Prelude.{OnOk}
use Rattle.std.proofs.lemmas.Result.{IfErr-weaker}
use Rattle.overlay_terms.specs.Layers.{Layer}
use Rattle.layer_tiles.specs.Table.{tiles_in}
use Rattle.store_terms.specs.Image.{tiles_from_column}
use Rattle.root_reading.specs.Looking.{Refuses}
use Rattle.root_reading.specs.LayerReading.{layers_with_derived, then_tiles}
use Rattle.root_reading.proofs.LayerReadingLemmas.{derived_added, derived_refused}
use Rattle.root_reading.proofs.contents.add_derived.Goals as goal

-- of two facts of a call that succeeds follows a third
on_both : {T E P Q R : Type 0} (r : Result T E) → (P → Q → R) → OnOk r P → OnOk r Q → OnOk r R
on_both (Ok x) so p q = so p q
on_both (Err e) so p q = tt

pub returns-clause-adds : goal.returns-clause-adds
returns-clause-adds g c honest =
    let k = g.D.Disk in
    let looks = c.with_derived.ensures.looks.looks honest in
    let longer = c.in_ok-longer.longer in
    let layers = c.in_ok-layers.layers in
    let entries = c.args.entries.now in
    let file = k.seen c.args.disk.now in
    let there = subst (λ (ls : List Layer). layers_with_derived file ls c.args.name.now c.args.extent ≡ Ok layers) c.layers.ensures.value
    (c.in_ok-layers.ensures.gives honest) in
    let read : then_tiles (tiles_in longer) (tiles_from_column (k.seen c.with_derived.new.disk) c.in_ok-own.own 0 entries)
    ≡ then_tiles (tiles_in c.args.table.now) (tiles_from_column file c.args.name.now 0 entries) =
    (λ i. then_tiles (c.in_ok-longer.ensures.tiles i) (tiles_from_column (looks.seen i) (c.in_ok-own.ensures.ok i) 0 entries)) in
    on_both c.add_tiles.result
    (λ adds same. derived_added file c.args.table.now.layers layers c.add_tiles.new.table.layers (tiles_in c.args.table.now) c.args.name.now
    c.args.extent (same ∙ c.in_ok-longer.ensures.layers) entries there (tiles_in c.add_tiles.new.table) (sym read ∙ adds))
    (c.add_tiles.ensures.adds looks.honest) c.add_tiles.ensures.layers

pub returns-clause-refuses : goal.returns-clause-refuses
returns-clause-refuses g c honest =
    let k = g.D.Disk in
    let looks = c.with_derived.ensures.looks.looks honest in
    let longer = c.in_ok-longer.longer in
    let layers = c.in_ok-layers.layers in
    let entries = c.args.entries.now in
    let file = k.seen c.args.disk.now in
    let there = subst (λ (ls : List Layer). layers_with_derived file ls c.args.name.now c.args.extent ≡ Ok layers) c.layers.ensures.value
    (c.in_ok-layers.ensures.gives honest) in
    let read : then_tiles (tiles_in longer) (tiles_from_column (k.seen c.with_derived.new.disk) c.in_ok-own.own 0 entries)
    ≡ then_tiles (tiles_in c.args.table.now) (tiles_from_column file c.args.name.now 0 entries) =
    (λ i. then_tiles (c.in_ok-longer.ensures.tiles i) (tiles_from_column (looks.seen i) (c.in_ok-own.ensures.ok i) 0 entries)) in
    IfErr-weaker c.add_tiles.result _ _
    (λ e refuses. derived_refused file c.args.table.now.layers layers layers (tiles_in c.args.table.now) c.args.name.now
    c.args.extent refl entries there e (subst (Refuses e) read refuses))
    (c.add_tiles.ensures.refuses looks.honest)
