-- What an old root holds has no tiles.
use Rattle.std.proofs.Common.{◌≡◌, inl, inr, ℕ, ◌+◌, zero, suc, Bool, true, List, [], ◌∷◌, ◌++◌, map, replicate, Option, Some, None, Ok, sym, ap, ◌∙◌}
use Rattle.std.specs.Option.{option_map}
use Rattle.overlay_terms.specs.Column.{column_count}
use Rattle.overlay_terms.specs.Layers.{Name, base, derived, Layer}
use Rattle.overlay_terms.specs.Histories.{Finished}
use Rattle.store_terms.specs.declared.damage.Damage.TheVariants.{CatalogPlace, CatalogForm, RecordPlace, LayerForm, Overlap}
use Rattle.store_terms.specs.declared.root.Root.{Root}
use Rattle.store_terms.specs.Fields.{all_read}
use Rattle.store_terms.specs.BaseRecord.{base_of_record}
use Rattle.store_terms.specs.DefinitionRecord.{definition_of_record}
use Rattle.store_terms.specs.Catalog.{Records, Listed, catalog, old_column_count, pending_records, without_tiles, catalog_of_record}
use Rattle.store_terms.specs.Places.{all_apart, extents_listed}
use Rattle.store_terms.specs.Image.{or_fault, placed_bytes, with_layer, tiles_from_column, layer_of, layers_of, Held, listing_of, held_by}
use Rattle.store_terms.specs.RecordLaws.{OldHasNoTiles}
use Rattle.store_terms.proofs.HeldLemmas.{ok_bound, no_fault, found, same_ok, tested_ok}

no_entry : (file : List ℕ) (name : Name) (k n : ℕ) (tiles : List Finished) → tiles_from_column file name k (replicate n None) ≡ Ok tiles → tiles ≡ []
no_entry file name k zero tiles h = sym (same_ok [] tiles h)
no_entry file name k (suc n) tiles h = no_entry file name (k + 1) n tiles h

abbrev tiles_in : List Layer × List Finished → List Finished
tiles_in x = x.1

layer_bare : (file : List ℕ) (known : List Layer) (name : Name) (records : Records) (x : List Layer × List Finished)
    → layer_of file known name (pending_records records) ≡ Ok x → x.1 ≡ []
layer_bare file known name (inl e) x h =
    let a = ok_bound (placed_bytes RecordPlace file e) _ x h in
    let b = ok_bound (or_fault LayerForm (base_of_record a.0)) _ x a.2 in
    let c = ok_bound (with_layer known name (base b.0)) _ x b.2 in
    ap tiles_in (sym (same_ok (c.0, []) x c.2))
layer_bare file known name (inr both) x h =
    let a = ok_bound (placed_bytes RecordPlace file both.0) _ x h in
    let b = ok_bound (or_fault LayerForm (definition_of_record a.0)) _ x a.2 in
    let c = ok_bound (with_layer known name (derived b.0)) _ x b.2 in
    let d = ok_bound (tiles_from_column file name 0 (replicate column_count None)) (λ (finished : List Finished). found (c.0, finished)) x c.2 in
    ap tiles_in (sym (same_ok (c.0, d.0) x d.2)) ∙ no_entry file name 0 column_count d.0 d.1

layers_bare : (file : List ℕ) (known : List Layer) (ls : List Listed) (x : List Layer × List Finished)
    → layers_of file known (map without_tiles ls) ≡ Ok x → x.1 ≡ []
layers_bare file known [] x h = ap tiles_in (sym (same_ok (known, []) x h))
layers_bare file known (l ∷ ls) x h =
    let a = ok_bound (layer_of file known l.name (pending_records l.records)) _ x h in
    let b = ok_bound (layers_of file a.0.0 (map without_tiles ls)) _ x a.2 in
    ap tiles_in (sym (same_ok (b.0.0, a.0.1 ++ b.0.1) x b.2))
    ∙ ap (λ (first : List Finished). first ++ b.0.1) (layer_bare file known l.name l.records a.0 a.1)
    ∙ layers_bare file a.0.0 ls b.0 b.1

mapped : {A B : Type 0} (f : A → B) (o : Option A) (y : B) → option_map f o ≡ Some y → (x : A) × (f x ≡ y)
mapped f (Some x) y h = (x, cc)
mapped f None y h = absurd cc

-- the listing of an old root is one without tiles
listing_bare : (file : List ℕ) (r : Root) (listing : List Listed) → r.is_old ≡ true → listing_of file r ≡ Ok listing
    → (ls : List Listed) × (map without_tiles ls ≡ listing)
unfolding listing_of
listing_bare file r listing old h =
    let a = ok_bound (placed_bytes CatalogPlace file r.catalog) (λ bytes. or_fault CatalogForm (catalog_of_record r.is_old bytes)) listing h in
    let some : catalog_of_record true a.0 ≡ Some listing =
    ap (λ (is_old : Bool). catalog_of_record is_old a.0) (sym old) ∙ no_fault CatalogForm (catalog_of_record r.is_old a.0) listing a.2 in
    mapped (map without_tiles) (all_read (catalog old_column_count) a.0) listing some

pub old_has_no_tiles : OldHasNoTiles
old_has_no_tiles file r x old h =
    let b = ok_bound (listing_of file r) (held_by file r) x h in
    let all = ok_bound (layers_of file [] b.0) _ x b.2 in
    let t = tested_ok (all_apart (r.catalog ∷ extents_listed b.0)) Overlap (record { number = r.version; layers = all.0.0; tiles = all.0.1 }) x all.2 in
    let bare = listing_bare file r b.0 old b.1 in
    ap (λ (y : Held). y.tiles) (sym t.1)
    ∙ layers_bare file [] bare.0 all.0 (ap (layers_of file []) bare.1 ∙ all.1)
