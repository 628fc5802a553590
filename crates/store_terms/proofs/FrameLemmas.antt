-- A file is read through the extents that its root names.
use Rattle.std.proofs.Common.{◌≡◌, inl, inr, ℕ, ◌+◌, cond, List, [], ◌∷◌, ◌++◌, Option, Some, None, Result, Ok, Err, refl, ap, ◌∙◌}
use Rattle.std.specs.List.{AllByRecursion}
use Rattle.overlay_terms.specs.Layers.{Name, base, derived, Layer}
use Rattle.overlay_terms.specs.Histories.{Finished}
use Rattle.store_terms.specs.declared.damage.Damage.{Damage}
use Rattle.store_terms.specs.declared.damage.Damage.TheVariants.{CatalogPlace, CatalogForm, RecordPlace, LayerForm, TileForm, Overlap}
use Rattle.store_terms.specs.BaseRecord.{base_of_record}
use Rattle.store_terms.specs.DefinitionRecord.{definition_of_record}
use Rattle.store_terms.specs.TileRecord.{tile_of_record}
use Rattle.store_terms.specs.declared.root.RecordExtent.{RecordExtent}
use Rattle.store_terms.specs.Catalog.{Records, Listed, catalog_of_record}
use Rattle.store_terms.specs.Places.{some_extents, extents_of_records, extents_listed, all_apart}
use Rattle.store_terms.specs.declared.root.Root.{Root}
use Rattle.store_terms.specs.Image.{◌>>=◌, or_fault, placed_bytes, with_layer, tiles_from_column, layer_of, layers_of, listing_of, held_by}
use Rattle.store_terms.specs.Frame.{IsSameAt, listed_extents, ElsewhereHasNoMeaning}

same_bytes : (fault : Damage) (old new : List ℕ) (e : RecordExtent) → IsSameAt old new e → placed_bytes fault new e ≡ placed_bytes fault old e
same_bytes fault old new e same = λ i. cond (same.placed i) (Ok (same.bytes i)) (Err fault)

-- facts on the members of two lists
all_front : (P : RecordExtent → Type 0) (xs ys : List RecordExtent) → AllByRecursion P (xs ++ ys) → AllByRecursion P xs
all_front P [] ys all = tt
all_front P (x ∷ xs) ys all = (all.0, all_front P xs ys all.1)

all_back : (P : RecordExtent → Type 0) (xs ys : List RecordExtent) → AllByRecursion P (xs ++ ys) → AllByRecursion P ys
all_back P [] ys all = all
all_back P (x ∷ xs) ys all = all_back P xs ys all.1

same_tiles : (old new : List ℕ) (name : Name) (k : ℕ) (es : List (Option RecordExtent)) → AllByRecursion (IsSameAt old new) (some_extents es) → tiles_from_column new name k es ≡ tiles_from_column old name k es
same_tiles old new name k [] same = refl
same_tiles old new name k (None ∷ es) same = same_tiles old new name (k + 1) es same
same_tiles old new name k (Some e ∷ es) same =
    let first = same_bytes RecordPlace old new e same.0 in
    let rest = same_tiles old new name (k + 1) es same.1 in
    λ i. first i >>= λ bytes. or_fault TileForm (tile_of_record k bytes) >>= λ tile. rest i >>= λ tiles. Ok (record { name = name; column = k; tile = tile } ∷ tiles)

same_layer : (old new : List ℕ) (known : List Layer) (name : Name) (records : Records) → AllByRecursion (IsSameAt old new) (extents_of_records records) → layer_of new known name records ≡ layer_of old known name records
same_layer old new known name (inl e) same =
    let first = same_bytes RecordPlace old new e same.0 in
    λ i. first i >>= λ bytes. or_fault LayerForm (base_of_record bytes) >>= λ rings. with_layer known name (base rings) >>= λ layers. Ok (layers, [])
same_layer old new known name (inr both) same =
    let first = same_bytes RecordPlace old new both.0 same.0 in
    let tiles = same_tiles old new name 0 both.1 same.1 in
    λ i. first i >>= λ bytes. or_fault LayerForm (definition_of_record bytes) >>= λ expression. with_layer known name (derived expression) >>= λ layers. tiles i >>= λ finished. Ok (layers, finished)

same_layers : (old new : List ℕ) (known : List Layer) (ls : List Listed) → AllByRecursion (IsSameAt old new) (extents_listed ls) → layers_of new known ls ≡ layers_of old known ls
same_layers old new known [] same = refl
same_layers old new known (l ∷ ls) same =
    let first = same_layer old new known l.name l.records (all_front (IsSameAt old new) (extents_of_records l.records) (extents_listed ls) same) in
    let rest : (layers : List Layer) → layers_of new layers ls ≡ layers_of old layers ls = λ layers. same_layers old new layers ls (all_back (IsSameAt old new) (extents_of_records l.records) (extents_listed ls) same) in
    λ i. first i >>= λ one. rest one.0 i >>= λ more. Ok (more.0, one.1 ++ more.1)

pub same_listing : (old new : List ℕ) (r : Root) → IsSameAt old new r.catalog → listing_of new r ≡ listing_of old r
unfolding listing_of
same_listing old new r same = ap (λ (b : Result (List ℕ) Damage). b >>= λ bytes. or_fault CatalogForm (catalog_of_record r.is_old bytes)) (same_bytes CatalogPlace old new r.catalog same)

same_held : (old new : List ℕ) (r : Root) (listing : Result (List Listed) Damage) → AllByRecursion (IsSameAt old new) (listed_extents listing) → (listing >>= held_by new r) ≡ (listing >>= held_by old r)
same_held old new r (Err fault) same = refl
same_held old new r (Ok listing) same =
    ap (λ (held : Result (List Layer × List Finished) Damage). held >>= λ h. cond (all_apart (r.catalog ∷ extents_listed listing)) (Ok (record { number = r.version; layers = h.0; tiles = h.1 })) (Err Overlap)) (same_layers old new [] listing same)

pub elsewhere_has_no_meaning : ElsewhereHasNoMeaning
elsewhere_has_no_meaning old new r same =
    let listing = same_listing old new r same.0 in (
      ap (λ (l : Result (List Listed) Damage). l >>= held_by new r) listing ∙ same_held old new r (listing_of old r) same.1,
      ap (λ (l : Result (List Listed) Damage). r.catalog ∷ listed_extents l) listing,
    )
