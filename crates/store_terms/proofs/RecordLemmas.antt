-- Definition and tile records, and the places of what is read.
use Rattle.std.proofs.Common.{◌≡◌, inl, inr, ℕ, ◌+◌, nat_le, Bool, true, false, cond, eqb, ◌&&◌, List, [], ◌∷◌, ◌++◌, length, Option, Some, None, Result, Ok, Err, refl, sym, ap, subst, ◌∙◌}
use Rattle.std.specs.Prelude.{bytes_eq}
use Rattle.std.specs.List.{list_all, AllByRecursion}
use Rattle.std.proofs.lemmas.Bool.{and_parts, and_from, cond-true, leb-true, le-leb, eqb-true, eq-eqb}
use Rattle.std.proofs.lemmas.Option.{cond_some}
use Rattle.overlay_terms.specs.Trees.{Tree, leaves}
use Rattle.overlay_terms.specs.Layers.{Name, derived, Layer}
use Rattle.overlay_terms.specs.Histories.{Tile, Finished}
use Rattle.overlay_terms.proofs.NameLemmas.{same_name, name_itself}
use Rattle.layer_expr.specs.Name.{is_name}
use Rattle.layer_expr.specs.Token.{tokens_of}
use Rattle.layer_expr.specs.Grammar.{Written, written_kinds, written_tree, kinds_of, tokens_max}
use Rattle.layer_expr.specs.Spelling.{canonical, expression_text, IsExpression}
use Rattle.layer_expr.specs.ReaderState.{ReaderState, written_making, finished}
use Rattle.layer_expr.proofs.ReaderStateLemmas.{read_whole, plus-whole}
use Rattle.layer_expr.proofs.SpellingLemmas.{reads_back}
use Rattle.store_terms.specs.declared.damage.Damage.{Damage}
use Rattle.store_terms.specs.declared.damage.Damage.TheVariants.{CatalogPlace, RecordPlace, LayerForm, TileForm}
use Rattle.store_terms.specs.Fields.{◌>>?◌, all_read}
use Rattle.store_terms.specs.DefinitionRecord.{is_expression, written_of, spelled_tree, definition_of_record}
use Rattle.store_terms.specs.TileRecord.{NamedTile, column_of_tile, tile_by_places, named_tile, tile_of_record, IsTileRecord}
use Rattle.store_terms.specs.declared.root.RecordExtent.{RecordExtent}
use Rattle.store_terms.specs.Catalog.{Records, Listed}
use Rattle.store_terms.specs.Places.{bytes_at, is_placed, some_extents, extents_of_records, extents_listed}
use Rattle.store_terms.specs.Image.{or_fault, placed_bytes, with_layer, tiles_from_column, layer_of, layers_of, listing_of, held_by}
use Rattle.store_terms.specs.Image as image
use Rattle.store_terms.specs.Frame.{listed_extents}
use Rattle.store_terms.specs.RecordLaws.{DefinitionIsItsText, TileIsNamed, HeldIsPlaced}
use Rattle.store_terms.proofs.FieldLemmas.{bound, whole_takes, whole_again}
use Rattle.store_terms.proofs.LayoutLemmas.{named_tile_is}

-- ---- definitions

definition_again : (tree : Tree Name) → IsExpression tree → definition_of_record (expression_text tree) ≡ Some tree
definition_again tree is =
    let reads = reads_back tree is in
    let w = reads.0 in
    let found : written_of (written_kinds w) ≡ Some w =
    ap (λ (s : Option (ReaderState Written)). s >>? λ t. finished written_making t) (read_whole w reads.1.grouped) ∙ ap Some (plus-whole w) in
    let small : nat_le (length (written_kinds (canonical tree))) tokens_max ≡ true = le-leb _ _ is.1 in
    let test : (is_expression tree && bytes_eq (expression_text tree) (expression_text tree)) ≡ true =
    and_from _ _ (and_from (list_all is_name (leaves tree)) (nat_le (length (written_kinds (canonical tree))) tokens_max) is.0 small) (name_itself (expression_text tree)) in
    ap (λ ks. written_of ks >>? λ x. spelled_tree (expression_text tree) (written_tree x)) reads.1.spelled
    ∙ ap (λ (o : Option Written). o >>? λ x. spelled_tree (expression_text tree) (written_tree x)) found
    ∙ ap (spelled_tree (expression_text tree)) (sym reads.3)
    ∙ cond-true _ (Some tree) None test

definition_takes : (bytes : List ℕ) (tree : Tree Name) → definition_of_record bytes ≡ Some tree → IsExpression tree × (bytes ≡ expression_text tree)
definition_takes bytes tree e =
    let w = bound (written_of (kinds_of (tokens_of bytes))) (λ x. spelled_tree bytes (written_tree x)) tree e in
    let passed = cond_some (is_expression (written_tree w.0) && bytes_eq (expression_text (written_tree w.0)) bytes) (written_tree w.0) tree w.2 in
    let parts = and_parts (is_expression (written_tree w.0)) (bytes_eq (expression_text (written_tree w.0)) bytes) passed.0 in
    let both = and_parts (list_all is_name (leaves (written_tree w.0))) (nat_le (length (written_kinds (canonical (written_tree w.0)))) tokens_max) parts.0 in
    subst (λ (t : Tree Name). IsExpression t × (bytes ≡ expression_text t)) passed.1
    ((both.0, leb-true _ _ both.1), sym (same_name (expression_text (written_tree w.0)) bytes parts.1))

pub definition_is_its_text : DefinitionIsItsText
definition_is_its_text bytes tree =
    (λ e. definition_takes bytes tree e, λ h. subst (λ (b : List ℕ). definition_of_record b ≡ Some tree) (sym h.1) (definition_again tree h.0))

-- ---- tiles

-- the record of a tile is read again
pub tile_again : (k : ℕ) (bytes : List ℕ) (tile : Tile) → IsTileRecord k tile bytes → tile_of_record k bytes ≡ Some tile
tile_again k bytes tile r =
    let found : all_read named_tile bytes ≡ Some r.named = ap (all_read named_tile) r.spelled ∙ whole_again named_tile named_tile_is r.named r.fits in
    ap (λ (o : Option NamedTile). o >>? λ t. cond (eqb (column_of_tile t) k) (Some (tile_by_places t)) None) found
    ∙ cond-true (eqb (column_of_tile r.named) k) (Some (tile_by_places r.named)) None (eq-eqb (column_of_tile r.named) k r.column) ∙ ap Some r.is

pub tile_is_named : TileIsNamed
tile_is_named k bytes tile are = (
  λ e.
      let t = bound (all_read named_tile bytes) (λ t. cond (eqb (column_of_tile t) k) (Some (tile_by_places t)) None) tile e in
      let passed = cond_some (eqb (column_of_tile t.0) k) (tile_by_places t.0) tile t.2 in
      let taken = whole_takes named_tile named_tile_is bytes t.0 are t.1 in
      record { named = t.0; fits = taken.1; column = eqb-true (column_of_tile t.0) k passed.0; is = passed.1; spelled = taken.0 },
  λ r. tile_again k bytes tile r,
)

-- ---- places

ok_bound : {A B : Type 0} (o : Result A Damage) (f : A → Result B Damage) (y : B) → (image.◌>>=◌ o f) ≡ Ok y → (x : A) × (o ≡ Ok x) × (f x ≡ Ok y)
ok_bound (Ok x) f y e = (x, refl, e)
ok_bound (Err d) f y e = absurd cc

is_there : (fault : Damage) (file : List ℕ) (e : RecordExtent) (bytes : List ℕ) → placed_bytes fault file e ≡ Ok bytes → is_placed file e ≡ true
is_there fault file e bytes h = by_test (is_placed file e) h where
  by_test : (b : Bool) → cond b (Ok (bytes_at file e)) (Err fault) ≡ Ok bytes → b ≡ true
  by_test true g = refl
  by_test false g = absurd cc

abbrev Placed : List ℕ → List RecordExtent → Type 0
Placed file es = AllByRecursion (λ e. is_placed file e ≡ true) es

both_placed : (file : List ℕ) (xs ys : List RecordExtent) → Placed file xs → Placed file ys → Placed file (xs ++ ys)
both_placed file [] ys a b = b
both_placed file (x ∷ xs) ys a b = (a.0, both_placed file xs ys a.1 b)

tiles_placed : (file : List ℕ) (name : Name) (k : ℕ) (es : List (Option RecordExtent)) (tiles : List Finished) → tiles_from_column file name k es ≡ Ok tiles → Placed file (some_extents es)
tiles_placed file name k [] tiles e = tt
tiles_placed file name k (None ∷ es) tiles e = tiles_placed file name (k + 1) es tiles e
tiles_placed file name k (Some x ∷ es) tiles e =
    let a = ok_bound (placed_bytes RecordPlace file x) _ tiles e in
    let b = ok_bound (or_fault TileForm (tile_of_record k a.0)) _ tiles a.2 in
    let c = ok_bound (tiles_from_column file name (k + 1) es) _ tiles b.2 in
    (is_there RecordPlace file x a.0 a.1, tiles_placed file name (k + 1) es c.0 c.1)

layer_placed : (file : List ℕ) (known : List Layer) (name : Name) (records : Records) (x : List Layer × List Finished) → layer_of file known name records ≡ Ok x → Placed file (extents_of_records records)
layer_placed file known name (inl e) x h = let a = ok_bound (placed_bytes RecordPlace file e) _ x h in (is_there RecordPlace file e a.0 a.1, tt)
layer_placed file known name (inr (e, es)) x h =
    let a = ok_bound (placed_bytes RecordPlace file e) _ x h in
    let b = ok_bound (or_fault LayerForm (definition_of_record a.0)) _ x a.2 in
    let c = ok_bound (with_layer known name (derived b.0)) _ x b.2 in
    let d = ok_bound (tiles_from_column file name 0 es) _ x c.2 in
    (is_there RecordPlace file e a.0 a.1, tiles_placed file name 0 es d.0 d.1)

layers_placed : (file : List ℕ) (known : List Layer) (ls : List Listed) (x : List Layer × List Finished) → layers_of file known ls ≡ Ok x → Placed file (extents_listed ls)
layers_placed file known [] x h = tt
layers_placed file known (l ∷ ls) x h =
    let a = ok_bound (layer_of file known l.name l.records) _ x h in
    let b = ok_bound (layers_of file a.0.0 ls) _ x a.2 in
    both_placed file (extents_of_records l.records) (extents_listed ls) (layer_placed file known l.name l.records a.0 a.1) (layers_placed file a.0.0 ls b.0 b.1)

pub held_is_placed : HeldIsPlaced
unfolding listing_of
held_is_placed file r x h =
    let listing = ok_bound (listing_of file r) (held_by file r) x h in
    let catalog_read = ok_bound (placed_bytes CatalogPlace file r.catalog) _ listing.0 listing.1 in
    let all = ok_bound (layers_of file [] listing.0) _ x listing.2 in (
      is_there CatalogPlace file r.catalog catalog_read.0 catalog_read.1,
      subst (λ (l : Result (List Listed) Damage). Placed file (listed_extents l)) (sym listing.1) (layers_placed file [] listing.0 all.0 all.1),
    )
