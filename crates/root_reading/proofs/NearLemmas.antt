-- What is read of a file ends at numbers of 64 bits.
use Rattle.std.proofs.Common.{◌≡◌, ℕ, ◌+◌, ◌/◌, ◌^◌, ◌<◌, ◌≤◌, nat_le, Bool, true, false, cond, inl, inr, Option, Some, None, Ok, Err, List, [], ◌∷◌, ◌++◌, length, refl, arith}
use Rattle.std.proofs.lemmas.Bool.{and_parts, leb-true}
use Rattle.overlay_terms.specs.Layers.{Name, Layer, derived}
use Rattle.overlay_terms.specs.Histories.{Finished}
use Rattle.store_terms.specs.declared.damage.Damage.{Damage}
use Rattle.store_terms.specs.declared.damage.Damage.TheVariants.{CatalogPlace, RecordPlace, LayerForm, TileForm}
use Rattle.store_terms.specs.declared.root.RecordExtent.{RecordExtent}
use Rattle.store_terms.specs.declared.root.Root.{Root}
use Rattle.store_terms.specs.DefinitionRecord.{definition_of_record}
use Rattle.store_terms.specs.TileRecord.{tile_of_record}
use Rattle.store_terms.specs.Catalog.{Records, Listed}
use Rattle.store_terms.specs.Places.{blocks, bytes_at, is_placed, some_extents, extents_of_records, extents_listed}
use Rattle.store_terms.specs.Image.{or_fault, placed_bytes, with_layer, tiles_from_column, layer_of, layers_of, listing_of}
use Rattle.store_terms.proofs.HeldLemmas.{ok_bound as bound}
use Rattle.root_reading.specs.RootRuns.{IsNear, AllNear}

both_near : (xs ys : List RecordExtent) → AllNear xs → AllNear ys → AllNear (xs ++ ys)
both_near [] ys a b = b
both_near (x ∷ xs) ys a b = (a.0, both_near xs ys a.1 b)

module _ (file : List ℕ) (short : length file < 2 ^ 64) where
  near_bytes : (fault : Damage) (e : RecordExtent) (bytes : List ℕ) → placed_bytes fault file e ≡ Ok bytes → IsNear e
  near_bytes fault e bytes is =
      let p = and_parts (nat_le 2 e.block) (nat_le (e.block + blocks e.size) (length file / 4096))
      (placed (is_placed file e) is) in
      let within : e.block + blocks e.size ≤ length file / 4096 = leb-true _ _ p.1 in
      omega (arith, within, short)
    where
      placed : (b : Bool) → cond b (Ok (bytes_at file e)) (Err fault) ≡ Ok bytes → b ≡ true
      placed true is = refl
      placed false is = absurd (cc is)

  near_tiles : (name : Name) (k : ℕ) (es : List (Option RecordExtent)) (tiles : List Finished)
      → tiles_from_column file name k es ≡ Ok tiles → AllNear (some_extents es)
  near_tiles name k [] tiles is = tt
  near_tiles name k (None ∷ es) tiles is = near_tiles name (k + 1) es tiles is
  near_tiles name k (Some x ∷ es) tiles is =
      let a = bound (placed_bytes RecordPlace file x) _ tiles is in
      let b = bound (or_fault TileForm (tile_of_record k a.0)) _ tiles a.2 in
      let c = bound (tiles_from_column file name (k + 1) es) _ tiles b.2 in
      (near_bytes RecordPlace x a.0 a.1, near_tiles name (k + 1) es c.0 c.1)

  near_layer : (known : List Layer) (name : Name) (records : Records) (x : List Layer × List Finished)
      → layer_of file known name records ≡ Ok x → AllNear (extents_of_records records)
  near_layer known name (inl e) x is =
      let a = bound (placed_bytes RecordPlace file e) _ x is in (near_bytes RecordPlace e a.0 a.1, tt)
  near_layer known name (inr (e, es)) x is =
      let a = bound (placed_bytes RecordPlace file e) _ x is in
      let b = bound (or_fault LayerForm (definition_of_record a.0)) _ x a.2 in
      let c = bound (with_layer known name (derived b.0)) _ x b.2 in
      let d = bound (tiles_from_column file name 0 es) _ x c.2 in
      (near_bytes RecordPlace e a.0 a.1, near_tiles name 0 es d.0 d.1)

  pub near_layers : (known : List Layer) (ls : List Listed) (x : List Layer × List Finished)
      → layers_of file known ls ≡ Ok x → AllNear (extents_listed ls)
  near_layers known [] x is = tt
  near_layers known (l ∷ ls) x is =
      let a = bound (layer_of file known l.name l.records) _ x is in
      let b = bound (layers_of file a.0.0 ls) _ x a.2 in
      both_near (extents_of_records l.records) (extents_listed ls) (near_layer known l.name l.records a.0 a.1)
      (near_layers a.0.0 ls b.0 b.1)

  pub near_catalog : (r : Root) (listing : List Listed) → listing_of file r ≡ Ok listing → IsNear r.catalog
  unfolding listing_of
  near_catalog r listing is =
      let a = bound (placed_bytes CatalogPlace file r.catalog) _ listing is in near_bytes CatalogPlace r.catalog a.0 a.1
