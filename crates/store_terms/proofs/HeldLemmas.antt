-- What is held is spelled: each record that a catalog lists spells the layer or the tile that is held.
use Rattle.std.proofs.Common.{◌≡◌, inl, inr, ℕ, ◌+◌, Bool, true, false, cond, List, [], ◌∷◌, ◌++◌, Option, Some, None, Result, Ok, Err, refl, sym, ap, subst, ◌∙◌, append_assoc}
use Rattle.std.proofs.lemmas.List.{append-nil}
use Rattle.overlay_terms.specs.Layers.{Name, Content, base, derived, Layer}
use Rattle.overlay_terms.specs.Histories.{Finished}
use Rattle.store_terms.specs.declared.damage.Damage.{Damage}
use Rattle.store_terms.specs.declared.damage.Damage.TheVariants.{RecordPlace, LayerForm, LayerRefused, TileForm, Overlap}
use Rattle.store_terms.specs.declared.root.RecordExtent.{RecordExtent}
use Rattle.store_terms.specs.BaseRecord.{base_of_record}
use Rattle.store_terms.specs.DefinitionRecord.{definition_of_record}
use Rattle.store_terms.specs.TileRecord.{tile_of_record}
use Rattle.store_terms.specs.Catalog.{Records, Listed}
use Rattle.store_terms.specs.Places.{bytes_at, is_placed, all_apart, extents_listed}
use Rattle.store_terms.specs.Image.{◌>>=◌, or_fault, placed_bytes, may_stand, with_layer, tiles_from_column, layer_of, layers_of, Held, listing_of, held_by}
use Rattle.store_terms.specs.Spelled.{Spells, TilesAre, LayerIs, LayersAre, HeldIsSpelled}

pub ok_bound : {A B : Type 0} (o : Result A Damage) (f : A → Result B Damage) (y : B) → (o >>= f) ≡ Ok y
    → (x : A) × (o ≡ Ok x) × (f x ≡ Ok y)
ok_bound (Ok x) f y e = (x, refl, e)
ok_bound (Err d) f y e = absurd cc

pub no_fault : {A : Type 0} (fault : Damage) (o : Option A) (x : A) → or_fault fault o ≡ Ok x → o ≡ Some x
no_fault {A} fault None x e = absurd cc
no_fault {A} fault (Some y) x e = let same : y ≡ x = cc in ap (λ (z : A). Some z) same

abbrev pub found : {A : Type 0} → A → Result A Damage
found x = Ok x

pub same_ok : {A : Type 0} (x y : A) → found x ≡ found y → x ≡ y
same_ok x y e = cc

pub tested_ok : {A : Type 0} (b : Bool) (fault : Damage) (x y : A) → cond b (found x) (Err fault) ≡ found y
    → (b ≡ true) × (x ≡ y)
tested_ok true fault x y e = (refl, same_ok x y e)
tested_ok false fault x y e = absurd cc

-- a record that was read from its place
placed_spells : {A : Type 0} (place : Damage) (file : List ℕ) (e : RecordExtent) (read : List ℕ → Option A) (value : A)
    (bytes : List ℕ) → placed_bytes place file e ≡ Ok bytes → read bytes ≡ Some value → Spells file e read value
placed_spells place file e read value bytes there is =
    let t = tested_ok (is_placed file e) place (bytes_at file e) bytes there in
    record { placed = t.0; is = ap read t.1 ∙ is }

tiles_are : (file : List ℕ) (name : Name) (k : ℕ) (es : List (Option RecordExtent)) (tiles : List Finished)
    → tiles_from_column file name k es ≡ Ok tiles → TilesAre file name k es tiles
tiles_are file name k [] tiles e = sym (same_ok [] tiles e)
tiles_are file name k (None ∷ es) tiles e = tiles_are file name (k + 1) es tiles e
tiles_are file name k (Some x ∷ es) tiles e =
    let a = ok_bound (placed_bytes RecordPlace file x) _ tiles e in
    let b = ok_bound (or_fault TileForm (tile_of_record k a.0)) _ tiles a.2 in
    let c = ok_bound (tiles_from_column file name (k + 1) es) _ tiles b.2 in
    let f : Finished = record { name = name; column = k; tile = b.0 } in
    let spells : Spells file x (tile_of_record k) b.0 =
    placed_spells RecordPlace file x (tile_of_record k) b.0 a.0 a.1 (no_fault TileForm (tile_of_record k a.0) b.0 b.1) in
    (b.0, c.0, sym (same_ok (f ∷ c.0) tiles c.2), spells, tiles_are file name (k + 1) es c.0 c.1)

abbrev layer_with : Name → Content → Layer
layer_with name content = record { name = name; content = content }

layer_new : (known : List Layer) (name : Name) (content : Content) (layers : List Layer)
    → with_layer known name content ≡ Ok layers → known ++ layer_with name content ∷ [] ≡ layers
layer_new known name content layers e =
    let t = tested_ok (may_stand known name content) LayerRefused (known ++ layer_with name content ∷ []) layers e in t.1

record IsLast (file : List ℕ) (known : List Layer) (name : Name) (records : Records) (x : List Layer × List Finished) : Type 0 where
  layer : Layer
  behind : known ++ layer ∷ [] ≡ x.0
  is : LayerIs file name records layer x.1

layer_is : (file : List ℕ) (known : List Layer) (name : Name) (records : Records) (x : List Layer × List Finished)
    → layer_of file known name records ≡ Ok x → IsLast file known name records x
layer_is file known name (inl e) x h =
    let a = ok_bound (placed_bytes RecordPlace file e) _ x h in
    let b = ok_bound (or_fault LayerForm (base_of_record a.0)) _ x a.2 in
    let c = ok_bound (with_layer known name (base b.0)) _ x b.2 in
    let same = same_ok (c.0, []) x c.2 in
    let spells = placed_spells RecordPlace file e base_of_record b.0 a.0 a.1
    (no_fault LayerForm (base_of_record a.0) b.0 b.1) in
    record {
      layer = layer_with name (base b.0);
      behind = layer_new known name (base b.0) c.0 c.1 ∙ ap (λ (y : List Layer × List Finished). y.0) same;
      is = (b.0, refl, sym (ap (λ (y : List Layer × List Finished). y.1) same), spells);
    }
layer_is file known name (inr (e, es)) x h =
    let a = ok_bound (placed_bytes RecordPlace file e) _ x h in
    let b = ok_bound (or_fault LayerForm (definition_of_record a.0)) _ x a.2 in
    let c = ok_bound (with_layer known name (derived b.0)) _ x b.2 in
    let d = ok_bound (tiles_from_column file name 0 es) _ x c.2 in
    let same = same_ok (c.0, d.0) x d.2 in
    let spells = placed_spells RecordPlace file e definition_of_record b.0 a.0 a.1
    (no_fault LayerForm (definition_of_record a.0) b.0 b.1) in
    record {
      layer = layer_with name (derived b.0);
      behind = layer_new known name (derived b.0) c.0 c.1 ∙ ap (λ (y : List Layer × List Finished). y.0) same;
      is = (
        b.0,
        refl,
        spells,
        subst (TilesAre file name 0 es) (ap (λ (y : List Layer × List Finished). y.1) same)
            (tiles_are file name 0 es d.0 d.1),
      );
    }

record AreLast (file : List ℕ) (known : List Layer) (ls : List Listed) (x : List Layer × List Finished) : Type 0 where
  more : List Layer
  behind : known ++ more ≡ x.0
  are : LayersAre file ls more x.1

layers_are : (file : List ℕ) (known : List Layer) (ls : List Listed) (x : List Layer × List Finished)
    → layers_of file known ls ≡ Ok x → AreLast file known ls x
layers_are file known [] x h =
    let same = same_ok (known, []) x h in
    record {
      more = [];
      behind = append-nil known ∙ ap (λ (y : List Layer × List Finished). y.0) same;
      are = (refl, sym (ap (λ (y : List Layer × List Finished). y.1) same));
    }
layers_are file known (l ∷ ls) x h =
    let a = ok_bound (layer_of file known l.name l.records) _ x h in
    let b = ok_bound (layers_of file a.0.0 ls) _ x a.2 in
    let one = layer_is file known l.name l.records a.0 a.1 in
    let rest = layers_are file a.0.0 ls b.0 b.1 in
    let same = same_ok (b.0.0, a.0.1 ++ b.0.1) x b.2 in
    record {
      more = one.layer ∷ rest.more;
      behind = sym (append_assoc known (one.layer ∷ []) rest.more)
          ∙ ap (λ (k : List Layer). k ++ rest.more) one.behind ∙ rest.behind
          ∙ ap (λ (y : List Layer × List Finished). y.0) same;
      are = (
        one.layer,
        rest.more,
        a.0.1,
        b.0.1,
        refl,
        sym (ap (λ (y : List Layer × List Finished). y.1) same),
        one.is,
        rest.are,
      );
    }

pub held_is_spelled : HeldIsSpelled
held_is_spelled file r x listing is h =
    let b = ok_bound (listing_of file r) (held_by file r) x h in
    let same : b.0 ≡ listing = same_ok b.0 listing (sym b.1 ∙ is) in
    let all = ok_bound (layers_of file [] b.0) _ x b.2 in
    let t = tested_ok (all_apart (r.catalog ∷ extents_listed b.0)) Overlap
    (record { number = r.version; layers = all.0.0; tiles = all.0.1 }) x all.2 in
    let are = layers_are file [] b.0 all.0 all.1 in
    let held : LayersAre file b.0 x.layers x.tiles =
    subst (λ (y : Held). LayersAre file b.0 y.layers y.tiles) t.1
    (subst (λ (ls : List Layer). LayersAre file b.0 ls all.0.1) are.behind are.are) in
    subst (λ (ls : List Listed). LayersAre file ls x.layers x.tiles × (all_apart (r.catalog ∷ extents_listed ls) ≡ true)) same
    (held, t.0)
