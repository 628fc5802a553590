-- What is spelled is held.
use Rattle.std.proofs.Common.{◌≡◌, inl, inr, ℕ, ◌+◌, ◌≤◌, true, cond, List, [], ◌∷◌, ◌++◌, length, Option, Some, None, Result, Ok, Err, refl, sym, ap, subst, ◌∙◌, append_assoc, arith, length-append}
use Rattle.std.specs.List.{AllByRecursion}
use Rattle.std.proofs.lemmas.Bool.{cond-true}
use Rattle.std.proofs.lemmas.List.{append-nil}
use Rattle.overlay_terms.specs.Layers.{Name, base, derived, Layer}
use Rattle.overlay_terms.specs.Histories.{Finished}
use Rattle.overlay_terms.specs.Orderly.{is_orderly_after}
use Rattle.overlay_terms.proofs.OrderlyLemmas.{orderly_splits}
use Rattle.layer_expr.specs.Name.{is_name}
use Rattle.store_terms.specs.declared.damage.Damage.{Damage}
use Rattle.store_terms.specs.declared.damage.Damage.TheVariants.{CatalogPlace, CatalogForm, RecordPlace, LayerForm, LayerRefused, TileForm, Overlap}
use Rattle.store_terms.specs.BaseRecord.{base_of_record}
use Rattle.store_terms.specs.DefinitionRecord.{definition_of_record}
use Rattle.store_terms.specs.TileRecord.{tile_of_record}
use Rattle.store_terms.specs.declared.root.RecordExtent.{RecordExtent}
use Rattle.store_terms.specs.Catalog.{Records, Listed, catalog_of_record}
use Rattle.store_terms.specs.Places.{bytes_at, extents_listed, all_apart}
use Rattle.store_terms.specs.declared.root.Root.{Root}
use Rattle.store_terms.specs.Image.{◌>>=◌, or_fault, placed_bytes, may_stand, with_layer, tiles_from_column, layer_of, layers_of, listing_of, held_by}
use Rattle.store_terms.specs.Spelled.{Spells, TilesAre, LayerIs, LayersAre, SpelledIsHeld}
use Rattle.store_terms.proofs.Accepting.{names_of, may_follow_stands}

-- a record that is placed, and what it spells
spelled : {A : Type 0} (place form : Damage) (file : List ℕ) (e : RecordExtent) (read : List ℕ → Option A) (value : A) → Spells file e read value → (placed_bytes place file e >>= λ bytes. or_fault form (read bytes)) ≡ Ok value
spelled place form file e read value spells =
    ap (λ b. cond b (Ok (bytes_at file e)) (Err place) >>= λ bytes. or_fault form (read bytes)) spells.placed ∙ ap (or_fault form) spells.is

-- the same with what comes after
spelled_then : {A B : Type 0} (place form : Damage) (file : List ℕ) (e : RecordExtent) (read : List ℕ → Option A) (value : A) (next : A → Result B Damage) → Spells file e read value
    → (placed_bytes place file e >>= λ bytes. or_fault form (read bytes) >>= next) ≡ next value
spelled_then place form file e read value next spells =
    ap (λ b. cond b (Ok (bytes_at file e)) (Err place) >>= λ bytes. or_fault form (read bytes) >>= next) spells.placed ∙ ap (λ o. or_fault form o >>= next) spells.is

tiles_spelled : (file : List ℕ) (name : Name) (k : ℕ) (es : List (Option RecordExtent)) (tiles : List Finished) → TilesAre file name k es tiles → tiles_from_column file name k es ≡ Ok tiles
tiles_spelled file name k [] tiles are = ap Ok (sym are)
tiles_spelled file name k (None ∷ es) tiles are = tiles_spelled file name (k + 1) es tiles are
tiles_spelled file name k (Some e ∷ es) tiles are =
    let rest = tiles_spelled file name (k + 1) es are.1 are.4 in
    spelled_then RecordPlace TileForm file e (tile_of_record k) are.0 (λ tile. tiles_from_column file name (k + 1) es >>= λ ts. Ok (record { name = name; column = k; tile = tile } ∷ ts)) are.3
    ∙ ap (λ (r : Result (List Finished) Damage). r >>= λ ts. Ok (record { name = name; column = k; tile = are.0 } ∷ ts)) rest ∙ ap Ok (sym are.2)

layer_stands : (known : List Layer) (layer : Layer) → may_stand known layer.name layer.content ≡ true → with_layer known layer.name layer.content ≡ Ok (known ++ layer ∷ [])
layer_stands known layer may = cond-true (may_stand known layer.name layer.content) (Ok (known ++ layer ∷ [])) (Err LayerRefused) may

layer_spelled : (file : List ℕ) (known : List Layer) (name : Name) (records : Records) (layer : Layer) (tiles : List Finished) → LayerIs file name records layer tiles → may_stand known layer.name layer.content ≡ true
    → layer_of file known name records ≡ Ok (known ++ layer ∷ [], tiles)
layer_spelled file known name (inl e) layer tiles is may =
    let there : may_stand known name (base is.0) ≡ true = subst (λ (l : Layer). may_stand known l.name l.content ≡ true) is.1 may in
    spelled_then RecordPlace LayerForm file e base_of_record is.0 (λ rings. with_layer known name (base rings) >>= λ layers. Ok (layers, [])) is.3
    ∙ ap (λ (r : Result (List Layer) Damage). r >>= λ layers. Ok (layers, [])) (layer_stands known (record { name = name; content = base is.0 }) there)
    ∙ (λ i. Ok (known ++ sym is.1 i ∷ [], sym is.2 i))
layer_spelled file known name (inr (e, es)) layer tiles is may =
    let there : may_stand known name (derived is.0) ≡ true = subst (λ (l : Layer). may_stand known l.name l.content ≡ true) is.1 may in
    spelled_then RecordPlace LayerForm file e definition_of_record is.0 (λ tree. with_layer known name (derived tree) >>= λ layers. tiles_from_column file name 0 es >>= λ finished. Ok (layers, finished)) is.2
    ∙ ap (λ (r : Result (List Layer) Damage). r >>= λ layers. tiles_from_column file name 0 es >>= λ finished. Ok (layers, finished)) (layer_stands known (record { name = name; content = derived is.0 }) there)
    ∙ ap (λ (r : Result (List Finished) Damage). r >>= λ finished. Ok (known ++ record { name = name; content = derived is.0 } ∷ [], finished)) (tiles_spelled file name 0 es tiles is.3)
    ∙ ap (λ (l : Layer). Ok (known ++ l ∷ [], tiles)) (sym is.1)

names_push : (known : List Layer) (layer : Layer) → names_of (known ++ layer ∷ []) ≡ names_of known ++ layer.name ∷ []
names_push [] layer = refl
names_push (l ∷ ls) layer = ap (λ (ns : List Name). l.name ∷ ns) (names_push ls layer)

layers_spelled : (file : List ℕ) (known : List Layer) (ls : List Listed) (layers : List Layer) (tiles : List Finished) → LayersAre file ls layers tiles → is_orderly_after (names_of known) layers ≡ true
    → length known + length layers ≤ 32 → AllByRecursion (λ layer. is_name layer.name ≡ true) layers → layers_of file known ls ≡ Ok (known ++ layers, tiles)
layers_spelled file known [] layers tiles are orderly few named =
    let whole : known ≡ known ++ layers = sym (append-nil known) ∙ ap (λ (l : List Layer). known ++ l) (sym are.0) in
    λ i. Ok (whole i, sym are.1 i)
layers_spelled file known (l ∷ ls) layers tiles are orderly few named =
    let layer = are.0 in
    let rest = are.1 in
    let here : is_orderly_after (names_of known) (layer ∷ rest) ≡ true = subst (λ (x : List Layer). is_orderly_after (names_of known) x ≡ true) are.4 orderly in
    let splits = orderly_splits (names_of known) layer rest here in
    let count : length known + length (layer ∷ rest) ≤ 32 = subst (λ (x : List Layer). length known + length x ≤ 32) are.4 few in
    let names : AllByRecursion (λ (m : Layer). is_name m.name ≡ true) (layer ∷ rest) = subst (λ (x : List Layer). AllByRecursion (λ (m : Layer). is_name m.name ≡ true) x) are.4 named in
    let may = may_follow_stands known layer splits.first (omega (arith, count)) names.0 in
    let first = layer_spelled file known l.name l.records layer are.2 are.6 may in
    let behind : is_orderly_after (names_of (known ++ layer ∷ [])) rest ≡ true = subst (λ (ns : List Name). is_orderly_after ns rest ≡ true) (sym (names_push known layer)) splits.rest in
    let more = layers_spelled file (known ++ layer ∷ []) ls rest are.3 are.7 behind (omega (arith, count, length-append known (layer ∷ []))) names.1 in
    ap (λ (r : Result (List Layer × List Finished) Damage). r >>= λ one. layers_of file one.0 ls >>= λ two. Ok (two.0, one.1 ++ two.1)) first
    ∙ ap (λ (r : Result (List Layer × List Finished) Damage). r >>= λ two. Ok (two.0, are.2 ++ two.1)) more
    ∙ (λ i. Ok ((append_assoc known (layer ∷ []) rest ∙ ap (λ (x : List Layer). known ++ x) (sym are.4)) i, sym are.5 i))

pub spelled_is_held : SpelledIsHeld
unfolding listing_of
spelled_is_held file r x may is =
    let listing : listing_of file r ≡ Ok is.listing = spelled CatalogPlace CatalogForm file r.catalog (catalog_of_record r.is_old) is.listing is.catalog in
    let all = layers_spelled file [] is.listing x.layers x.tiles is.layers may.orderly (omega (arith, may.few)) may.named in
    ap (λ (l : Result (List Listed) Damage). l >>= held_by file r) listing
    ∙ ap (λ (h : Result (List Layer × List Finished) Damage). h >>= λ held. cond (all_apart (r.catalog ∷ extents_listed is.listing)) (Ok (record { number = r.version; layers = held.0; tiles = held.1 })) (Err Overlap)) all
    ∙ ap (λ b. cond b (Ok (record { number = r.version; layers = x.layers; tiles = x.tiles })) (Err Overlap)) is.apart
    ∙ (λ i. Ok (record { number = is.number i; layers = x.layers; tiles = x.tiles }))

pub listing_spelled : (file : List ℕ) (r : Root) (listing : List Listed) → Spells file r.catalog (catalog_of_record r.is_old) listing → listing_of file r ≡ Ok listing
unfolding listing_of
listing_spelled file r listing spells = spelled CatalogPlace CatalogForm file r.catalog (catalog_of_record r.is_old) listing spells
