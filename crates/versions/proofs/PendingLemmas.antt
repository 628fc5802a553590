-- The tiles that are not finished, by column and by layer.
use Rattle.std.specs.Prelude.{◌≡◌, ℕ, ◌+◌, Bool, true, false, not, List, [], ◌∷◌, ◌++◌, map, filter, flat_map, take, slice_get, Option, Some, None, is_some}
use Rattle.std.specs.List.{range_with_len}
use Rattle.std.proofs.Common.{refl, ap, sym, ◌∙◌, cond, append_assoc, append-nil, add-one, arith}
use Rattle.std.proofs.lemmas.Grind.{flat_map-append}
use Rattle.overlay_terms.specs.Layers.{Name, Layer}
use Rattle.overlay_terms.specs.Histories.{Tile, Version, tile_at}
use Rattle.tile_build.specs.declared.tile.Tile as code
use Rattle.tile_build.specs.Tile.{tile_of}
use Rattle.std.specs.Borrow.{Bor}
use Rattle.std.specs.declared.sync.Arc.{Arc}
use Rattle.std.specs.Option.{option_map, is_none}
use Rattle.layer_book.proofs.Answering.{take_there}
use Rattle.layer_tiles.proofs.RowLemmas.{range_more}
use Rattle.versions.specs.Pending.{pending_in, pending_of_layer}

-- a tile by its layer and its column
abbrev pub tile_in : Name → ℕ → Name × ℕ
tile_in name k = (name, k)

-- columns, and one more
pub pending_in-push : (version : Version) (name : Name) (ks : List ℕ) (k : ℕ) → pending_in version name (ks ++ k ∷ []) ≡ pending_in version name ks ++ cond (is_none (tile_at version.tiles name k)) (tile_in name k ∷ []) []
pending_in-push version name [] k = split (is_none (tile_at version.tiles name k)) where
  split : (b : Bool) → map (tile_in name) (cond b (k ∷ []) []) ≡ cond b (tile_in name k ∷ []) []
  split true = refl
  split false = refl
pending_in-push version name (j ∷ ks) k = split (is_none (tile_at version.tiles name j)) (pending_in-push version name ks k) where
  split : (b : Bool) → pending_in version name (ks ++ k ∷ []) ≡ pending_in version name ks ++ cond (is_none (tile_at version.tiles name k)) (tile_in name k ∷ []) [] →
      map (tile_in name) (cond b (j ∷ filter (λ i. is_none (tile_at version.tiles name i)) (ks ++ k ∷ [])) (filter (λ i. is_none (tile_at version.tiles name i)) (ks ++ k ∷ [])))
      ≡ map (tile_in name) (cond b (j ∷ filter (λ i. is_none (tile_at version.tiles name i)) ks) (filter (λ i. is_none (tile_at version.tiles name i)) ks)) ++ cond (is_none (tile_at version.tiles name k)) (tile_in name k ∷ []) []
  split true e = ap (λ ps. tile_in name j ∷ ps) e
  split false e = e

-- whether a tile is missing is whether none is found
pub missing_in : {Z : Type 0} (r : Option (Bor (Arc code.Tile Z))) (found : Option Tile) → option_map (λ tile. tile_of tile.now.value) r ≡ found → is_none found ≡ not (is_some r)
missing_in None found e = ap is_none (sym e)
missing_in (Some tile) found e = ap is_none (sym e)

-- a test denied twice
pub twice : (b : Bool) → not (not b) ≡ b
twice true = refl
twice false = refl

pub none_found : (r : Option (Bor code.Tile)) (found : Option Tile) → is_some r ≡ false → option_map (λ tile. tile_of tile.now) r ≡ found → found ≡ None
none_found None found h e = sym e
none_found (Some tile) found h e = absurd (cc)

-- the tiles of one layer more
pub layers_more : (version : Version) (layers : List Layer) (i : ℕ) (layer : Layer) → slice_get layers i ≡ Some layer → flat_map (pending_of_layer version) (take (i + 1) layers) ≡ flat_map (pending_of_layer version) (take i layers) ++ pending_of_layer version layer
layers_more version layers i layer e =
    ap (λ k. flat_map (pending_of_layer version) (take k layers)) (add-one i) ∙ ap (flat_map (pending_of_layer version)) (take_there layers i layer e)
    ∙ flat_map-append (pending_of_layer version) (take i layers) (layer ∷ []) ∙ ap (λ ps. flat_map (pending_of_layer version) (take i layers) ++ ps) (append-nil (pending_of_layer version layer))

-- the tiles of one column more
pub columns_more : (version : Version) (name : Name) (before list : List (Name × ℕ)) (k : ℕ) (made : List (Name × ℕ)) → list ≡ before ++ pending_in version name (range_with_len 0 k) → made ≡ list ++ cond (is_none (tile_at version.tiles name k)) (tile_in name k ∷ []) [] → made ≡ before ++ pending_in version name (range_with_len 0 (k + 1))
columns_more version name before list k made so_far e =
    let start : 0 + k ≡ k = omega arith in
    e ∙ ap (λ ps. ps ++ cond (is_none (tile_at version.tiles name k)) (tile_in name k ∷ []) []) so_far
    ∙ append_assoc before (pending_in version name (range_with_len 0 k)) (cond (is_none (tile_at version.tiles name k)) (tile_in name k ∷ []) [])
    ∙ ap (λ ps. before ++ ps) (sym (ap (λ n. pending_in version name (range_with_len 0 n)) (add-one k) ∙ ap (pending_in version name) (range_more 0 k ∙ ap (λ j. range_with_len 0 k ++ j ∷ []) start) ∙ pending_in-push version name (range_with_len 0 k) k))
