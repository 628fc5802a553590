-- The sizes of records, as layers and rows of tiles take their runs.
use Rattle.std.proofs.Common.{◌≡◌, ℕ, ◌+◌, ◌<◌, zero, suc, List, [], ◌∷◌, ◌++◌, length, take, drop, slice_get, get_or, Option, Some, None, refl, sym, ◌∙◌, ap, subst, add-one, add-zero, append_assoc, arith}
use Rattle.std.proofs.Math.Seq.{take-suc}
use Rattle.std.proofs.lemmas.List.{append-nil, length-take, take-append-drop}
use Rattle.std.proofs.lemmas.Option.{same_Some}
use Rattle.std.specs.Borrow.{Bor}
use Rattle.std.specs.declared.sync.Arc.{Arc}
use Rattle.std.specs.Option.{option_map}
use Rattle.overlay_terms.specs.Layers.{Name, Layer}
use Rattle.tile_build.specs.Tile.{named_pieces, tile_of}
use Rattle.tile_build.specs.declared.tile.Tile.{Tile}
use Rattle.layer_tiles.specs.Filling.{finished_as}
use Rattle.layer_tiles.specs.TileCode.{by_places, Named}
use Rattle.layer_tiles.proofs.Placed.{by_its_names}
use Rattle.record_writing.specs.Tiles.{named_by}
use Rattle.store_terms.specs.TileRecord.{named_tile}
use Rattle.store_terms.specs.declared.root.RecordExtent.{RecordExtent}
use Rattle.commit_plan.specs.Drafted.{Drafted, HasNoRunFor}
use Rattle.commit_plan.specs.Staying.{LiveContent, layer_stays, tile_record_stays}
use Rattle.commit_plan.specs.Sizes.{own_record, tile_size, if_new, own_sizes, tile_sizes, row_sizes, layer_sizes, sizes_of_layers}
use Rattle.commit_plan.proofs.Drafts.{no_run_more}

-- numbers after which there are none
pub none_behind : (ns ms : List ℕ) → ms ≡ [] → ns ≡ ns ++ ms
none_behind ns ms none = sym (ap (λ (l : List ℕ). ns ++ l) none ∙ append-nil ns)

new_sizes : (stays : Option RecordExtent) (n : ℕ) → stays ≡ None → if_new stays n ≡ n ∷ []
new_sizes stays n none = ap (λ (s : Option RecordExtent). if_new s n) none

kept_sizes : (stays : Option RecordExtent) (n : ℕ) (e : RecordExtent) → stays ≡ Some e → if_new stays n ≡ []
kept_sizes stays n e is = ap (λ (s : Option RecordExtent). if_new s n) is

-- the tile that a column has, by its pieces
pub slot_of : {Z : Type 0} (held : Option (Bor (Arc Tile Z))) (there : Bor (Arc Tile Z)) (tile : Tile) → held ≡ Some there → there.now.value ≡ tile
    → option_map (λ t. named_pieces t.now.value) held ≡ Some (named_pieces tile)
slot_of held there tile is same = ap (λ o. option_map (λ t. named_pieces t.now.value) o) is ∙ ap (λ t. Some (named_pieces t)) same

module _ (live : LiveContent) where
  -- ---- one record

  pub new_own : (layer : Layer) (bytes : List ℕ) → layer_stays live layer ≡ None → bytes ≡ own_record layer.content → length bytes ∷ [] ≡ own_sizes live layer
  new_own layer bytes none spelled = ap (λ (l : List ℕ). length l ∷ []) spelled ∙ sym (new_sizes (layer_stays live layer) (length (own_record layer.content)) none)

  pub kept_own : (layer : Layer) (e : RecordExtent) → layer_stays live layer ≡ Some e → own_sizes live layer ≡ []
  kept_own layer e is = kept_sizes (layer_stays live layer) (length (own_record layer.content)) e is

  -- the tile of the code, by the names of its ends
  stays_same : (name : Name) (k : ℕ) (tile : Tile) → tile_record_stays live (finished_as name k (by_places (named_pieces tile))) ≡ tile_record_stays live (finished_as name k (tile_of tile))
  stays_same name k tile = ap (λ t. tile_record_stays live (finished_as name k t)) (by_its_names tile)

  new_tile : (name : Name) (k : ℕ) (tile : Tile) (bytes : List ℕ) → tile_record_stays live (finished_as name k (tile_of tile)) ≡ None → bytes ≡ named_tile.text (named_by k tile)
      → length bytes ∷ [] ≡ tile_sizes live name k (named_pieces tile)
  new_tile name k tile bytes none spelled =
      ap (λ (l : List ℕ). length l ∷ []) spelled
      ∙ sym (new_sizes (tile_record_stays live (finished_as name k (by_places (named_pieces tile)))) (tile_size k (named_pieces tile)) (stays_same name k tile ∙ none))

  kept_tile : (name : Name) (k : ℕ) (tile : Tile) (e : RecordExtent) → tile_record_stays live (finished_as name k (tile_of tile)) ≡ Some e → tile_sizes live name k (named_pieces tile) ≡ []
  kept_tile name k tile e is =
      kept_sizes (tile_record_stays live (finished_as name k (by_places (named_pieces tile)))) (tile_size k (named_pieces tile)) e (stays_same name k tile ∙ is)

  -- that of a slot which has it
  slot_sizes : (name : Name) (k : ℕ) (slot : Option Named) (held : Named) → slot ≡ Some held → row_sizes live name k (slot ∷ []) ≡ tile_sizes live name k held
  slot_sizes name k slot held is =
      ap (λ (o : Option Named). row_sizes live name k (o ∷ [])) is ∙ append-nil (tile_sizes live name k held)

  pub new_slot : (name : Name) (k : ℕ) (tile : Tile) (slot : Option Named) (bytes : List ℕ) → slot ≡ Some (named_pieces tile)
      → tile_record_stays live (finished_as name k (tile_of tile)) ≡ None → bytes ≡ named_tile.text (named_by k tile) → length bytes ∷ [] ≡ row_sizes live name k (slot ∷ [])
  new_slot name k tile slot bytes is none spelled = new_tile name k tile bytes none spelled ∙ sym (slot_sizes name k slot (named_pieces tile) is)

  pub kept_slot : (name : Name) (k : ℕ) (tile : Tile) (slot : Option Named) (e : RecordExtent) → slot ≡ Some (named_pieces tile)
      → tile_record_stays live (finished_as name k (tile_of tile)) ≡ Some e → row_sizes live name k (slot ∷ []) ≡ []
  kept_slot name k tile slot e is stays = slot_sizes name k slot (named_pieces tile) is ∙ kept_tile name k tile e stays

  -- ---- rows

  sizes_both : (name : Name) (k : ℕ) (xs ys : List (Option Named)) → row_sizes live name k (xs ++ ys) ≡ row_sizes live name k xs ++ row_sizes live name (k + length xs) ys
  sizes_both name k [] ys = ap (λ n. row_sizes live name n ys) (sym (add-zero k))
  sizes_both name k (None ∷ xs) ys =
      let next : k + 1 + length xs ≡ k + suc (length xs) = omega arith in
      sizes_both name (k + 1) xs ys ∙ ap (λ n. row_sizes live name (k + 1) xs ++ row_sizes live name n ys) next
  sizes_both name k (Some tile ∷ xs) ys =
      let next : k + 1 + length xs ≡ k + suc (length xs) = omega arith in
      ap (λ (l : List ℕ). tile_sizes live name k tile ++ l) (sizes_both name (k + 1) xs ys ∙ ap (λ n. row_sizes live name (k + 1) xs ++ row_sizes live name n ys) next)
      ∙ sym (append_assoc (tile_sizes live name k tile) (row_sizes live name (k + 1) xs) (row_sizes live name (k + suc (length xs)) ys))

  -- those up to a column, and those of the next one
  pub sizes_next : (name : Name) (row : List (Option Named)) (i : ℕ) → i < length row
      → row_sizes live name 0 (take i row) ++ row_sizes live name i (get_or row i None ∷ []) ≡ row_sizes live name 0 (take (i + 1) row)
  sizes_next name row i less =
      let slot : List (Option Named) = get_or row i None ∷ [] in
      let more : take (i + 1) row ≡ take i row ++ slot = ap (λ n. take n row) (add-one i) ∙ take-suc row i None less in
      let long : 0 + length (take i row) ≡ i = omega (arith, length-take i row, less) in
      sym (ap (row_sizes live name 0) more ∙ sizes_both name 0 (take i row) slot ∙ ap (λ n. row_sizes live name 0 (take i row) ++ row_sizes live name n slot) long)

  -- where the record of a column finds no run, the row finds none
  pub column_full : (d : Drafted) (name : Name) (row : List (Option Named)) (i : ℕ) → i < length row
      → HasNoRunFor d (row_sizes live name 0 (take i row) ++ row_sizes live name i (get_or row i None ∷ [])) → HasNoRunFor d (row_sizes live name 0 row)
  column_full d name row i less full =
      let front = row_sizes live name 0 (take (i + 1) row) in
      let back = row_sizes live name (0 + length (take (i + 1) row)) (drop (i + 1) row) in
      let whole : front ++ back ≡ row_sizes live name 0 row = sym (sizes_both name 0 (take (i + 1) row) (drop (i + 1) row)) ∙ ap (row_sizes live name 0) (take-append-drop (i + 1) row) in
      subst (HasNoRunFor d) whole (no_run_more d front back (subst (HasNoRunFor d) (sizes_next name row i less) full))

  -- ---- layers

  -- those of the layers up to one, of that one, and of those after it
  layers_there : (layers : List Layer) (rows : List (List (Option Named))) (i : ℕ) (layer : Layer) (row : List (Option Named)) → slice_get layers i ≡ Some layer → slice_get rows i ≡ Some row
      → sizes_of_layers live layers rows
      ≡ (sizes_of_layers live (take i layers) (take i rows) ++ layer_sizes live layer row) ++ sizes_of_layers live (drop (suc i) layers) (drop (suc i) rows)
  layers_there [] rows i layer row is has = absurd (cc)
  layers_there (l ∷ layers) [] i layer row is has = absurd (cc)
  layers_there (l ∷ layers) (r ∷ rows) zero layer row is has = λ j. layer_sizes live (same_Some l layer is j) (same_Some r row has j) ++ sizes_of_layers live layers rows
  layers_there (l ∷ layers) (r ∷ rows) (suc i) layer row is has =
      let own = layer_sizes live l r in
      let front = sizes_of_layers live (take i layers) (take i rows) in
      let back = sizes_of_layers live (drop (suc i) layers) (drop (suc i) rows) in
      ap (λ (ns : List ℕ). own ++ ns) (layers_there layers rows i layer row is has) ∙ sym (append_assoc own (front ++ layer_sizes live layer row) back)
      ∙ ap (λ (ns : List ℕ). ns ++ back) (sym (append_assoc own front (layer_sizes live layer row)))

  pub layers_next : (layers : List Layer) (rows : List (List (Option Named))) (i : ℕ) (layer : Layer) (row : List (Option Named)) → slice_get layers i ≡ Some layer → slice_get rows i ≡ Some row
      → sizes_of_layers live (take i layers) (take i rows) ++ layer_sizes live layer row ≡ sizes_of_layers live (take (i + 1) layers) (take (i + 1) rows)
  layers_next layers rows i layer row is has = one_on layers rows i is has ∙ ap (λ n. sizes_of_layers live (take n layers) (take n rows)) (sym (add-one i)) where
    one_on : (ls : List Layer) (rs : List (List (Option Named))) (n : ℕ) → slice_get ls n ≡ Some layer → slice_get rs n ≡ Some row
        → sizes_of_layers live (take n ls) (take n rs) ++ layer_sizes live layer row ≡ sizes_of_layers live (take (suc n) ls) (take (suc n) rs)
    one_on [] rs n here there = absurd (cc)
    one_on (l ∷ ls) [] n here there = absurd (cc)
    one_on (l ∷ ls) (r ∷ rs) zero here there = sym (append-nil (layer_sizes live l r) ∙ (λ j. layer_sizes live (same_Some l layer here j) (same_Some r row there j)))
    one_on (l ∷ ls) (r ∷ rs) (suc n) here there =
        append_assoc (layer_sizes live l r) (sizes_of_layers live (take n ls) (take n rs)) (layer_sizes live layer row) ∙ ap (λ (ns : List ℕ). layer_sizes live l r ++ ns) (one_on ls rs n here there)

  -- those of all layers
  pub layers_whole : (layers : List Layer) (rows : List (List (Option Named))) (n : ℕ) → n ≡ length layers
      → sizes_of_layers live (take n layers) (take n rows) ≡ sizes_of_layers live layers rows
  layers_whole layers rows n all = ap (λ m. sizes_of_layers live (take m layers) (take m rows)) all ∙ by_layers layers rows where
    without_rows : (ls : List Layer) → sizes_of_layers live (take (length ls) ls) [] ≡ sizes_of_layers live ls []
    without_rows [] = refl
    without_rows (l ∷ ls) = ap (λ (ns : List ℕ). own_sizes live l ++ ns) (without_rows ls)

    by_layers : (ls : List Layer) (rs : List (List (Option Named))) → sizes_of_layers live (take (length ls) ls) (take (length ls) rs) ≡ sizes_of_layers live ls rs
    by_layers [] rs = refl
    by_layers (l ∷ ls) [] = ap (λ (ns : List ℕ). own_sizes live l ++ ns) (without_rows ls)
    by_layers (l ∷ ls) (r ∷ rs) = ap (λ (ns : List ℕ). layer_sizes live l r ++ ns) (by_layers ls rs)

  -- where the records of a layer find no run, the layers find none, whatever comes after it
  pub layers_full : (d : Drafted) (layers : List Layer) (rows : List (List (Option Named))) (i : ℕ) (layer : Layer) (row : List (Option Named)) → slice_get layers i ≡ Some layer → slice_get rows i ≡ Some row
      → HasNoRunFor d (sizes_of_layers live (take i layers) (take i rows) ++ layer_sizes live layer row) → HasNoRunFor d (sizes_of_layers live layers rows)
  layers_full d layers rows i layer row is has full =
      subst (HasNoRunFor d) (sym (layers_there layers rows i layer row is has))
      (no_run_more d (sizes_of_layers live (take i layers) (take i rows) ++ layer_sizes live layer row) (sizes_of_layers live (drop (suc i) layers) (drop (suc i) rows)) full)
