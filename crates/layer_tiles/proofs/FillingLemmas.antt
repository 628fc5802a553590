-- A tile, a row or a layer more after all that there are.
use Rattle.std.specs.Prelude.{◌≡◌, ℕ, ◌+◌, ◌<◌, ◌==◌, ◌&&◌, true, IsTrue, List, [], ◌∷◌, ◌++◌, take, replicate, slice_get, bytes_eq, Option, Some, None, Result, Ok, Err, IfOk, All, if◌then◌else◌}
use Rattle.std.specs.List.{AllPairs}
use Rattle.std.proofs.Common.{zero, suc, length, get_or, refl, ap, sym, ◌∙◌, subst, add-one, add-zero, append-nil, append_assoc, arith}
use Rattle.std.proofs.lemmas.Bool.{both_ways, or_left}
use Rattle.std.proofs.lemmas.List.{length-map, map-append}
use Rattle.std.proofs.lemmas.List.Folds.{list_any-append}
use Rattle.std.proofs.lemmas.List.Elements.{All-nil, All-cons}
use Rattle.overlay_terms.specs.Column.{column_count}
use Rattle.overlay_terms.specs.Layers.{Name, Layer}
use Rattle.overlay_terms.specs.Commands.{is_derived, stands_as_derived}
use Rattle.overlay_terms.specs.Histories.{Tile, Finished, is_formed, tile_at}
use Rattle.overlay_terms.specs.StoredTiles.{is_tile_before, AreStored}
use Rattle.overlay_terms.specs.Orderly.{is_orderly_after}
use Rattle.std.specs.Option.{option_map}
use Rattle.std.proofs.lemmas.Option.{same_Some, slice_get-map}
use Rattle.layer_tiles.specs.TileCode.{Named}
use Rattle.layer_book.specs.Layer.{IsBook}
use Rattle.layer_book.proofs.Order.{fresh}
use Rattle.layer_tiles.specs.Filling.{IsLonger, IsNextTile}
use Rattle.layer_tiles.specs.Table.{laid, laid_in, places_in, placed_rows, row_by, rows_by, row_tiles, tiles_in, tiles_of, IsLaid, IsTable, Tabled}
use Rattle.layer_tiles.proofs.LookLemmas.{nothing_strange}
use Rattle.layer_tiles.proofs.Restored.{all_at, behind_first, behind_rest, found_is, is_own, never_before, same_in_order}
use Rattle.layer_tiles.proofs.Tables.{all_pairs_joined, is_table, same_row}
use Rattle.layer_tiles.proofs.TileLists.{tile_at-push}

-- ---- one tile more

module _ (layers : List Layer) where
  abbrev Before : Finished → Finished → Type 0
  Before a b = IsTrue (is_tile_before layers a b)

  all_ahead : (done rest : List Finished) (f : Finished) → AllPairs Before (done ++ f ∷ rest) → All (λ g. Before g f) done
  all_ahead [] rest f ordered = All-nil (λ g. Before g f)
  all_ahead (x ∷ xs) rest f ordered =
      All-cons (λ g. Before g f) x xs (all_at (Before x) xs rest f (behind_first layers x (xs ++ f ∷ rest) ordered)) (all_ahead xs rest f (behind_rest layers x (xs ++ f ∷ rest) ordered))

  -- each of the tiles of a file may come after those before it
  pub next_stored : (all done rest : List Finished) (f : Finished) → AreStored layers all → all ≡ done ++ f ∷ rest → IsNextTile layers done f
  next_stored all done rest f stored cut = record {
    derived_layer = all_at (λ g. IsTrue (stands_as_derived layers g.name)) done rest f (subst (All (λ g. IsTrue (stands_as_derived layers g.name))) cut stored.derived_layers);
    known_column = all_at (λ g. g.column < column_count) done rest f (subst (All (λ (g : Finished). g.column < column_count)) cut stored.known_columns);
    formed = all_at (λ g. IsTrue (is_formed g.tile g.column)) done rest f (subst (All (λ g. IsTrue (is_formed g.tile g.column))) cut stored.formed);
    behind = all_ahead done rest f (subst (AllPairs Before) cut stored.ordered);
  }

  -- where each is before a tile, none is of its layer and column
  none_before : (tiles : List Finished) (f : Finished) → All (λ g. Before g f) tiles → tile_at tiles f.name f.column ≡ None
  none_before tiles f ahead = by_found (tile_at tiles f.name f.column) refl where
    by_found : (o : Option Tile) → tile_at tiles f.name f.column ≡ o → o ≡ None
    by_found None e = refl
    by_found (Some tile) e =
        let g : Finished = record { name = f.name; column = f.column; tile = tile } in
        absurd (both_ways (is_tile_before layers g f) (never_before layers g f (is_own layers g)) (found_is (λ x. Before x f) tiles f.name f.column tile ahead e))

  -- tiles in order in which one more is found are those with it after them
  pub next_behind : (tiles made : List Finished) (f : Finished) → AllPairs Before tiles → AllPairs Before made → All (λ g. Before g f) tiles
      → ((name : Name) (k : ℕ) → tile_at made name k ≡ (if bytes_eq f.name name && (f.column == k) then Some f.tile else tile_at tiles name k)) → made ≡ tiles ++ f ∷ []
  next_behind tiles made f ordered in_order ahead finds =
      same_in_order layers made (tiles ++ f ∷ []) in_order
      (all_pairs_joined Before tiles (f ∷ []) ordered (one_alone f) (λ k d h. All-cons (Before (get_or tiles k d)) f [] (ahead k d h) (All-nil (Before (get_or tiles k d)))))
      (λ name k. finds name k ∙ sym (tile_at-push tiles f name k (none_before tiles f ahead)))
    where
      one_alone : (x : Finished) → AllPairs Before (x ∷ [])
      one_alone x i j d less h = absurd (omega (arith, less, h))

-- ---- one layer more, with a row without a tile

row_of_none : (own : Name) (n a : ℕ) → row_tiles own a (replicate n None) ≡ []
row_of_none own zero a = refl
row_of_none own (suc n) a = row_of_none own n (a + 1)

tiles_longer : (layers : List Layer) (rows : List (List (Option Tile))) (layer : Layer) (n : ℕ) → length rows ≡ length layers → tiles_of (layers ++ layer ∷ []) (rows ++ replicate n None ∷ []) ≡ tiles_of layers rows
tiles_longer [] [] layer n e = ap (λ ts. ts ++ []) (row_of_none layer.name n 0)
tiles_longer [] (row ∷ rows) layer n e = absurd (omega (arith, e))
tiles_longer (l ∷ ls) [] layer n e = absurd (omega (arith, e))
tiles_longer (l ∷ ls) (row ∷ rows) layer n e = ap (λ ts. row_tiles l.name 0 row ++ ts) (tiles_longer ls rows layer n (omega (arith, e)))

module _ (layers longer shared : List Layer) (rows made : List (List (Option Tile))) (valid : IsTable layers rows) (more : IsLonger layers longer) (book : IsBook longer) (same : shared ≡ longer) (pushed : made ≡ rows ++ replicate column_count None ∷ []) where
  as_many : length rows ≡ length layers
  as_many = ap length valid.filled ∙ length-map layers (λ (l : Layer). row_by (tile_at (tiles_of layers rows) l.name))

  pub longer_tiles : tiles_of shared made ≡ tiles_of layers rows
  longer_tiles = (λ i. tiles_of (same i) (pushed i)) ∙ ap (λ ls. tiles_of ls (rows ++ replicate column_count None ∷ [])) more.1 ∙ tiles_longer layers rows more.0 column_count as_many

  still_derived : (name : Name) → stands_as_derived layers name ≡ true → stands_as_derived longer name ≡ true
  still_derived name there =
      ap (λ ls. stands_as_derived ls name) more.1 ∙ list_any-append (λ (l : Layer). bytes_eq l.name name && is_derived l.content) layers (more.0 ∷ [])
      ∙ or_left (stands_as_derived layers name) (stands_as_derived (more.0 ∷ []) name) there

  bare_last : replicate column_count None ≡ row_by (tile_at (tiles_of layers rows) more.0.name)
  bare_last =
      let strange = fresh [] layers more.0 [] (subst (λ ls. is_orderly_after [] ls ≡ true) more.1 book.sound.orderly) in
      same_row (λ k. None) (tile_at (tiles_of layers rows) more.0.name) (λ k h. sym (nothing_strange (laid_in layers rows) valid.laid more.0.name k strange))

  pub longer_is_table : IsTable shared made
  longer_is_table =
      subst (λ ls. IsTable ls made) (sym same)
      (is_table longer (tile_at (tiles_of layers rows)) (record {
        fit = λ name k tile e. let fits = valid.laid.fit name k tile e in (still_derived name fits.0, fits.1);
        formed = valid.laid.formed;
      }) made
      (pushed ∙ (λ i. valid.filled i ++ bare_last i ∷ []) ∙ sym (ap (rows_by (tile_at (tiles_of layers rows))) more.1 ∙ map-append (λ (l : Layer). row_by (tile_at (tiles_of layers rows) l.name)) layers (more.0 ∷ [])))
      book)

-- ---- the tiles of rows, one column and one layer after the other

pub row_more : (own : Name) (a k : ℕ) (slots : List (Option Tile)) → k < length slots → row_tiles own a (take (suc k) slots) ≡ row_tiles own a (take k slots) ++ row_tiles own (a + k) (get_or slots k None ∷ [])
row_more own a k [] h = absurd (omega (arith, h))
row_more own a zero (slot ∷ slots) h = ap (λ n. row_tiles own n (slot ∷ [])) (sym (add-zero a))
row_more own a (suc k) (slot ∷ slots) h = more slot (row_more own (a + 1) k slots (omega (arith, h))) where
  level : (a + 1) + k ≡ a + suc k
  level = omega arith

  more : (slot : Option Tile) → row_tiles own (a + 1) (take (suc k) slots) ≡ row_tiles own (a + 1) (take k slots) ++ row_tiles own ((a + 1) + k) (get_or slots k None ∷ [])
      → row_tiles own a (slot ∷ take (suc k) slots) ≡ row_tiles own a (slot ∷ take k slots) ++ row_tiles own (a + suc k) (get_or slots k None ∷ [])
  more None next = next ∙ ap (λ n. row_tiles own (a + 1) (take k slots) ++ row_tiles own n (get_or slots k None ∷ [])) level
  more (Some tile) next =
      ap (λ ts. record { name = own; column = a; tile = tile } ∷ ts) (next ∙ ap (λ n. row_tiles own (a + 1) (take k slots) ++ row_tiles own n (get_or slots k None ∷ [])) level)

pub tiles_more : (layers : List Layer) (rows : List (List (Option Tile))) (i : ℕ) (layer : Layer) (row : List (Option Tile)) → slice_get layers i ≡ Some layer → slice_get rows i ≡ Some row
    → tiles_of (take (suc i) layers) (take (suc i) rows) ≡ tiles_of (take i layers) (take i rows) ++ row_tiles layer.name 0 row
tiles_more [] rows i layer row e f = absurd (cc)
tiles_more (l ∷ ls) [] i layer row e f = absurd (cc)
tiles_more (l ∷ ls) (r ∷ rs) zero layer row e f =
    let same_layer = same_Some l layer e in
    let same_row = same_Some r row f in
    append-nil (row_tiles l.name 0 r) ∙ (λ x. row_tiles (same_layer x).name 0 (same_row x))
tiles_more (l ∷ ls) (r ∷ rs) (suc i) layer row e f =
    ap (λ ts. row_tiles l.name 0 r ++ ts) (tiles_more ls rs i layer row e f)
    ∙ sym (append_assoc (row_tiles l.name 0 r) (tiles_of (take i ls) (take i rs)) (row_tiles layer.name 0 row))

pub tiles_whole : (layers : List Layer) (rows : List (List (Option Tile))) → tiles_of (take (length layers) layers) (take (length layers) rows) ≡ tiles_of layers rows
tiles_whole [] rows = refl
tiles_whole (l ∷ ls) [] = refl
tiles_whole (l ∷ ls) (row ∷ rows) = ap (λ ts. row_tiles l.name 0 row ++ ts) (tiles_whole ls rows)

-- ---- as calls give them

-- a table with a tile more, where it is there
pub next_ok : {E : Type 0} (r : Result Tabled E) (layers : List Layer) (tiles : List Finished) (f : Finished) (tile : Tile) → tile ≡ f.tile → AllPairs (λ a b. IsTrue (is_tile_before layers a b)) tiles → All (λ g. IsTrue (is_tile_before layers g f)) tiles
    → IfOk r (λ next. next.layers ≡ layers)
    → IfOk r (λ next. (name : Name) (k : ℕ) → tile_at (tiles_in next) name k ≡ (if bytes_eq f.name name && (f.column == k) then Some tile else tile_at tiles name k))
    → IfOk r (λ next. IsLaid (laid next)) → IfOk r (λ next. tiles_in next ≡ tiles ++ f ∷ [])
next_ok (Ok next) layers tiles f tile same ordered ahead are finds valid =
    next_behind layers tiles (tiles_in next) f ordered (subst (λ ls. AllPairs (λ a b. IsTrue (is_tile_before ls a b)) (tiles_in next)) are valid.ordered) ahead
    (λ name k. finds name k ∙ ap (λ t. if bytes_eq f.name name && (f.column == k) then Some t else tile_at tiles name k) same)
next_ok (Err e) layers tiles f tile same ordered ahead are finds valid = are

pub column_more : (own : Name) (before list made : List Finished) (slots : List (Option Tile)) (k : ℕ) → k < length slots → list ≡ before ++ row_tiles own 0 (take k slots) → made ≡ list ++ row_tiles own k (get_or slots k None ∷ [])
    → made ≡ before ++ row_tiles own 0 (take (k + 1) slots)
column_more own before list made slots k h so_far e =
    let start : 0 + k ≡ k = omega arith in
    let one = row_tiles own k (get_or slots k None ∷ []) in
    let step : row_tiles own 0 (take (k + 1) slots) ≡ row_tiles own 0 (take k slots) ++ one =
    ap (λ n. row_tiles own 0 (take n slots)) (add-one k) ∙ row_more own 0 k slots h ∙ ap (λ n. row_tiles own 0 (take k slots) ++ row_tiles own n (get_or slots k None ∷ [])) start in
    e ∙ ap (λ ts. ts ++ one) so_far ∙ append_assoc before (row_tiles own 0 (take k slots)) one ∙ ap (λ ts. before ++ ts) (sym step)

pub layer_more : (layers : List Layer) (rows : List (List (Option Named))) (i : ℕ) (layer : Layer) (row : List (Option Named)) (list made : List Finished) → slice_get layers i ≡ Some layer → slice_get rows i ≡ Some row
    → list ≡ tiles_of (take i layers) (take i (placed_rows rows)) → made ≡ list ++ row_tiles layer.name 0 (places_in row) → made ≡ tiles_of (take (i + 1) layers) (take (i + 1) (placed_rows rows))
layer_more layers rows i layer row list made here there so_far e =
    e ∙ ap (λ ts. ts ++ row_tiles layer.name 0 (places_in row)) so_far
    ∙ sym (ap (λ n. tiles_of (take n layers) (take n (placed_rows rows))) (add-one i)
    ∙ tiles_more layers (placed_rows rows) i layer (places_in row) here (slice_get-map (λ r. places_in r) rows i ∙ ap (λ (o : Option (List (Option Named))). option_map (λ r. places_in r) o) there))
