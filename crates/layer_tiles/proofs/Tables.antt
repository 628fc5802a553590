-- What is found among the tiles of a table, in which order they are, and what its rows are.
use Rattle.std.specs.Prelude.{◌≡◌, ℕ, ◌+◌, ◌<◌, ◌≤◌, ◌==◌, nat_lt, Bool, true, false, ◌&&◌, ◌||◌, IsTrue, List, [], ◌∷◌, ◌++◌, map, set, slice_get, Option, Some, None, is_some, bytes_eq, All, if◌then◌else◌}
use Rattle.std.specs.List.{AllPairs, range_with_len}
use Rattle.std.proofs.Common.{zero, suc, get_or, refl, ap, sym, ◌∙◌, subst, cond, add-one, arith}
use Rattle.std.proofs.lemmas.Bool.{and_from, or_left, or_right, or_parts, eqb-true, false≢true}
use Rattle.std.proofs.lemmas.Bool.Decides.{nat_tests}
use Rattle.std.proofs.lemmas.List.Elements.{All-nil, All-cons, All-append}
use Rattle.std.proofs.lemmas.List.Kept.{AllPairs-cons}
use Rattle.std.proofs.lemmas.List.FromFn.{get_or-map-range_with_len}
use Rattle.overlay_terms.specs.Column.{column_count}
use Rattle.overlay_terms.specs.Layers.{Name, Layer}
use Rattle.overlay_terms.specs.Commands.{index_of, stands, stands_as_derived}
use Rattle.overlay_terms.specs.Orderly.{is_orderly_after}
use Rattle.overlay_terms.specs.Histories.{Tile, Finished, tile_at, is_formed}
use Rattle.overlay_terms.specs.StoredTiles.{is_tile_before}
use Rattle.overlay_terms.proofs.NameLemmas.{same_name}
use Rattle.overlay_terms.proofs.KeptDerived.{derived_stands}
use Rattle.layer_book.specs.Layer.{IsBook}
use Rattle.layer_book.proofs.Names.{own_name, turned}
use Rattle.layer_book.proofs.Order.{apart, head_of}
use Rattle.layer_book.proofs.Wanted.{index_at}
use Rattle.layer_tiles.specs.Table.{row_by, rows_by, row_tiles, tiles_of, IsTable}
use Rattle.layer_tiles.proofs.Restored.{found_is}

-- ---- what is found in lists, one after the other

pub found_left : (xs ys : List Finished) (name : Name) (k : ℕ) → is_some (tile_at xs name k) ≡ true → is_some (tile_at (xs ++ ys) name k) ≡ true
found_left [] ys name k there = absurd (false≢true there)
found_left (f ∷ fs) ys name k there = split (bytes_eq f.name name && (f.column == k)) (found_left fs ys name k) there where
  split : (b : Bool) → (is_some (tile_at fs name k) ≡ true → is_some (tile_at (fs ++ ys) name k) ≡ true) → is_some (cond b (Some f.tile) (tile_at fs name k)) ≡ true → is_some (cond b (Some f.tile) (tile_at (fs ++ ys) name k)) ≡ true
  split true next here = refl
  split false next here = next here

pub found_right : (xs ys : List Finished) (name : Name) (k : ℕ) → is_some (tile_at ys name k) ≡ true → is_some (tile_at (xs ++ ys) name k) ≡ true
found_right [] ys name k there = there
found_right (f ∷ fs) ys name k there = split (bytes_eq f.name name && (f.column == k)) (found_right fs ys name k there) where
  split : (b : Bool) → is_some (tile_at (fs ++ ys) name k) ≡ true → is_some (cond b (Some f.tile) (tile_at (fs ++ ys) name k)) ≡ true
  split true next = refl
  split false next = next

pub all_pairs_joined : {X : Type 0} (R : X → X → Type 0) (xs ys : List X) → AllPairs R xs → AllPairs R ys → All (λ x. All (R x) ys) xs → AllPairs R (xs ++ ys)
all_pairs_joined R [] ys first second across = second
all_pairs_joined R (x ∷ xs) ys first second across =
    AllPairs-cons R x (xs ++ ys) (All-append (R x) xs ys (λ k d h. first zero (suc k) d (omega arith) (omega arith)) (across zero x (omega arith)))
    (all_pairs_joined R xs ys (λ i j d less h. first (suc i) (suc j) d (omega arith) (omega arith)) second (λ k d h. across (suc k) d (omega arith)))

pub no_pairs : {X : Type 0} (R : X → X → Type 0) → AllPairs R []
no_pairs R i j d less h = absurd (omega arith)

-- ---- lists by columns

-- what is the same in each column
same_from : {X : Type 0} (f g : ℕ → X) (n a : ℕ) → ((k : ℕ) → a ≤ k → k < a + n → f k ≡ g k) → map f (range_with_len a n) ≡ map g (range_with_len a n)
same_from f g zero a same = refl
same_from f g (suc n) a same =
    let here : f a ≡ g a = same a (omega arith) (omega arith) in
    let later : map f (range_with_len (a + 1) n) ≡ map g (range_with_len (a + 1) n) = same_from f g n (a + 1) (λ k low high. same k (omega arith) (omega (arith, high))) in
    λ i. here i ∷ later i

pub same_row : (f g : ℕ → Option Tile) → ((k : ℕ) → k < column_count → f k ≡ g k) → row_by f ≡ row_by g
same_row f g same = same_from f g column_count 0 (λ k low high. same k (omega (arith, high)))

-- the slot of a column in a row
pub slot_by : (f : ℕ → Option Tile) (k : ℕ) → k < column_count → get_or (row_by f) k None ≡ f k
slot_by f k h = get_or-map-range_with_len f 0 column_count k k None h (omega arith)

-- a row with another slot
set_from : {X : Type 0} (f : ℕ → X) (x : X) (n a j c : ℕ) → a + j ≡ c → j < n → set (map f (range_with_len a n)) j x ≡ map (λ k. if c == k then x else f k) (range_with_len a n)
set_from f x zero a j c e h = absurd (omega arith)
set_from f x (suc n) a zero c e h =
    let here : (c == a) ≡ true = grind (arith, nat_tests) in
    let first : x ≡ (if c == a then x else f a) = sym (ap (λ b. if b then x else f a) here) in
    let rest : map f (range_with_len (a + 1) n) ≡ map (λ k. if c == k then x else f k) (range_with_len (a + 1) n) =
    same_from f (λ k. if c == k then x else f k) n (a + 1) (λ k low high. let away : (c == k) ≡ false = grind (arith, nat_tests) in sym (ap (λ b. if b then x else f k) away)) in
    λ i. first i ∷ rest i
set_from f x (suc n) a (suc j) c e h =
    let away : (c == a) ≡ false = grind (arith, nat_tests) in
    let first : f a ≡ (if c == a then x else f a) = sym (ap (λ b. if b then x else f a) away) in
    let rest : set (map f (range_with_len (a + 1) n)) j x ≡ map (λ k. if c == k then x else f k) (range_with_len (a + 1) n) = set_from f x n (a + 1) j c (omega arith) (omega arith) in
    λ i. first i ∷ rest i

pub set_row : (f : ℕ → Option Tile) (x : Option Tile) (k : ℕ) → k < column_count → set (row_by f) k x ≡ row_by (λ j. if k == j then x else f j)
set_row f x k h = set_from f x column_count 0 k k (omega arith) h

-- ---- lists by layers

-- what is at the index of a name
pub at_index_of : {X : Type 0} (g : Name → X) (layers : List Layer) (name : Name) → slice_get (map (λ (layer : Layer). g layer.name) layers) (index_of layers name) ≡ (if stands layers name then Some (g name) else None)
at_index_of g [] name = refl
at_index_of g (l ∷ layers) name = split (bytes_eq l.name name) refl (at_index_of g layers name) where
  split : (b : Bool) → bytes_eq l.name name ≡ b → slice_get (map (λ (layer : Layer). g layer.name) layers) (index_of layers name) ≡ (if stands layers name then Some (g name) else None) →
      slice_get (map (λ (layer : Layer). g layer.name) (l ∷ layers)) (cond b 0 (index_of layers name + 1)) ≡ (if (b || stands layers name) then Some (g name) else None)
  split true at next = ap (λ n. Some (g n)) (same_name l.name name at)
  split false at next = ap (slice_get (map (λ (layer : Layer). g layer.name) (l ∷ layers))) (add-one (index_of layers name)) ∙ next

module _ (found : Name → ℕ → Option Tile) (name : Name) (column : ℕ) (x : Option Tile) where
  -- the same, and another tile in one place
  abbrev pub found_with : Name → ℕ → Option Tile
  found_with other k = if bytes_eq name other && (column == k) then x else found other k

  away_from : (other : Name) → bytes_eq other name ≡ false → row_by (found other) ≡ row_by (found_with other)
  away_from other away =
      same_row (found other) (found_with other) (λ k h. sym (ap (λ b. if b && (column == k) then x else found other k) (turned name other ∙ away)))

  rows_away : (layers : List Layer) → stands layers name ≡ false → rows_by found layers ≡ rows_by found_with layers
  rows_away [] away = refl
  rows_away (l ∷ ls) away =
      let parts = or_parts (bytes_eq l.name name) (stands ls name) away in
      let here = away_from l.name parts.0 in
      let later = rows_away ls parts.1 in
      λ i. here i ∷ later i

  -- the row of the layer as it is then
  pub row_with : column < column_count → set (row_by (found name)) column x ≡ row_by (found_with name)
  row_with h =
      set_row (found name) x column h
      ∙ same_row (λ k. if column == k then x else found name k) (found_with name) (λ k h. sym (ap (λ b. if b && (column == k) then x else found name k) (own_name name)))

  pub rows_with : (known : List Name) (layers : List Layer) → is_orderly_after known layers ≡ true → stands layers name ≡ true
      → set (rows_by found layers) (index_of layers name) (row_by (found_with name)) ≡ rows_by found_with layers
  rows_with known [] orderly there = absurd (false≢true there)
  rows_with known (l ∷ ls) orderly there =
      split (bytes_eq l.name name) refl there (apart known l ls orderly) (rows_with (known ++ l.name ∷ []) ls (head_of known l ls orderly).behind)
    where
      split : (b : Bool) → bytes_eq l.name name ≡ b → (b || stands ls name) ≡ true → stands ls l.name ≡ false
          → (stands ls name ≡ true → set (rows_by found ls) (index_of ls name) (row_by (found_with name)) ≡ rows_by found_with ls)
          → set (rows_by found (l ∷ ls)) (cond b 0 (index_of ls name + 1)) (row_by (found_with name)) ≡ rows_by found_with (l ∷ ls)
      split true here stand own next =
          let level : name ≡ l.name = sym (same_name l.name name here) in
          let first : row_by (found_with name) ≡ row_by (found_with l.name) = ap (λ n. row_by (found_with n)) level in
          let later = rows_away ls (subst (λ (n : Name). stands ls n ≡ false) (same_name l.name name here) own) in
          λ i. first i ∷ later i
      split false away stand own next =
          let first = away_from l.name away in
          let later = next stand in
          ap (λ j. set (rows_by found (l ∷ ls)) j (row_by (found_with name))) (add-one (index_of ls name)) ∙ (λ i. first i ∷ later i)

-- ---- the tiles of rows that have what is found

module _ (found : Name → ℕ → Option Tile) where
  abbrev IsFoundTile : Finished → Type 0
  IsFoundTile f = found f.name f.column ≡ Some f.tile

  row_stands : (own : Name) (n a : ℕ) → All IsFoundTile (row_tiles own a (map (found own) (range_with_len a n)))
  row_stands own zero a = All-nil IsFoundTile
  row_stands own (suc n) a = more (found own a) refl (row_stands own n (a + 1)) where
    later : List (Option Tile)
    later = map (found own) (range_with_len (a + 1) n)

    more : (o : Option Tile) → found own a ≡ o → All IsFoundTile (row_tiles own (a + 1) later) → All IsFoundTile (row_tiles own a (o ∷ later))
    more None e next = next
    more (Some tile) e next = All-cons IsFoundTile (record { name = own; column = a; tile = tile }) (row_tiles own (a + 1) later) e next

  rows_stand : (layers : List Layer) → All IsFoundTile (tiles_of layers (rows_by found layers))
  rows_stand [] = All-nil IsFoundTile
  rows_stand (l ∷ ls) = All-append IsFoundTile (row_tiles l.name 0 (row_by (found l.name))) (tiles_of ls (rows_by found ls)) (row_stands l.name column_count 0) (rows_stand ls)

  one_more : (own : Name) (a k : ℕ) (o : Option Tile) (slots : List (Option Tile)) → is_some (tile_at (row_tiles own (a + 1) slots) own k) ≡ true → is_some (tile_at (row_tiles own a (o ∷ slots)) own k) ≡ true
  one_more own a k None slots there = there
  one_more own a k (Some tile) slots there = split (bytes_eq own own && (a == k)) where
    split : (b : Bool) → is_some (cond b (Some tile) (tile_at (row_tiles own (a + 1) slots) own k)) ≡ true
    split true = refl
    split false = there

  row_there : (own : Name) (n a k : ℕ) (tile : Tile) → a ≤ k → k < a + n → found own k ≡ Some tile → is_some (tile_at (row_tiles own a (map (found own) (range_with_len a n))) own k) ≡ true
  row_there own zero a k tile low high e = absurd (omega arith)
  row_there own (suc n) a k tile low high e = split (a == k) refl (λ more. row_there own n (a + 1) k tile more (omega (arith, high)) e) where
    later : List (Option Tile)
    later = map (found own) (range_with_len (a + 1) n)

    split : (b : Bool) → (a == k) ≡ b → (a + 1 ≤ k → is_some (tile_at (row_tiles own (a + 1) later) own k) ≡ true) → is_some (tile_at (row_tiles own a (found own a ∷ later)) own k) ≡ true
    split true same next =
        let here : found own a ≡ Some tile = ap (found own) (eqb-true a k same) ∙ e in
        ap (λ o. is_some (tile_at (row_tiles own a (o ∷ later)) own k)) here
        ∙ ap (λ b. is_some (cond b (Some tile) (tile_at (row_tiles own (a + 1) later) own k))) (and_from (bytes_eq own own) (a == k) (own_name own) same)
    split false other next =
        let more : a + 1 ≤ k = grind (arith, nat_tests) in
        one_more own a k (found own a) later (next more)

  rows_there : (layers : List Layer) (name : Name) (k : ℕ) (tile : Tile) → stands layers name ≡ true → k < column_count → found name k ≡ Some tile
      → is_some (tile_at (tiles_of layers (rows_by found layers)) name k) ≡ true
  rows_there [] name k tile stand high e = absurd (false≢true stand)
  rows_there (l ∷ ls) name k tile stand high e = split (bytes_eq l.name name) refl stand (λ any. rows_there ls name k tile any high e) where
    rest : List Finished
    rest = tiles_of ls (rows_by found ls)

    split : (b : Bool) → bytes_eq l.name name ≡ b → (b || stands ls name) ≡ true → (stands ls name ≡ true → is_some (tile_at rest name k) ≡ true)
        → is_some (tile_at (row_tiles l.name 0 (row_by (found l.name)) ++ rest) name k) ≡ true
    split true here any next =
        found_left (row_tiles l.name 0 (row_by (found l.name))) rest name k
        (subst (λ (n : Name). is_some (tile_at (row_tiles n 0 (row_by (found n))) name k) ≡ true) (sym (same_name l.name name here)) (row_there name column_count 0 k tile (omega arith) (omega arith) e))
    split false away any next = found_right (row_tiles l.name 0 (row_by (found l.name))) rest name k (next any)

  -- where what is found is of layers and columns that there are, it is found among the tiles
  found_in : (layers : List Layer) → ((name : Name) (k : ℕ) (tile : Tile) → found name k ≡ Some tile → (stands layers name ≡ true) × (k < column_count))
      → (name : Name) (k : ℕ) → tile_at (tiles_of layers (rows_by found layers)) name k ≡ found name k
  found_in layers fit name k = by_found (tile_at (tiles_of layers (rows_by found layers)) name k) (found name k) refl refl where
    by_found : (here there : Option Tile) → tile_at (tiles_of layers (rows_by found layers)) name k ≡ here → found name k ≡ there → here ≡ there
    by_found (Some tile) there e f = sym (found_is IsFoundTile (tiles_of layers (rows_by found layers)) name k tile (rows_stand layers) e) ∙ f
    by_found None None e f = refl
    by_found None (Some tile) e f =
        let fits = fit name k tile f in
        absurd (false≢true (sym (ap is_some e) ∙ rows_there layers name k tile fits.0 fits.1 f))

-- ---- the order of the tiles

-- of this layer, and of a column from a on
abbrev IsFrom : Name → ℕ → Finished → Type 0
IsFrom name a f = (f.name ≡ name) × (a ≤ f.column)

row_from : (own : Name) (a b : ℕ) (slots : List (Option Tile)) → a ≤ b → All (IsFrom own a) (row_tiles own b slots)
row_from own a b [] low = All-nil (IsFrom own a)
row_from own a b (None ∷ slots) low = row_from own a (b + 1) slots (omega arith)
row_from own a b (Some tile ∷ slots) low =
    All-cons (IsFrom own a) (record { name = own; column = b; tile = tile }) (row_tiles own (b + 1) slots) (refl, low) (row_from own a (b + 1) slots (omega arith))

module _ (all : List Layer) where
  abbrev Before : Finished → Finished → Type 0
  Before a b = IsTrue (is_tile_before all a b)

  column_before : (f g : Finished) → f.name ≡ g.name → f.column < g.column → Before f g
  column_before f g same less =
      let lower : nat_lt f.column g.column ≡ true = grind (arith, nat_tests) in
      let alike : bytes_eq f.name g.name ≡ true = subst (λ (n : Name). bytes_eq f.name n ≡ true) same (own_name f.name) in
      or_right (nat_lt (index_of all f.name) (index_of all g.name)) (bytes_eq f.name g.name && nat_lt f.column g.column) (and_from (bytes_eq f.name g.name) (nat_lt f.column g.column) alike lower)

  layer_before : (f g : Finished) → index_of all f.name < index_of all g.name → Before f g
  layer_before f g less =
      let lower : nat_lt (index_of all f.name) (index_of all g.name) ≡ true = grind (arith, nat_tests) in
      or_left (nat_lt (index_of all f.name) (index_of all g.name)) (bytes_eq f.name g.name && nat_lt f.column g.column) lower

  row_ordered : (own : Name) (a : ℕ) (slots : List (Option Tile)) → AllPairs Before (row_tiles own a slots)
  row_ordered own a [] = no_pairs Before
  row_ordered own a (None ∷ slots) = row_ordered own (a + 1) slots
  row_ordered own a (Some tile ∷ slots) =
      let later = row_tiles own (a + 1) slots in
      AllPairs-cons Before (record { name = own; column = a; tile = tile }) later
      (λ k d h. let is = row_from own (a + 1) (a + 1) slots (omega arith) k d h in column_before (record { name = own; column = a; tile = tile }) (get_or later k d) (sym is.0) (omega (arith, is.1)))
      (row_ordered own (a + 1) slots)

  -- each layer's index is that of its place, from j on
  abbrev Indexed : ℕ → List Layer → Type 0
  Indexed j layers = (i : ℕ) (layer : Layer) → slice_get layers i ≡ Some layer → index_of all layer.name ≡ j + i

  next_indexed : (j : ℕ) (l : Layer) (ls : List Layer) → Indexed j (l ∷ ls) → Indexed (j + 1) ls
  next_indexed j l ls is i layer e = is (suc i) layer e ∙ omega arith

  row_at : (j : ℕ) (own : Name) (slots : List (Option Tile)) → index_of all own ≡ j → All (λ f. index_of all f.name ≡ j) (row_tiles own 0 slots)
  row_at j own slots here = λ k d h. ap (index_of all) (row_from own 0 0 slots (omega arith) k d h).0 ∙ here

  rows_from : (j : ℕ) (layers : List Layer) (rows : List (List (Option Tile))) → Indexed j layers → All (λ f. j ≤ index_of all f.name) (tiles_of layers rows)
  rows_from j [] rows is = All-nil (λ f. j ≤ index_of all f.name)
  rows_from j (l ∷ ls) [] is = All-nil (λ f. j ≤ index_of all f.name)
  rows_from j (l ∷ ls) (row ∷ rows) is =
      let here : index_of all l.name ≡ j = is zero l refl ∙ omega arith in
      All-append (λ f. j ≤ index_of all f.name) (row_tiles l.name 0 row) (tiles_of ls rows)
      (λ k d h. omega (arith, row_at j l.name row here k d h))
      (λ k d h. omega (arith, rows_from (j + 1) ls rows (next_indexed j l ls is) k d h))

  rows_ordered : (j : ℕ) (layers : List Layer) (rows : List (List (Option Tile))) → Indexed j layers → AllPairs Before (tiles_of layers rows)
  rows_ordered j [] rows is = no_pairs Before
  rows_ordered j (l ∷ ls) [] is = no_pairs Before
  rows_ordered j (l ∷ ls) (row ∷ rows) is =
      let here : index_of all l.name ≡ j = is zero l refl ∙ omega arith in
      all_pairs_joined Before (row_tiles l.name 0 row) (tiles_of ls rows) (row_ordered l.name 0 row) (rows_ordered (j + 1) ls rows (next_indexed j l ls is))
      (λ i d h k e g. layer_before (get_or (row_tiles l.name 0 row) i d) (get_or (tiles_of ls rows) k e) (omega (arith, row_at j l.name row here i d h, rows_from (j + 1) ls rows (next_indexed j l ls is) k e g)))

-- ---- together

-- what is found for some layers: of derived layers and of columns that there are, and of its form
pub record IsFound (layers : List Layer) (found : Name → ℕ → Option Tile) : Type 0 where
  pub fit : (name : Name) (k : ℕ) (tile : Tile) → found name k ≡ Some tile → IsTrue (stands_as_derived layers name) × (k < column_count)
  pub formed : (name : Name) (k : ℕ) (tile : Tile) → found name k ≡ Some tile → IsTrue (is_formed tile k)

module _ (layers : List Layer) (found : Name → ℕ → Option Tile) (valid : IsFound layers found) (rows : List (List (Option Tile))) (made : rows ≡ rows_by found layers) where
  pub found_there : (name : Name) (k : ℕ) → tile_at (tiles_of layers rows) name k ≡ found name k
  found_there name k =
      ap (λ rs. tile_at (tiles_of layers rs) name k) made
      ∙ found_in found layers (λ n j tile e. let fits = valid.fit n j tile e in (derived_stands layers n fits.0, fits.1)) name k

  same_found : tile_at (tiles_of layers rows) ≡ found
  same_found i name k = found_there name k i

  pub is_table : IsBook layers → IsTable layers rows
  is_table book = record {
    laid = record {
      book = book;
      fit = λ name k tile e. valid.fit name k tile (sym (found_there name k) ∙ e);
      formed = λ name k tile e. valid.formed name k tile (sym (found_there name k) ∙ e);
      ordered = rows_ordered layers 0 layers rows (λ i layer e. index_at [] layers i layer book.sound.orderly e ∙ omega arith);
    };
    filled = made ∙ ap (λ f. rows_by f layers) (sym same_found);
  }
