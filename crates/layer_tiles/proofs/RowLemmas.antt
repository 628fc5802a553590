-- Slots and rows one after another.
use Rattle.std.specs.Prelude.{◌≡◌, ℕ, ◌+◌, ◌<◌, ◌≤◌, is_some, Bool, true, false, List, [], ◌∷◌, ◌++◌, map, set, take, replicate, slice_get, Option, Some, None, if◌then◌else◌}
use Rattle.std.specs.List.{range_with_len, list_any}
use Rattle.std.proofs.Common.{zero, suc, nat_lt, length, get_or, refl, ap, sym, subst, ◌∙◌, add-one, add-zero, arith}
use Rattle.std.proofs.lemmas.Bool.Decides.{nat_tests}
use Rattle.std.proofs.lemmas.List.{map-append}
use Rattle.overlay_terms.specs.Column.{column_count}
use Rattle.overlay_terms.specs.Layers.{Name, Layer}
use Rattle.overlay_terms.specs.Histories as terms
use Rattle.layer_tiles.specs.TileCode.{Named}
use Rattle.layer_book.specs.Layer.{IsBook}
use Rattle.layer_book.proofs.Answering.{take_there}
use Rattle.layer_tiles.specs.declared.tiles.Slot.{Slot}
use Rattle.layer_tiles.specs.Table.{tile_in_slot, row_by, rows_by, row_tiles, tiles_of, IsTable}
use Rattle.layer_tiles.proofs.Tables.{is_table, IsFound}

-- one number more at the end
pub range_more : (a n : ℕ) → range_with_len a (suc n) ≡ range_with_len a n ++ (a + n) ∷ []
range_more a zero = ap (λ k. k ∷ []) (sym (add-zero a))
range_more a (suc n) =
    let last : (a + 1) + n ≡ a + suc n = omega arith in
    ap (λ ks. a ∷ ks) (range_more (a + 1) n) ∙ ap (λ k. a ∷ (range_with_len (a + 1) n ++ k ∷ [])) last

-- the tiles of slots, one of which is replaced
pub map_set : (slots : List Slot) (i : ℕ) (slot : Slot) → map tile_in_slot (set slots i slot) ≡ set (map tile_in_slot slots) i (tile_in_slot slot)
map_set [] zero slot = refl
map_set [] (suc i) slot = refl
map_set (s ∷ slots) zero slot = refl
map_set (s ∷ slots) (suc i) slot = ap (λ xs. tile_in_slot s ∷ xs) (map_set slots i slot)

pub length_set : (slots : List Slot) (i : ℕ) (slot : Slot) → length (set slots i slot) ≡ length slots
length_set [] zero slot = refl
length_set [] (suc i) slot = refl
length_set (s ∷ slots) zero slot = refl
length_set (s ∷ slots) (suc i) slot = ap suc (length_set slots i slot)

-- one slot more of those that are left
pub left_more : (row : List (Option Named)) (marks : List Bool) (made after : List Slot) (kept : Slot) (i : ℕ)
    → tile_in_slot kept ≡ (if get_or marks i false then None else get_or row i None)
    → map tile_in_slot made ≡ map (λ k. if get_or marks k false then None else get_or row k None) (range_with_len 0 i)
    → after ≡ made ++ kept ∷ [] → map tile_in_slot after ≡ map (λ k. if get_or marks k false then None else get_or row k None) (range_with_len 0 (i + 1))
left_more row marks made after kept i here so_far pushed =
    let at : ℕ → Option Named = λ k. if get_or marks k false then None else get_or row k None in
    let start : 0 + i ≡ i = omega arith in
    ap (map tile_in_slot) pushed ∙ map-append tile_in_slot made (kept ∷ []) ∙ (λ x. so_far x ++ here x ∷ [])
    ∙ sym (ap (λ n. map at (range_with_len 0 n)) (add-one i) ∙ ap (map at) (range_more 0 i ∙ ap (λ j. range_with_len 0 i ++ j ∷ []) start) ∙ map-append at (range_with_len 0 i) (i ∷ []))

pub no_tile : (slot : Option Named) → is_some slot ≡ false → slot ≡ None
no_tile None e = refl
no_tile (Some tile) e = absurd (cc)

-- the tiles of a row that no mark takes away
module _ (marks : List Bool) (row : List (Option Named)) where
  abbrev left_at_column : ℕ → Option Named
  left_at_column k = if get_or marks k false then None else get_or row k None

  -- no column before one is marked, or not marked, and has a tile
  pub none_more : (marked : Bool) (n : ℕ) → ((k : ℕ) → k < n → get_or marks k false ≡ marked → get_or row k None ≡ None) → (get_or marks n false ≡ marked → get_or row n None ≡ None)
      → (k : ℕ) → k < n + 1 → get_or marks k false ≡ marked → get_or row k None ≡ None
  none_more marked n before here k h e = split (nat_lt k n) refl where
    split : (b : Bool) → nat_lt k n ≡ b → get_or row k None ≡ None
    split true less = let near : k < n = grind (arith, nat_tests) in before k near e
    split false more =
        let past : n ≤ k = grind (arith, nat_tests) in
        let last : n ≡ k = omega arith in
        subst (λ m. get_or marks m false ≡ marked → get_or row m None ≡ None) last here e

  pub whole_left : ((k : ℕ) → k < column_count → get_or marks k false ≡ true → get_or row k None ≡ None) → (k : ℕ) → k < column_count → left_at_column k ≡ get_or row k None
  whole_left none k less = by_mark (get_or marks k false) (none k less) where
    by_mark : (b : Bool) → (b ≡ true → get_or row k None ≡ None) → (if b then None else get_or row k None) ≡ get_or row k None
    by_mark true gone = sym (gone refl)
    by_mark false gone = refl

  pub bare_left : ((k : ℕ) → k < column_count → get_or marks k false ≡ false → get_or row k None ≡ None) → (k : ℕ) → k < column_count → left_at_column k ≡ None
  bare_left none k less = by_mark (get_or marks k false) (none k less) where
    by_mark : (b : Bool) → (b ≡ false → get_or row k None ≡ None) → (if b then None else get_or row k None) ≡ None
    by_mark true gone = refl
    by_mark false gone = gone refl

  -- a row without a tile
  pub nothing_there : (slots : List (Option Named)) (k : ℕ) → list_any is_some slots ≡ false → get_or slots k None ≡ None
  nothing_there [] k e = refl
  nothing_there (None ∷ slots) zero e = refl
  nothing_there (None ∷ slots) (suc k) e = nothing_there slots k e
  nothing_there (Some tile ∷ slots) k e = absurd (cc)

  pub bare_row : ((k : ℕ) → k < column_count → left_at_column k ≡ None) → replicate column_count None ≡ row_by left_at_column
  bare_row each = sym (all_none column_count 0 (λ k less. let start : 0 + k ≡ k = omega arith in ap left_at_column start ∙ each k less)) where
    all_none : (n a : ℕ) → ((k : ℕ) → k < n → left_at_column (a + k) ≡ None) → map left_at_column (range_with_len a n) ≡ replicate n None
    all_none zero a h = refl
    all_none (suc n) a h =
        let start : a ≡ a + 0 = omega arith in
        let first : left_at_column a ≡ None = ap left_at_column start ∙ h 0 (omega arith) in
        let rest = all_none n (a + 1) (λ k less. let next : (a + 1) + k ≡ a + suc k = omega arith in ap left_at_column next ∙ h (suc k) (omega (arith, less))) in
        λ i. first i ∷ rest i

  by_column : (f : ℕ → Option Named) (slots : List (Option Named)) (a : ℕ) → ((k : ℕ) → k < length slots → f (a + k) ≡ get_or slots k None) → map f (range_with_len a (length slots)) ≡ slots
  by_column f [] a h = refl
  by_column f (slot ∷ slots) a h =
      let start : a ≡ a + 0 = omega arith in
      let first : f a ≡ slot = ap f start ∙ h 0 (omega arith) in
      let rest : map f (range_with_len (a + 1) (length slots)) ≡ slots =
      by_column f slots (a + 1) (λ k less. let next : (a + 1) + k ≡ a + suc k = omega arith in ap f next ∙ h (suc k) (omega (arith, less))) in
      λ i. first i ∷ rest i

  pub whole_row : length row ≡ column_count → ((k : ℕ) → k < column_count → left_at_column k ≡ get_or row k None) → row ≡ row_by left_at_column
  whole_row size each =
      sym (ap (λ m. map left_at_column (range_with_len 0 m)) (sym size)
      ∙ by_column left_at_column row 0 (λ k less. let start : 0 + k ≡ k = omega arith in ap left_at_column start ∙ each k (omega (arith, size, less))))

-- one row more, and all
pub rows_more : (found : Name → ℕ → Option terms.Tile) (layers : List Layer) (i : ℕ) (layer : Layer) (old new : List (List (Option terms.Tile))) (row : List (Option terms.Tile))
    → slice_get layers i ≡ Some layer → old ≡ rows_by found (take i layers) → row ≡ row_by (found layer.name) → new ≡ old ++ row ∷ []
    → new ≡ rows_by found (take (i + 1) layers)
rows_more found layers i layer old new row e before is made =
    made ∙ (λ x. before x ++ is x ∷ [])
    ∙ sym (ap (rows_by found) (ap (λ k. take k layers) (add-one i) ∙ take_there layers i layer e) ∙ map-append (λ (l : Layer). row_by (found l.name)) (take i layers) (layer ∷ []))

take_whole : (layers : List Layer) → take (length layers) layers ≡ layers
take_whole [] = refl
take_whole (l ∷ layers) = ap (λ ls. l ∷ ls) (take_whole layers)

pub rows_whole : (found : Name → ℕ → Option terms.Tile) (layers : List Layer) (i : ℕ) (rows : List (List (Option terms.Tile))) → i ≡ length layers → rows ≡ rows_by found (take i layers) → rows ≡ rows_by found layers
rows_whole found layers i rows e is = is ∙ ap (rows_by found) (ap (λ k. take k layers) e ∙ take_whole layers)

-- nothing is found
abbrev pub nowhere : Name → ℕ → Option terms.Tile
nowhere name k = None

-- empty rows are those in which nothing is found, and have no tile
pub rows_nowhere : (layers : List Layer) → replicate (length layers) (replicate column_count None) ≡ rows_by nowhere layers
rows_nowhere [] = refl
rows_nowhere (l ∷ ls) = let later = rows_nowhere ls in λ i. replicate column_count None ∷ later i

row_nowhere : (own : Name) (n a : ℕ) → row_tiles own a (map (nowhere own) (range_with_len a n)) ≡ []
row_nowhere own zero a = refl
row_nowhere own (suc n) a = row_nowhere own n (a + 1)

pub tiles_nowhere : (layers : List Layer) → tiles_of layers (rows_by nowhere layers) ≡ []
tiles_nowhere [] = refl
tiles_nowhere (l ∷ ls) = (λ i. row_nowhere l.name column_count 0 i ++ tiles_nowhere ls i)

nowhere_found : (layers : List Layer) → IsFound layers nowhere
nowhere_found layers = record { fit = λ name k tile e. absurd (cc); formed = λ name k tile e. absurd (cc) }

module _ (layers shared : List Layer) (count : ℕ) (rows : List (List (Option terms.Tile))) (all : count ≡ length layers) (same : shared ≡ layers) (made : rows ≡ replicate count (replicate column_count None)) where
  made_empty : rows ≡ rows_by nowhere layers
  made_empty = made ∙ ap (λ n. replicate n (replicate column_count None)) all ∙ rows_nowhere layers

  pub empty_is_table : IsBook layers → IsTable shared rows
  empty_is_table book = subst (λ ls. IsTable ls rows) (sym same) (is_table layers nowhere (nowhere_found layers) rows made_empty book)

  pub empty_has_none : tiles_of shared rows ≡ []
  empty_has_none = (λ i. tiles_of (same i) (made_empty i)) ∙ tiles_nowhere layers
