-- What the rows of a table say, and what is left of them after a command.
use Rattle.std.specs.Prelude.{◌≡◌, ℕ, ◌<◌, ◌≤◌, nat_lt, Bool, true, false, IsTrue, List, [], set, replicate, slice_get, unwrap_or, Result, Ok, Err, IfOk, Option, Some, None, if◌then◌else◌}
use Rattle.std.specs.Option.{option_map}
use Rattle.std.proofs.Common.{zero, suc, length, get_or, refl, ap, sym, ◌∙◌, subst, arith, ◌∷◌}
use Rattle.std.proofs.lemmas.Bool.{both_ways}
use Rattle.std.proofs.lemmas.Bool.Decides.{nat_tests}
use Rattle.std.proofs.lemmas.List.FromFn.{get_or-map-range_with_len, length-map-range_with_len}
use Rattle.std.proofs.lemmas.Option.{same_Some, slice_get-map, slice_get_past, slice_get_read, slice_get_within, get_or_from_slice_get}
use Rattle.overlay_terms.specs.Column.{column_count}
use Rattle.overlay_terms.specs.Layers.{Name, Layer}
use Rattle.overlay_terms.specs.Commands.{Command, applied, index_of, stands, stands_as_derived}
use Rattle.overlay_terms.specs.Touched.{is_touched}
use Rattle.overlay_terms.specs.Histories.{Tile, tile_at, is_formed}
use Rattle.overlay_terms.proofs.KeptDerived.{derived_stands}
use Rattle.layer_book.specs.Layer.{IsBook}
use Rattle.layer_book.specs.Touching.{touched_columns, touched_rows}
use Rattle.layer_tiles.specs.Table.{row_by, rows_by, tiles_of, left_at, laid_in, Laid, IsLaid, IsTable}
use Rattle.layer_tiles.proofs.Tables.{at_index_of, same_row, slot_by, found_with, row_with, rows_with, is_table, found_there, IsFound}
use Rattle.layer_tiles.proofs.FoundLemmas.{with_found, left_found}

-- what is at an index, as a row of look-ups
abbrev pub row_there : Laid → ℕ → Option (List (Option Tile))
row_there laid i = option_map (λ (layer : Layer). row_by (tile_at laid.tiles layer.name)) (slice_get laid.layers i)

-- the row at an index of a table
pub row_of_table : (layers : List Layer) (rows : List (List (Option Tile))) (i : ℕ) → IsTable layers rows → slice_get rows i ≡ row_there (laid_in layers rows) i
row_of_table layers rows i valid =
    ap (λ rs. slice_get rs i) valid.filled ∙ slice_get-map (λ (layer : Layer). row_by (tile_at (tiles_of layers rows) layer.name)) layers i

-- a read within rows, and past them
pub row_read : {X : Type 0} (rows : List X) (i : ℕ) (row : X) → i < length rows → row ≡ get_or rows i row → Some row ≡ slice_get rows i
row_read rows i row h e = sym (slice_get_read rows (length rows) i row refl h e)

pub row_missed : {X : Type 0} (rows : List X) (i : ℕ) → length rows ≤ i → None ≡ slice_get rows i
row_missed rows i h = sym (slice_get_past rows i h)

pub marks_read : (rows : List (List Bool)) (i : ℕ) (marks : List Bool) → i < length rows → marks ≡ get_or rows i marks → marks ≡ unwrap_or (slice_get rows i) (replicate column_count false)
marks_read rows i marks h e = sym (ap (λ o. unwrap_or o (replicate column_count false)) (slice_get_read rows (length rows) i marks refl h e))

pub marks_missed : (rows : List (List Bool)) (i : ℕ) → length rows ≤ i → replicate column_count false ≡ unwrap_or (slice_get rows i) (replicate column_count false)
marks_missed rows i h = sym (ap (λ o. unwrap_or o (replicate column_count false)) (slice_get_past rows i h))

-- what follows of a value that is there
pub ok_then : {A E : Type 0} (r : Result A E) (P Q : A → Type 0) → IfOk r P → ((x : A) → P x → Q x) → IfOk r Q
ok_then (Ok x) P Q h f = f x h
ok_then (Err e) P Q h f = h

module _ (laid : Laid) (valid : IsLaid laid) where
  nothing : (name : Name) (k : ℕ) → ((tile : Tile) → tile_at laid.tiles name k ≡ Some tile → ⊥) → tile_at laid.tiles name k ≡ None
  nothing name k never = by_found (tile_at laid.tiles name k) refl where
    by_found : (o : Option Tile) → tile_at laid.tiles name k ≡ o → o ≡ None
    by_found None e = refl
    by_found (Some tile) e = absurd (never tile e)

  nothing_far : (name : Name) (k : ℕ) → column_count ≤ k → tile_at laid.tiles name k ≡ None
  nothing_far name k far = nothing name k (λ tile e. let near : k < column_count = (valid.fit name k tile e).1 in omega arith)

  pub nothing_strange : (name : Name) (k : ℕ) → stands laid.layers name ≡ false → tile_at laid.tiles name k ≡ None
  nothing_strange name k strange =
      nothing name k (λ tile e. both_ways (stands laid.layers name) strange (derived_stands laid.layers name (valid.fit name k tile e).0))

  named_row : (name : Name) (i : ℕ) → i ≡ index_of laid.layers name → row_there laid i ≡ (if stands laid.layers name then Some (row_by (tile_at laid.tiles name)) else None)
  named_row name i index =
      ap (row_there laid) index ∙ sym (slice_get-map (λ (layer : Layer). row_by (tile_at laid.tiles layer.name)) laid.layers (index_of laid.layers name))
      ∙ at_index_of (λ (n : Name). row_by (tile_at laid.tiles n)) laid.layers name

  -- a row that is there is that of the name; where there is none, no layer has the name
  row_is : (name : Name) (i : ℕ) (row : List (Option Tile)) → i ≡ index_of laid.layers name → Some row ≡ row_there laid i → row ≡ row_by (tile_at laid.tiles name)
  row_is name i row index there = split (stands laid.layers name) (there ∙ named_row name i index) where
    split : (b : Bool) → Some row ≡ (if b then Some (row_by (tile_at laid.tiles name)) else None) → row ≡ row_by (tile_at laid.tiles name)
    split true e = same_Some row (row_by (tile_at laid.tiles name)) e
    split false e = absurd (cc)

  strange_name : (name : Name) (i : ℕ) → i ≡ index_of laid.layers name → None ≡ row_there laid i → stands laid.layers name ≡ false
  strange_name name i index there = split (stands laid.layers name) (there ∙ named_row name i index) where
    split : (b : Bool) → None ≡ (if b then Some (row_by (tile_at laid.tiles name)) else None) → b ≡ false
    split true e = absurd (cc)
    split false e = refl

  -- the slot of a row that is read, which has one for each column
  slot_any : (f : ℕ → Option Tile) (k : ℕ) → column_count ≤ k → get_or (row_by f) k None ≡ None
  slot_any f k far = behind (row_by f) k (omega (arith, length-map-range_with_len f 0 column_count)) where
    behind : (xs : List (Option Tile)) (j : ℕ) → length xs ≤ j → get_or xs j None ≡ None
    behind [] j h = refl
    behind (x ∷ xs) zero h = absurd (omega arith)
    behind (x ∷ xs) (suc j) h = behind xs j (omega arith)

  pub in_row : (name : Name) (i : ℕ) (row : List (Option Tile)) (k : ℕ) → i ≡ index_of laid.layers name → Some row ≡ row_there laid i → get_or row k None ≡ tile_at laid.tiles name k
  in_row name i row k index there = ap (λ r. get_or r k None) (row_is name i row index there) ∙ split (nat_lt k column_count) refl where
    split : (b : Bool) → nat_lt k column_count ≡ b → get_or (row_by (tile_at laid.tiles name)) k None ≡ tile_at laid.tiles name k
    split true e = let near : k < column_count = grind (arith, nat_tests) in slot_by (tile_at laid.tiles name) k near
    split false e = let far : column_count ≤ k = grind (arith, nat_tests) in slot_any (tile_at laid.tiles name) k far ∙ sym (nothing_far name k far)

  pub in_no_row : (name : Name) (i : ℕ) (k : ℕ) → i ≡ index_of laid.layers name → None ≡ row_there laid i → None ≡ tile_at laid.tiles name k
  in_no_row name i k index there = sym (nothing_strange name k (strange_name name i index there))

  -- the row of a layer that has an index, by its name
  pub own_row : (name : Name) (i : ℕ) (row : List (Option Tile)) (layer : Layer) → layer.name ≡ name → Some row ≡ row_there laid i → Some layer ≡ slice_get laid.layers i → row ≡ row_by (tile_at laid.tiles name)
  own_row name i row layer same there here =
      same_Some row (row_by (tile_at laid.tiles layer.name)) (there ∙ sym (ap (option_map (λ (l : Layer). row_by (tile_at laid.tiles l.name))) here)) ∙ ap (λ n. row_by (tile_at laid.tiles n)) same

  -- where there is no row there is no layer
  pub no_layer : (i : ℕ) → None ≡ row_there laid i → None ≡ slice_get laid.layers i
  no_layer i there = split (slice_get laid.layers i) there where
    split : (o : Option Layer) → None ≡ option_map (λ (l : Layer). row_by (tile_at laid.tiles l.name)) o → None ≡ o
    split None e = refl
    split (Some layer) e = absurd (cc)

  module _ (command : Command) (name : Name) where
    none_left : (b : Bool) → ◌≡◌ {A = Option Tile} None (if b then None else None)
    none_left true = refl
    none_left false = refl

    -- a layer that there is not has an empty row
    strange_row : stands laid.layers name ≡ false → replicate column_count None ≡ row_by (left_at laid command name)
    strange_row strange =
        same_row (λ k. None) (left_at laid command name)
        (λ k h. none_left (is_touched laid.layers command name k) ∙ ap (λ o. if is_touched laid.layers command name k then None else o) (sym (nothing_strange name k strange)))

    pub no_row_left : (i : ℕ) → i ≡ index_of laid.layers name → None ≡ row_there laid i → replicate column_count None ≡ row_by (left_at laid command name)
    no_row_left i index there = strange_row (strange_name name i index there)

    marks_are : (i : ℕ) (row : List (Option Tile)) (marks : List Bool) (touched : List (List Bool)) → i ≡ index_of laid.layers name → Some row ≡ row_there laid i → touched ≡ touched_rows laid.layers command → marks ≡ unwrap_or (slice_get touched i) (replicate column_count false) → marks ≡ touched_columns laid.layers command name
    marks_are i row marks touched index there all read =
        read ∙ split (stands laid.layers name) (there ∙ named_row name i index) ((λ x. slice_get (all x) (index x)) ∙ at_index_of (touched_columns laid.layers command) laid.layers name)
      where
        split : (b : Bool) → Some row ≡ (if b then Some (row_by (tile_at laid.tiles name)) else None) → slice_get touched i ≡ (if b then Some (touched_columns laid.layers command name) else None)
            → unwrap_or (slice_get touched i) (replicate column_count false) ≡ touched_columns laid.layers command name
        split true e f = ap (λ o. unwrap_or o (replicate column_count false)) f
        split false e f = absurd (cc)

    mark_at : (marks : List Bool) (k : ℕ) → marks ≡ touched_columns laid.layers command name → k < column_count → get_or marks k false ≡ is_touched laid.layers command name k
    mark_at marks k are h = ap (λ ms. get_or ms k false) are ∙ get_or-map-range_with_len (is_touched laid.layers command name) 0 column_count k k false h (omega arith)

    pub row_left_by : (i : ℕ) (row left : List (Option Tile)) (marks : List Bool) (touched : List (List Bool)) → i ≡ index_of laid.layers name → Some row ≡ row_there laid i → touched ≡ touched_rows laid.layers command
        → marks ≡ unwrap_or (slice_get touched i) (replicate column_count false) → left ≡ row_by (λ k. if get_or marks k false then None else get_or row k None) → left ≡ row_by (left_at laid command name)
    row_left_by i row left marks touched index there all read is =
        is ∙ same_row (λ k. if get_or marks k false then None else get_or row k None) (left_at laid command name)
        (λ k h. (λ x. if mark_at marks k (marks_are i row marks touched index there all read) h x then None else in_row name i row k index there x))

-- one tile more, in the row of its layer
module _ (layers : List Layer) (rows : List (List (Option Tile))) (valid : IsTable layers rows) (name : Name) (column : ℕ) (tile : Tile) (derived_layer : stands_as_derived layers name ≡ true) (known : column < column_count) (formed : IsTrue (is_formed tile column)) (place : ℕ) (index : place ≡ index_of layers name) where
  pub place_known : place < length rows
  place_known = slice_get_within rows place (row_by (tile_at (tiles_of layers rows) name))
      (row_of_table layers rows place valid ∙ named_row (laid_in layers rows) valid.laid name place index ∙ ap (λ b. if b then Some (row_by (tile_at (tiles_of layers rows) name)) else None) (derived_stands layers name derived_layer))

  own : get_or rows place [] ≡ row_by (tile_at (tiles_of layers rows) name)
  own = get_or_from_slice_get rows place (row_by (tile_at (tiles_of layers rows) name)) []
      (row_of_table layers rows place valid ∙ named_row (laid_in layers rows) valid.laid name place index ∙ ap (λ b. if b then Some (row_by (tile_at (tiles_of layers rows) name)) else None) (derived_stands layers name derived_layer))

  module _ (shared : List Layer) (made : List (List (Option Tile))) (set_there : made ≡ set rows place (set (get_or rows place []) column (Some tile))) (same : shared ≡ layers) where
    abbrev found : Name → ℕ → Option Tile
    found = found_with (tile_at (tiles_of layers rows)) name column (Some tile)

    found_is_right : IsFound layers found
    found_is_right = with_found (laid_in layers rows) name column tile valid.laid derived_layer known formed

    made_by : made ≡ rows_by found layers
    made_by =
        set_there ∙ (λ i. set (valid.filled i) (index i) (set (own i) column (Some tile)))
        ∙ ap (set (rows_by (tile_at (tiles_of layers rows)) layers) (index_of layers name)) (row_with (tile_at (tiles_of layers rows)) name column (Some tile) known)
        ∙ rows_with (tile_at (tiles_of layers rows)) name column (Some tile) [] layers valid.laid.book.sound.orderly (derived_stands layers name derived_layer)

    pub with_is_table : IsTable shared made
    with_is_table = subst (λ ls. IsTable ls made) (sym same) (is_table layers found found_is_right made made_by valid.laid.book)

    pub with_finds : (other : Name) (k : ℕ) → tile_at (tiles_of shared made) other k ≡ found other k
    with_finds other k = ap (λ ls. tile_at (tiles_of ls made) other k) same ∙ found_there layers found found_is_right made made_by other k

-- the table that a command leaves
module _ (laid : Laid) (command : Command) (valid : IsLaid laid) (layers shared : List Layer) (rows : List (List (Option Tile))) (are : layers ≡ applied laid.layers command) (same : shared ≡ layers) (made : rows ≡ rows_by (left_at laid command) layers) where
  left_is_right : IsFound layers (left_at laid command)
  left_is_right = subst (λ ls. IsFound ls (left_at laid command)) (sym are) (left_found laid command valid)

  pub after_is_table : IsBook layers → IsTable shared rows
  after_is_table book = subst (λ ls. IsTable ls rows) (sym same) (is_table layers (left_at laid command) left_is_right rows made book)

  pub after_finds : (name : Name) (k : ℕ) → tile_at (tiles_of shared rows) name k ≡ left_at laid command name k
  after_finds name k = ap (λ ls. tile_at (tiles_of ls rows) name k) same ∙ found_there layers (left_at laid command) left_is_right rows made name k
