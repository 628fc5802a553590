-- Rows by the places of their tiles' ends: what is done to a row is done to its places.
use Rattle.std.specs.Prelude.{◌≡◌, ℕ, ◌<◌, Bool, true, false, List, [], ◌∷◌, ◌++◌, map, replicate, set, Option, Some, None, is_some, if◌then◌else◌}
use Rattle.std.specs.Option.{option_map}
use Rattle.std.specs.List.{list_all, range_with_len}
use Rattle.std.proofs.Common.{zero, suc, length, get_or, refl, ap, sym, ◌∙◌, subst}
use Rattle.std.proofs.lemmas.List.{length-map, map-append, map-set}
use Rattle.overlay_terms.specs.Column.{column_count}
use Rattle.overlay_terms.specs.Histories.{Tile}
use Rattle.tile_build.specs.Tile.{named_pieces, tile_of}
use Rattle.tile_build.specs.declared.tile.Tile as code
use Rattle.tile_build.specs.declared.tile.Tile.TheVariants.{Pieces, Oversize}
use Rattle.layer_tiles.specs.TileCode.{by_places, Named}
use Rattle.layer_tiles.specs.Table.{row_by, places_in, placed_rows}
use Rattle.layer_tiles.proofs.Tables.{same_row}

abbrev place_of : Option Named → Option Tile
place_of slot = option_map by_places slot

-- ---- one row

-- the place of the tile that is read
pub places_at : (row : List (Option Named)) (k : ℕ) → get_or (places_in row) k None ≡ place_of (get_or row k None)
places_at [] k = refl
places_at (slot ∷ row) zero = refl
places_at (slot ∷ row) (suc k) = places_at row k

-- a column has a tile in both or in none
pub placed_there : (row : List (Option Named)) (k : ℕ) → is_some (get_or (places_in row) k None) ≡ is_some (get_or row k None)
placed_there row k = ap (λ o. is_some o) (places_at row k) ∙ either (get_or row k None) where
  either : (slot : Option Named) → is_some (place_of slot) ≡ is_some slot
  either None = refl
  either (Some tile) = refl

-- each column has a tile in both or not in both
pub full_there : (row : List (Option Named)) → list_all is_some (places_in row) ≡ list_all is_some row
full_there [] = refl
full_there (None ∷ row) = refl
full_there (Some tile ∷ row) = full_there row

pub places_none : (n : ℕ) → places_in (replicate n None) ≡ replicate n None
places_none zero = refl
places_none (suc n) = ap (λ row. None ∷ row) (places_none n)

places_of_range : (f : ℕ → Option Named) (ks : List ℕ) → places_in (map f ks) ≡ map (λ k. place_of (f k)) ks
places_of_range f [] = refl
places_of_range f (k ∷ ks) = ap (λ row. place_of (f k) ∷ row) (places_of_range f ks)

-- what is left of a row without the tiles that are marked
pub places_left : (row left : List (Option Named)) (marks : List Bool) → left ≡ row_by (λ k. if get_or marks k false then None else get_or row k None)
    → places_in left ≡ row_by (λ k. if get_or marks k false then None else get_or (places_in row) k None)
places_left row left marks is =
    ap places_in is ∙ places_of_range (λ k. if get_or marks k false then None else get_or row k None) (range_with_len 0 column_count)
    ∙ same_row (λ k. place_of (if get_or marks k false then None else get_or row k None)) (λ k. if get_or marks k false then None else get_or (places_in row) k None)
    (λ k less. inner (get_or marks k false) (get_or row k None) ∙ ap (λ o. if get_or marks k false then None else o) (sym (places_at row k)))
  where
    inner : (b : Bool) (slot : Option Named) → place_of (if b then None else slot) ≡ (if b then None else place_of slot)
    inner true slot = refl
    inner false slot = refl

-- ---- rows

pub placed_get : (rows : List (List (Option Named))) (i : ℕ) → get_or (placed_rows rows) i [] ≡ places_in (get_or rows i [])
placed_get [] i = refl
placed_get (row ∷ rows) zero = refl
placed_get (row ∷ rows) (suc i) = placed_get rows i

pub placed_more : (old new : List (List (Option Named))) (row : List (Option Named)) → new ≡ old ++ row ∷ [] → placed_rows new ≡ placed_rows old ++ places_in row ∷ []
placed_more old new row e = ap placed_rows e ∙ map-append (λ r. places_in r) old (row ∷ [])

pub placed_none : (n : ℕ) → placed_rows (replicate n (replicate column_count None)) ≡ replicate n (replicate column_count None)
placed_none zero = refl
placed_none (suc n) = λ i. places_none column_count i ∷ placed_none n i

pub placed_empty : (rows : List (List (Option Named))) (n : ℕ) → rows ≡ replicate n (replicate column_count None) → placed_rows rows ≡ replicate n (replicate column_count None)
placed_empty rows n e = ap placed_rows e ∙ placed_none n

-- one tile more in one row
pub placed_with : (rows made : List (List (Option Named))) (place column : ℕ) (tile : Named) → made ≡ set rows place (set (get_or rows place []) column (Some tile))
    → placed_rows made ≡ set (placed_rows rows) place (set (get_or (placed_rows rows) place []) column (Some (by_places tile)))
placed_with rows made place column tile e =
    ap placed_rows e ∙ map-set (λ r. places_in r) rows place (set (get_or rows place []) column (Some tile))
    ∙ ap (set (placed_rows rows) place) (map-set (λ o. place_of o) (get_or rows place []) column (Some tile) ∙ ap (λ r. set r column (Some (by_places tile))) (sym (placed_get rows place)))

pub rows_known : (rows : List (List (Option Named))) (place : ℕ) → place < length (placed_rows rows) → place < length rows
rows_known rows place h = subst (λ n. place < n) (length-map rows (λ r. places_in r)) h

-- a tile of the code by its names, and those by places
pub by_its_names : (tile : code.Tile) → by_places (named_pieces tile) ≡ tile_of tile
by_its_names (Pieces list) = refl
by_its_names Oversize = refl

pub placed_once : {B : Type 0} (f : B → code.Tile) (o : Option B) → option_map (λ b. tile_of (f b)) o ≡ option_map by_places (option_map (λ b. named_pieces (f b)) o)
placed_once f None = refl
placed_once f (Some b) = ap (λ (t : Tile). Some t) (sym (by_its_names (f b)))
