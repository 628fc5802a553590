-- The picture of a layer from its columns, and a column from the segments and steps in reach.
use Rattle.std.specs.Prelude.{◌≡◌, ℕ, pos, ◌+ℤ◌, ◌*ℤ◌, ◌+◌, ◌<◌, ◌≤◌, Bool, true, false, List, [], ◌∷◌, ◌++◌, map, flat_map, codes, decimal, slice_index, length, filter_map, All, if◌then◌else◌}
use Rattle.std.specs.List.{range_with_len}
use Rattle.std.proofs.Common.{zero, suc, refl, ap, sym, ◌∙◌, arith, get_or, take, take_all, append_assoc, append-nil}
use Rattle.std.proofs.lemmas.Grind.{flat_map-append}
use Rattle.std.proofs.lemmas.List.{length-map, get_or-map, map-id}
use Rattle.std.proofs.lemmas.List.FromFn.{get_or-map-range_with_len, length-map-range_with_len, map-range_with_len_more}
use Rattle.overlay_terms.specs.Plane.{WholePoint, Point}
use Rattle.overlay_terms.specs.Trees.{Steps}
use Rattle.overlay_terms.specs.Layers.{Name, Layer, Marked, inside, outside, edge, answer_at, value_of, base_of, layers_in_reach, marked_segments, segments_in_reach, steps_in_reach}
use Rattle.overlay_terms.specs.Orderly.{IsOrderly}
use Rattle.overlay_terms.proofs.ValueLemmas.{value_is_steps}
use Rattle.overlay_grid.specs.declared.rising.Rise.{Rise}
use Rattle.overlay_grid.specs.Column.{column_text, is_on_marked, mark_at, mark_by}
use Rattle.overlay_grid.specs.Grid.{Grid, grid_point, grid_row, grid_text, mark_of}
use Rattle.overlay_grid.specs.Rows.{column_at, columns_of, row_of, rows_text}

-- ---- one point
by_cases : (on in_it : Bool) → mark_by on in_it ≡ mark_of (if on then edge else (if in_it then inside else outside))
by_cases true in_it = refl
by_cases false true = refl
by_cases false false = refl

-- by the segments and steps in reach, a point has the character of its answer
mark_is : (layers : List Layer) (name : Name) (p : Point) → IsOrderly layers → mark_at (segments_in_reach layers name) (steps_in_reach layers name) p ≡ mark_of (answer_at layers name p)
mark_is layers name p orderly =
    ap (mark_by (is_on_marked (segments_in_reach layers name) p)) (sym (value_is_steps layers name p orderly))
    ∙ by_cases (is_on_marked (segments_in_reach layers name) p) (value_of layers name p)

-- ---- rows out of columns
same_rows : {A : Type 0} (f g : ℕ → A) (a n : ℕ) → ((j : ℕ) → j < a + n → f j ≡ g j) → map f (range_with_len a n) ≡ map g (range_with_len a n)
same_rows f g a zero h = refl
same_rows f g a (suc n) h =
    ap (λ y. y ∷ map f (range_with_len (a + 1) n)) (h a (omega arith)) ∙ ap (λ ys. g a ∷ ys) (same_rows f g (a + 1) n (λ j l. h j (omega arith)))

same_lines : (f g : ℕ → List ℕ) (a n : ℕ) → ((j : ℕ) → j < a + n → f j ≡ g j) → flat_map f (range_with_len a n) ≡ flat_map g (range_with_len a n)
same_lines f g a zero h = refl
same_lines f g a (suc n) h =
    ap (λ y. y ++ flat_map f (range_with_len (a + 1) n)) (h a (omega arith)) ∙ ap (λ ys. g a ++ ys) (same_lines f g (a + 1) n (λ j l. h j (omega arith)))

map_twice : {A B C : Type 0} (f : B → C) (h : A → B) (xs : List A) → map f (map h xs) ≡ map (λ x. f (h x)) xs
map_twice f h [] = refl
map_twice f h (x ∷ xs) = ap (λ ys. f (h x) ∷ ys) (map_twice f h xs)

row_is : (layers : List Layer) (name : Name) (g : Grid) (j : ℕ) → IsOrderly layers → j < g.ny → row_of (columns_of (segments_in_reach layers name) (steps_in_reach layers name) g) j ≡ grid_row layers name g j
row_is layers name g j orderly h =
    let column = column_at (segments_in_reach layers name) (steps_in_reach layers name) g in
    let at = λ (i : ℕ). mark_at (segments_in_reach layers name) (steps_in_reach layers name) (grid_point g i j) in
    ap (λ (xs : List ℕ). xs ++ 10 ∷ [])
    (map_twice (λ (c : List ℕ). slice_index c j) column (range_with_len 0 g.nx)
    ∙ same_rows (λ i. slice_index (column i) j) (λ i. mark_of (answer_at layers name (grid_point g i j))) 0 g.nx
    (λ i l. get_or-map-range_with_len (λ k. mark_at (segments_in_reach layers name) (steps_in_reach layers name) (grid_point g i k)) 0 g.ny j j 0 h (omega arith) ∙ mark_is layers name (grid_point g i j) orderly))

-- the columns of a layer in reach make its picture
pub picture_is : (layers : List Layer) (name : Name) (g : Grid) → IsOrderly layers → rows_text g (columns_of (segments_in_reach layers name) (steps_in_reach layers name) g) ≡ grid_text layers name g
picture_is layers name g orderly =
    let columns = columns_of (segments_in_reach layers name) (steps_in_reach layers name) g in
    ap (λ (lines : List ℕ). codes "grid " ++ (decimal g.nx ++ (codes " " ++ (decimal g.ny ++ (10 ∷ lines)))))
    (same_lines (row_of columns) (grid_row layers name g) 0 g.ny (λ j l. row_is layers name g j orderly (omega arith)))

-- each column has as many points as the grid has rows
pub columns_long : {V : Type 0} (items : V → List ℕ) (columns : List V) (f : ℕ → ℕ → ℕ) (nx ny : ℕ) → map items columns ≡ map (λ i. map (f i) (range_with_len 0 ny)) (range_with_len 0 nx) → All (λ c. length (items c) ≡ ny) columns
columns_long items columns f nx ny e = λ k d l.
    let column = λ (i : ℕ). map (f i) (range_with_len 0 ny) in
    let count : length columns ≡ nx = sym (length-map columns items) ∙ ap length e ∙ length-map-range_with_len column 0 nx in
    let there : get_or (map items columns) k [] ≡ column k = ap (λ (xs : List (List ℕ)). get_or xs k []) e ∙ get_or-map-range_with_len column 0 nx k k [] (omega arith) (omega arith) in
    ap length (sym (get_or-map items columns k d [] l) ∙ there) ∙ length-map-range_with_len (f k) 0 ny

-- ---- lines one after another
range_push : (n : ℕ) → range_with_len 0 (n + 1) ≡ range_with_len 0 n ++ n ∷ []
range_push n =
    sym (map-id (range_with_len 0 (n + 1))) ∙ map-range_with_len_more (λ (k : ℕ). k) 0 n n (omega arith) ∙ ap (λ (xs : List ℕ). xs ++ n ∷ []) (map-id (range_with_len 0 n))

lines_push : (f : ℕ → List ℕ) (n : ℕ) → flat_map f (range_with_len 0 (n + 1)) ≡ flat_map f (range_with_len 0 n) ++ f n
lines_push f n =
    ap (flat_map f) (range_push n) ∙ flat_map-append f (range_with_len 0 n) (n ∷ []) ∙ ap (λ (ys : List ℕ). flat_map f (range_with_len 0 n) ++ ys) (append-nil (f n))

-- the line of the grid's size, and what follows it
abbrev pub headed : ℕ → ℕ → List ℕ → List ℕ
headed nx ny lines = codes "grid " ++ (decimal nx ++ (codes " " ++ (decimal ny ++ (10 ∷ lines))))

headed_more : (nx ny : ℕ) (xs ys : List ℕ) → headed nx ny xs ++ ys ≡ headed nx ny (xs ++ ys)
headed_more nx ny xs ys =
    append_assoc (codes "grid ") (decimal nx ++ (codes " " ++ (decimal ny ++ (10 ∷ xs)))) ys
    ∙ ap (λ (t : List ℕ). codes "grid " ++ t)
    (append_assoc (decimal nx) (codes " " ++ (decimal ny ++ (10 ∷ xs))) ys
    ∙ ap (λ (t : List ℕ). decimal nx ++ (codes " " ++ t)) (append_assoc (decimal ny) (10 ∷ xs) ys))

-- one more row
pub row_more : (nx ny j : ℕ) (columns : List (List ℕ)) (text new : List ℕ) → text ≡ headed nx ny (flat_map (row_of columns) (range_with_len 0 j)) → new ≡ text ++ row_of columns j → new ≡ headed nx ny (flat_map (row_of columns) (range_with_len 0 (j + 1)))
row_more nx ny j columns text new was added =
    added ∙ ap (λ (t : List ℕ). t ++ row_of columns j) was ∙ headed_more nx ny (flat_map (row_of columns) (range_with_len 0 j)) (row_of columns j)
    ∙ ap (headed nx ny) (sym (lines_push (row_of columns) j))

-- a row of characters with the end of its line
pub row_ended : {V : Type 0} (items : V → List ℕ) (columns : List V) (i j : ℕ) (before text new : List ℕ) → length columns ≤ i → text ≡ before ++ map (λ c. slice_index (items c) j) (take i columns) → new ≡ text ++ 10 ∷ [] → new ≡ before ++ row_of (map items columns) j
row_ended items columns i j before text new far was added =
    added ∙ ap (λ (t : List ℕ). t ++ 10 ∷ []) was ∙ append_assoc before (map (λ c. slice_index (items c) j) (take i columns)) (10 ∷ [])
    ∙ ap (λ cs. before ++ (map (λ c. slice_index (items c) j) cs ++ 10 ∷ [])) (take_all i columns far)
    ∙ ap (λ (t : List ℕ). before ++ (t ++ 10 ∷ [])) (sym (map_twice (λ (c : List ℕ). slice_index c j) items columns))

-- ---- one column
pub column_from : (marked : List Marked) (steps : Steps) (r : Rise) (g : Grid) (i n : ℕ) → r.x ≡ g.x +ℤ (g.step *ℤ pos i) → r.y ≡ g.y → r.step ≡ g.step → n ≡ g.ny → column_text marked steps r n ≡ column_at marked steps g i
column_from marked steps r g i n ex ey es en =
    λ t. map (λ j. mark_at marked steps (record { x = ex t; y = ey t +ℤ (es t *ℤ pos j); w = pos 1 })) (range_with_len 0 (en t))

-- ---- the whole picture
pub picture_of : (layers given : List Layer) (name : Name) (g : Grid) (rings : List (List (List WholePoint))) (steps : Steps) (columns : List (List ℕ)) (text : List ℕ) → IsOrderly layers → given ≡ layers →
    rings ≡ map (λ b. b.1) (filter_map base_of (layers_in_reach given name)) → steps ≡ steps_in_reach given name → columns ≡ columns_of (marked_segments rings) steps g → text ≡ rows_text g columns → text ≡ grid_text layers name g
picture_of layers given name g rings steps columns text orderly same bases are made is =
    is ∙ ap (rows_text g) made ∙ (λ t. rows_text g (columns_of (marked_segments (bases t)) (are t) g))
    ∙ ap (λ (ls : List Layer). rows_text g (columns_of (segments_in_reach ls name) (steps_in_reach ls name) g)) same
    ∙ picture_is layers name g orderly
