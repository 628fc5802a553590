-- Tiles that were put into a row.
use Rattle.std.specs.Prelude.{◌≡◌, ℕ, ◌+◌, ◌<◌, ◌≤◌, is_some, Bool, true, false, List, [], ◌∷◌, ◌++◌, map, replicate, set, take, drop, Option, Some, None, IfNone, if◌then◌else◌}
use Rattle.std.specs.List.{list_all, list_any}
use Rattle.std.specs.Arc.{arc_value}
use Rattle.std.proofs.Common.{zero, suc, length, get_or, nat_eq, refl, ap, sym, ◌∙◌, add-one, arith}
use Rattle.std.proofs.Math.Seq.{drop-cons, take-suc}
use Rattle.std.proofs.lemmas.List.{length-set}
use Rattle.std.proofs.lemmas.Grind.{get_or-set_at}
use Rattle.std.proofs.lemmas.Bool.Decides.{nat_tests}
use Rattle.overlay_terms.specs.Column.{column_count}
use Rattle.tile_build.specs.Tile.{named_pieces}
use Rattle.layer_tiles.specs.TileCode.{Named}
use Rattle.layer_tiles.specs.declared.tiles.LateTile.{LateTile}
use Rattle.layer_tiles.specs.declared.tiles.Slot.{Slot}
use Rattle.layer_tiles.specs.Table.{count_missing, put_all, row_by, tile_in_slot}
use Rattle.layer_tiles.proofs.RowLemmas.{map_set, whole_row}

pub length_put : (late : List LateTile) (row : List (Option Named)) → length (put_all late row) ≡ length row
length_put [] row = refl
length_put (one ∷ late) row = length-set (put_all late row) one.column (Some (named_pieces (arc_value one.tile))) ∙ length_put late row

-- the tile that was put last into a column
pub late_there : (late : List LateTile) (i : ℕ) (one : LateTile) (number : ℕ) (row : List (Option Named)) → i < length late → one ≡ get_or late i one → one.column ≡ number → number < column_count → length row ≡ column_count
    → get_or (put_all late row) number None ≡ get_or (put_all (drop i late) row) number None
    → get_or (put_all late row) number None ≡ Some (named_pieces (arc_value one.tile))
late_there late i one number row there is here small whole before =
    let rest : List (Option Named) = put_all (drop (suc i) late) row in
    let cut : drop i late ≡ one ∷ drop (suc i) late = drop-cons late i one there ∙ ap (λ o. o ∷ drop (suc i) late) (sym is) in
    let within : one.column < length rest = omega (arith, length_put (drop (suc i) late) row, whole, small, here) in
    before ∙ ap (λ ls. get_or (put_all ls row) number None) cut ∙ get_or-set_at rest one.column number (Some (named_pieces (arc_value one.tile))) None (sym here) within

put_append : (late early : List LateTile) (row : List (Option Named)) → put_all (late ++ early) row ≡ put_all late (put_all early row)
put_append [] early row = refl
put_append (one ∷ late) early row = ap (λ r. set r one.column (Some (named_pieces (arc_value one.tile)))) (put_append late early row)

-- one tile more below those that are listed
pub below_more : (with after late : List LateTile) (i column : ℕ) (tile : Named) (one copy : LateTile) → i < length late → one ≡ get_or late i one → copy.column ≡ one.column → named_pieces (arc_value copy.tile) ≡ named_pieces (arc_value one.tile)
    → ((row : List (Option Named)) → put_all with row ≡ set (put_all (take i late) row) column (Some tile)) → after ≡ with ++ copy ∷ []
    → (row : List (Option Named)) → put_all after row ≡ set (put_all (take (i + 1) late) row) column (Some tile)
below_more with after late i column tile one copy there is same_column same_tile before pushed row =
    let lower : List (Option Named) = set row one.column (Some (named_pieces (arc_value one.tile))) in
    let alike : put_all (copy ∷ []) row ≡ lower = λ x. set row (same_column x) (Some (same_tile x)) in
    let longer : take (i + 1) late ≡ take i late ++ one ∷ [] = ap (λ n. take n late) (add-one i) ∙ take-suc late i one there ∙ ap (λ o. take i late ++ o ∷ []) (sym is) in
    ap (λ ls. put_all ls row) pushed ∙ put_append with (copy ∷ []) row ∙ ap (put_all with) alike ∙ before lower
    ∙ ap (λ r. set r column (Some tile)) (sym (put_append (take i late) (one ∷ []) row) ∙ ap (λ ls. put_all ls row) (sym longer))

-- a row that misses no tile has all
pub full_when : (row : List (Option Named)) → nat_eq (count_missing row) 0 ≡ list_all is_some row
full_when [] = refl
full_when (None ∷ row) = grind (arith, nat_tests)
full_when (Some tile ∷ row) = full_when row

few_missing : (row : List (Option Named)) → count_missing row ≤ length row
few_missing [] = omega arith
few_missing (None ∷ row) = omega (arith, few_missing row)
few_missing (Some tile ∷ row) = omega (arith, few_missing row)

-- one that misses all has none
pub bare_when : (row : List (Option Named)) → count_missing row ≡ length row → list_any is_some row ≡ false
bare_when [] e = refl
bare_when (None ∷ row) e = bare_when row (omega (arith, e))
bare_when (Some tile ∷ row) e = absurd (omega (arith, e, few_missing row))

-- how many are missing with one tile more, or in the place of another
pub missing_there : (row : List (Option Named)) (k : ℕ) (tile : Named) → is_some (get_or row k None) ≡ true → count_missing row ≡ count_missing (set row k (Some tile))
missing_there [] k tile e = absurd (cc)
missing_there (None ∷ row) zero tile e = absurd (cc)
missing_there (Some old ∷ row) zero tile e = refl
missing_there (None ∷ row) (suc k) tile e = ap (λ n. n + 1) (missing_there row k tile e)
missing_there (Some old ∷ row) (suc k) tile e = missing_there row k tile e

pub missing_some : (row : List (Option Named)) (k : ℕ) → k < length row → is_some (get_or row k None) ≡ false → 1 ≤ count_missing row
missing_some [] k h e = absurd (omega (arith, h))
missing_some (None ∷ row) k h e = omega arith
missing_some (Some old ∷ row) zero h e = absurd (cc)
missing_some (Some old ∷ row) (suc k) h e = missing_some row k (omega (arith, h)) e

pub missing_fewer : (row : List (Option Named)) (k : ℕ) (tile : Named) → k < length row → is_some (get_or row k None) ≡ false → count_missing row ≡ count_missing (set row k (Some tile)) + 1
missing_fewer [] k tile h e = absurd (omega (arith, h))
missing_fewer (None ∷ row) zero tile h e = refl
missing_fewer (Some old ∷ row) zero tile h e = absurd (cc)
missing_fewer (None ∷ row) (suc k) tile h e = ap (λ n. n + 1) (missing_fewer row k tile (omega (arith, h)) e)
missing_fewer (Some old ∷ row) (suc k) tile h e = missing_fewer row k tile (omega (arith, h)) e

-- no mark at all
pub unmarked_at : (n k : ℕ) → get_or (replicate n false) k false ≡ false
unmarked_at zero k = refl
unmarked_at (suc n) zero = refl
unmarked_at (suc n) (suc k) = unmarked_at n k

-- a row with one tile more, whose slots hold all others
pub copied_with : (row : List (Option Named)) (slots : List Slot) (marks : List Bool) (column : ℕ) (slot : Slot) (tile : Named) → length row ≡ column_count → marks ≡ replicate column_count false
    → map tile_in_slot slots ≡ row_by (λ k. if get_or marks k false then None else get_or row k None) → tile_in_slot slot ≡ Some tile
    → map tile_in_slot (set slots column slot) ≡ set row column (Some tile)
copied_with row slots marks column slot tile size none all is =
    let unmarked : (k : ℕ) → get_or marks k false ≡ false = λ k. ap (λ ms. get_or ms k false) none ∙ unmarked_at column_count k in
    let stays : (k : ℕ) → k < column_count → (if get_or marks k false then None else get_or row k None) ≡ get_or row k None =
    λ k less. ap (λ b. if b then None else get_or row k None) (unmarked k) in
    map_set slots column slot ∙ ap (λ xs. set xs column (tile_in_slot slot)) (all ∙ sym (whole_row marks row size stays)) ∙ ap (λ o. set row column o) is

-- a row beside whose slots no tile lies, with one tile more in its slot
pub put_beside : (late : List LateTile) (slots after : List Slot) (column : ℕ) (slot : Slot) (tile : Named) → length late ≡ 0 → after ≡ set slots column slot → tile_in_slot slot ≡ Some tile
    → put_all late (map tile_in_slot after) ≡ set (put_all late (map tile_in_slot slots)) column (Some tile)
put_beside [] slots after column slot tile none is known = ap (map tile_in_slot) is ∙ map_set slots column slot ∙ ap (set (map tile_in_slot slots) column) known
put_beside (one ∷ late) slots after column slot tile none is known = absurd (omega (arith, none))

pub none_weaker : {T P Q : Type 0} (o : Option T) → (P → Q) → IfNone o P → IfNone o Q
none_weaker None more is = more is
none_weaker (Some x) more is = tt
