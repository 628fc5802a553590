-- Tiles in the order of layers and columns: what is found among them fixes them.
use Rattle.std.specs.Prelude.{◌≡◌, ℕ, ◌<◌, ◌==◌, ◌⊎◌, nat_lt, Bool, true, false, ◌&&◌, ◌||◌, IsTrue, List, [], ◌∷◌, ◌++◌, bytes_eq, Option, Some, None, All}
use Rattle.std.specs.List.{AllPairs, slice_index_or}
use Rattle.std.proofs.Common.{zero, suc, refl, ap, sym, ◌∙◌, subst, cond, inl, inr, ⊎_elim, arith}
use Rattle.std.proofs.lemmas.Bool.{and_parts, and_from, both_ways, eqb-true, false_from_ne_true, or_cases}
use Rattle.std.proofs.lemmas.Bool.Decides.{nat_tests}
use Rattle.std.proofs.lemmas.Option.{same_Some}
use Rattle.overlay_terms.specs.Layers.{Name, Layer}
use Rattle.overlay_terms.specs.Commands.{index_of}
use Rattle.overlay_terms.specs.Histories.{Tile, Finished, tile_at}
use Rattle.overlay_terms.specs.StoredTiles.{is_tile_before}
use Rattle.overlay_terms.proofs.NameLemmas.{same_name, name_itself}
use Rattle.layer_tiles.specs.Tiles.{is_of, AreDistinct}
use Rattle.layer_tiles.proofs.TileLists.{is_of_parts}

-- what is true of each tile is true of one that is found
pub found_is : (P : Finished → Type 0) (tiles : List Finished) (name : Name) (k : ℕ) (tile : Tile) → All P tiles → tile_at tiles name k ≡ Some tile → P (record { name = name; column = k; tile = tile })
found_is P [] name k tile all there = absurd (cc)
found_is P (f ∷ fs) name k tile all there = split (bytes_eq f.name name && (f.column == k)) refl (found_is P fs name k tile (λ i d h. all (suc i) d (omega arith))) there where
  split : (b : Bool) → (bytes_eq f.name name && (f.column == k)) ≡ b → (tile_at fs name k ≡ Some tile → P (record { name = name; column = k; tile = tile })) → cond b (Some f.tile) (tile_at fs name k) ≡ Some tile → P (record { name = name; column = k; tile = tile })
  split true here next same =
      let parts = and_parts (bytes_eq f.name name) (f.column == k) here in
      let level : f.tile ≡ tile = cc in
      subst P (λ i. record { name = same_name f.name name parts.0 i; column = eqb-true f.column k parts.1 i; tile = level i }) (all zero f (omega arith))
  split false away next rest = next rest

-- what is true of each tile is true of one among them
pub all_at : (P : Finished → Type 0) (done rest : List Finished) (f : Finished) → All P (done ++ f ∷ rest) → P f
all_at P [] rest f all = all zero f (omega arith)
all_at P (x ∷ xs) rest f all = all_at P xs rest f (λ k d h. all (suc k) d (omega arith))

-- no tile is before itself
pub never_before : (layers : List Layer) (a b : Finished) → is_of b.name b.column a ≡ true → is_tile_before layers a b ≡ false
never_before layers a b same =
    let parts = and_parts (bytes_eq a.name b.name) (a.column == b.column) same in
    ap (λ n. nat_lt (index_of layers n) (index_of layers b.name) || (bytes_eq n b.name && nat_lt a.column b.column)) (same_name a.name b.name parts.0)
    ∙ ap (λ k. nat_lt (index_of layers b.name) (index_of layers b.name) || (bytes_eq b.name b.name && nat_lt k b.column)) (eqb-true a.column b.column parts.1)
    ∙ nor (index_of layers b.name) b.column (bytes_eq b.name b.name)
  where
    not_less : (n : ℕ) → nat_lt n n ≡ false
    not_less n = grind (arith, nat_tests)

    nor : (n k : ℕ) (same : Bool) → (nat_lt n n || (same && nat_lt k k)) ≡ false
    nor n k true = ap (λ b. b || nat_lt k k) (not_less n) ∙ not_less k
    nor n k false = ap (λ b. b || false) (not_less n)

-- tiles in order are distinct
pub distinct_in_order : (layers : List Layer) (tiles : List Finished) → AllPairs (λ a b. IsTrue (is_tile_before layers a b)) tiles → AreDistinct tiles
distinct_in_order layers tiles ordered i j d less there =
    let a = slice_index_or tiles i d in
    let b = slice_index_or tiles j d in
    false_from_ne_true (is_of b.name b.column a) (λ same. absurd_of (is_tile_before layers a b) (ordered i j d less there) (never_before layers a b same))
  where
    absurd_of : (t : Bool) → t ≡ true → t ≡ false → ⊥
    absurd_of t is away = cc

-- ---- what is found fixes tiles in order

module _ (layers : List Layer) where
  abbrev Before : Finished → Finished → Type 0
  Before a b = IsTrue (is_tile_before layers a b)

  -- how a tile is before another
  before_parts : (a b : Finished) → Before a b → (index_of layers a.name < index_of layers b.name) ⊎ ((a.name ≡ b.name) × (a.column < b.column))
  before_parts a b before =
      ⊎_elim (λ e. inl (grind (arith, nat_tests))) (λ e.
      let parts = and_parts (bytes_eq a.name b.name) (nat_lt a.column b.column) e in
      let lower = parts.1 in
      inr (same_name a.name b.name parts.0, grind (arith, nat_tests)))
      (or_cases (nat_lt (index_of layers a.name) (index_of layers b.name)) (bytes_eq a.name b.name && nat_lt a.column b.column) before)

  never_both : (a b : Finished) → Before a b → Before b a → ⊥
  never_both a b first second = cases (before_parts a b first) (before_parts b a second) where
    cases : (index_of layers a.name < index_of layers b.name) ⊎ ((a.name ≡ b.name) × (a.column < b.column)) → (index_of layers b.name < index_of layers a.name) ⊎ ((b.name ≡ a.name) × (b.column < a.column)) → ⊥
    cases (inl low) (inl high) = omega arith
    cases (inl low) (inr same) = let level = ap (index_of layers) same.0 in omega arith
    cases (inr same) (inl high) = let level = ap (index_of layers) same.0 in omega arith
    cases (inr low) (inr high) = omega (arith, low.1, high.1)

  -- after a tile there is none of its layer and column
  none_behind : (f : Finished) (fs : List Finished) (name : Name) (k : ℕ) → All (Before f) fs → is_of name k f ≡ true → tile_at fs name k ≡ None
  none_behind f fs name k behind same = by_found (tile_at fs name k) refl where
    by_found : (o : Option Tile) → tile_at fs name k ≡ o → o ≡ None
    by_found None e = refl
    by_found (Some tile) e =
        absurd (both_ways (is_tile_before layers f (record { name = name; column = k; tile = tile })) (never_before layers f (record { name = name; column = k; tile = tile }) same) (found_is (Before f) fs name k tile behind e))

  pub is_own : (f : Finished) → is_of f.name f.column f ≡ true
  is_own f = let level : (f.column == f.column) ≡ true = grind (arith, nat_tests) in and_from (bytes_eq f.name f.name) (f.column == f.column) (name_itself f.name) level

  -- tiles in which the same is found begin with the same
  same_key : (f g : Finished) (fs gs : List Finished) → All (Before f) fs → All (Before g) gs → ((name : Name) (k : ℕ) → tile_at (f ∷ fs) name k ≡ tile_at (g ∷ gs) name k) → is_of g.name g.column f ≡ true
  same_key f g fs gs first second same = split (is_of g.name g.column f) (is_of f.name f.column g) refl refl (same g.name g.column) (same f.name f.column) where
    split : (b c : Bool) → is_of g.name g.column f ≡ b → is_of f.name f.column g ≡ c → cond (is_of g.name g.column f) (Some f.tile) (tile_at fs g.name g.column) ≡ cond (is_of g.name g.column g) (Some g.tile) (tile_at gs g.name g.column)
        → cond (is_of f.name f.column f) (Some f.tile) (tile_at fs f.name f.column) ≡ cond (is_of f.name f.column g) (Some g.tile) (tile_at gs f.name f.column) → b ≡ true
    split true c here there at_g at_f = refl
    split false true here there at_g at_f =
        let parts = is_of_parts f.name f.column g there in
        absurd (both_ways (is_of g.name g.column f) here (ap (λ n. is_of n g.column f) parts.0 ∙ ap (λ k. is_of f.name k f) parts.1 ∙ is_own f))
    split false false here there at_g at_f =
        let g_found : tile_at fs g.name g.column ≡ Some g.tile =
        sym (ap (λ b. cond b (Some f.tile) (tile_at fs g.name g.column)) here) ∙ at_g ∙ ap (λ b. cond b (Some g.tile) (tile_at gs g.name g.column)) (is_own g) in
        let f_found : tile_at gs f.name f.column ≡ Some f.tile =
        sym (ap (λ b. cond b (Some g.tile) (tile_at gs f.name f.column)) there) ∙ sym at_f ∙ ap (λ b. cond b (Some f.tile) (tile_at fs f.name f.column)) (is_own f) in
        absurd (never_both f g (found_is (Before f) fs g.name g.column g.tile first g_found) (found_is (Before g) gs f.name f.column f.tile second f_found))

  same_head : (f g : Finished) (fs gs : List Finished) → ((name : Name) (k : ℕ) → tile_at (f ∷ fs) name k ≡ tile_at (g ∷ gs) name k) → is_of g.name g.column f ≡ true → f ≡ g
  same_head f g fs gs same key =
      let parts = is_of_parts g.name g.column f key in
      let both : Some f.tile ≡ Some g.tile =
      sym (ap (λ b. cond b (Some f.tile) (tile_at fs g.name g.column)) key) ∙ same g.name g.column ∙ ap (λ b. cond b (Some g.tile) (tile_at gs g.name g.column)) (is_own g) in
      let tile = same_Some f.tile g.tile both in
      λ i. record { name = parts.0 i; column = parts.1 i; tile = tile i }

  same_tail : (f g : Finished) (fs gs : List Finished) → All (Before f) fs → All (Before g) gs → f ≡ g → ((name : Name) (k : ℕ) → tile_at (f ∷ fs) name k ≡ tile_at (g ∷ gs) name k) → (name : Name) (k : ℕ) → tile_at fs name k ≡ tile_at gs name k
  same_tail f g fs gs first second alike same name k = split (is_of name k f) refl (same name k) where
    split : (b : Bool) → is_of name k f ≡ b → cond (is_of name k f) (Some f.tile) (tile_at fs name k) ≡ cond (is_of name k g) (Some g.tile) (tile_at gs name k) → tile_at fs name k ≡ tile_at gs name k
    split true here e = none_behind f fs name k first here ∙ sym (none_behind g gs name k second (sym (ap (is_of name k) alike) ∙ here))
    split false away e =
        sym (ap (λ b. cond b (Some f.tile) (tile_at fs name k)) away) ∙ e ∙ ap (λ b. cond b (Some g.tile) (tile_at gs name k)) (sym (ap (is_of name k) alike) ∙ away)

  pub behind_first : (f : Finished) (fs : List Finished) → AllPairs Before (f ∷ fs) → All (Before f) fs
  behind_first f fs ordered k d h = ordered zero (suc k) d (omega arith) (omega arith)

  pub behind_rest : (f : Finished) (fs : List Finished) → AllPairs Before (f ∷ fs) → AllPairs Before fs
  behind_rest f fs ordered i j d less h = ordered (suc i) (suc j) d (omega arith) (omega arith)

  pub same_in_order : (xs ys : List Finished) → AllPairs Before xs → AllPairs Before ys → ((name : Name) (k : ℕ) → tile_at xs name k ≡ tile_at ys name k) → xs ≡ ys
  same_in_order [] [] first second same = refl
  same_in_order [] (g ∷ gs) first second same =
      let there : None ≡ Some g.tile = same g.name g.column ∙ ap (λ b. cond b (Some g.tile) (tile_at gs g.name g.column)) (is_own g) in
      absurd (cc)
  same_in_order (f ∷ fs) [] first second same =
      let there : Some f.tile ≡ None = sym (ap (λ b. cond b (Some f.tile) (tile_at fs f.name f.column)) (is_own f)) ∙ same f.name f.column in
      absurd (cc)
  same_in_order (f ∷ fs) (g ∷ gs) first second same =
      let behind_f = behind_first f fs first in
      let behind_g = behind_first g gs second in
      let alike = same_head f g fs gs same (same_key f g fs gs behind_f behind_g same) in
      let later = same_in_order fs gs (behind_rest f fs first) (behind_rest g gs second) (same_tail f g fs gs behind_f behind_g alike same) in
      λ i. alike i ∷ later i
