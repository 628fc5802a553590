-- What a layer or a tile more leaves of the place after the tiles of a table.
use Rattle.std.proofs.Common.{◌≡◌, inl, inr, ⊎_elim, ℕ, ◌+◌, ◌<◌, ◌&&◌, not, nat_lt, Bool, true, false, cond, List, [], ◌∷◌, ◌++◌, length, get_or, Ok, Err, refl, sym, ◌∙◌, ap, subst, arith}
use Rattle.std.specs.Prelude.{bytes_eq, IsTrue}
use Rattle.std.specs.Option.{is_none}
use Rattle.std.proofs.lemmas.Bool.{cases_Bool, and_parts, and_from, or_cases, or_parts, or_left, or_right, cond-true, cond-false}
use Rattle.std.proofs.lemmas.Bool.Decides.{nat_tests}
use Rattle.std.proofs.lemmas.List.Elements.{All-push}
use Rattle.overlay_terms.specs.Trees.{Tree}
use Rattle.overlay_terms.specs.Layers.{Name, Layer, Content, derived}
use Rattle.overlay_terms.specs.Commands.{index_of, is_derived, stands, stands_as_derived}
use Rattle.overlay_terms.specs.Histories.{Tile, Finished, oversize}
use Rattle.overlay_terms.specs.StoredTiles.{is_tile_before}
use Rattle.overlay_terms.proofs.KeptDerived.{derived_stands}
use Rattle.overlay_terms.proofs.NameLemmas.{name_itself}
use Rattle.layer_book.proofs.Closing.{near_index}
use Rattle.layer_expr.specs.Name.{is_name}
use Rattle.layer_tiles.proofs.Stored.{laid_is_stored}
use Rattle.layer_tiles.specs.Filling.{finished_as, AreBefore, IsLonger}
use Rattle.layer_tiles.specs.Table.{laid, tiles_in, IsLaid, Tabled}
use Rattle.store_terms.specs.declared.damage.Damage.TheVariants.{LayerRefused}
use Rattle.store_terms.specs.Image.{may_stand, refusal_of_keeping, with_layer}
use Rattle.root_reading.specs.Stored.{IsNextTo}

-- ---- a layer more

index_front : (known : List Layer) (l : Layer) (name : Name) → stands known name ≡ true
    → index_of (known ++ l ∷ []) name ≡ index_of known name
index_front [] l name is = absurd (cc is)
index_front (x ∷ known) l name is = elim (cases_Bool (bytes_eq x.name name)) [
  | inl here ↦ cond-true (bytes_eq x.name name) 0 (index_of (known ++ l ∷ []) name + 1) here
      ∙ sym (cond-true (bytes_eq x.name name) 0 (index_of known name + 1) here)
  | inr away ↦
      let later : stands known name ≡ true =
      ⊎_elim (λ here. absurd (cc (here, away))) (λ e. e) (or_cases (bytes_eq x.name name) (stands known name) is) in
      cond-false (bytes_eq x.name name) 0 (index_of (known ++ l ∷ []) name + 1) away
      ∙ ap (λ (n : ℕ). n + 1) (index_front known l name later)
      ∙ sym (cond-false (bytes_eq x.name name) 0 (index_of known name + 1) away)
]

index_last : (known : List Layer) (l : Layer) → stands known l.name ≡ false
    → index_of (known ++ l ∷ []) l.name ≡ length known
index_last [] l none = cond-true (bytes_eq l.name l.name) 0 (0 + 1) (name_itself l.name)
index_last (x ∷ known) l none =
    let p = or_parts (bytes_eq x.name l.name) (stands known l.name) none in
    cond-false (bytes_eq x.name l.name) 0 (index_of (known ++ l ∷ []) l.name + 1) p.0
    ∙ omega (arith, index_last known l p.1)

derived_last : (known : List Layer) (name : Name) (tree : Tree Name)
    → stands_as_derived (known ++ record { name = name; content = derived tree } ∷ []) name ≡ true
derived_last [] name tree =
    or_left (bytes_eq name name && true) false (and_from (bytes_eq name name) true (name_itself name) refl)
derived_last (x ∷ known) name tree =
    or_right (bytes_eq x.name name && is_derived x.content)
    (stands_as_derived (known ++ record { name = name; content = derived tree } ∷ []) name)
    (derived_last known name tree)

-- the layers that a layer more makes
grown : (known : List Layer) (name : Name) (content : Content) (layers : List Layer)
    → with_layer known name content ≡ Ok layers
    → (stands known name ≡ false) × (known ++ record { name = name; content = content } ∷ [] ≡ layers)
grown known name content layers is =
    let t = passes (may_stand known name content) is in
    let p = and_parts (is_name name && not (stands known name))
    (is_none (refusal_of_keeping known name content)) t.0 in
    let q = and_parts (is_name name) (not (stands known name)) p.0 in
    (turned (stands known name) q.1, t.1)
  where
    passes : (b : Bool)
        → cond b (Ok (known ++ record { name = name; content = content } ∷ [])) (Err LayerRefused) ≡ Ok layers
        → (b ≡ true) × (known ++ record { name = name; content = content } ∷ [] ≡ layers)
    passes true is = (refl, cc is)
    passes false is = absurd (cc is)

    turned : (b : Bool) → not b ≡ true → b ≡ false
    turned true is = sym is
    turned false is = refl

pub longer_by : (known : List Layer) (name : Name) (content : Content) (layers : List Layer)
    → with_layer known name content ≡ Ok layers → IsLonger known layers
longer_by known name content layers is = (record { name = name; content = content }, sym (grown known name content layers is).1)

-- the tiles of a table come before those of a derived layer after its layers
pub next_grows : (name : Name) (tree : Tree Name) (layers : List Layer) (table longer : Tabled) → IsLaid (laid table)
    → with_layer table.layers name (derived tree) ≡ Ok layers → longer.layers ≡ layers → tiles_in longer ≡ tiles_in table
    → IsNextTo longer name 0
next_grows name tree layers table longer valid is same kept =
    let g = grown table.layers name (derived tree) layers is in
    let l : Layer = record { name = name; content = derived tree } in
    let whole : table.layers ++ l ∷ [] ≡ longer.layers = g.1 ∙ sym same in
    let last : index_of (table.layers ++ l ∷ []) name ≡ length table.layers =
    index_last table.layers (record { name = name; content = derived tree }) g.0 in
    let stored = laid_is_stored (laid table) valid in
    record {
      derived_layer = subst (λ (ls : List Layer). IsTrue (stands_as_derived ls name)) whole (derived_last table.layers name tree);
      before = subst (λ (ls : List Layer). AreBefore ls (tiles_in longer) name 0) whole
          (subst (λ (fs : List Finished). AreBefore (table.layers ++ l ∷ []) fs name 0) (sym kept)
          (λ k d lt. first table.layers name l (get_or (tiles_in table) k d) last (stored.derived_layers k d lt)));
    }
  where
    first : (known : List Layer) (name : Name) (l : Layer) (f : Finished)
        → index_of (known ++ l ∷ []) name ≡ length known → stands_as_derived known f.name ≡ true
        → is_tile_before (known ++ l ∷ []) f (finished_as name 0 oversize) ≡ true
    first known name l f last as_derived =
        let standing = derived_stands known f.name as_derived in
        let near : index_of known f.name < length known = near_index known f.name standing in
        let same : index_of (known ++ l ∷ []) f.name ≡ index_of known f.name = index_front known l f.name standing in
        let less : nat_lt (index_of (known ++ l ∷ []) f.name) (index_of (known ++ l ∷ []) name) ≡ true =
        grind (arith, nat_tests) in
        or_left (nat_lt (index_of (known ++ l ∷ []) f.name) (index_of (known ++ l ∷ []) name))
        (bytes_eq f.name name && nat_lt f.column 0) less

-- ---- a tile more

-- a column later
next_column : (table : Tabled) (name : Name) (k : ℕ) → IsNextTo table name k → IsNextTo table name (k + 1)
next_column table name k to = record {
  derived_layer = to.derived_layer;
  before = λ i d lt. later table.layers (get_or (tiles_in table) i d) (to.before i d lt);
}
  where
    later : (layers : List Layer) (f : Finished) → is_tile_before layers f (finished_as name k oversize) ≡ true
        → is_tile_before layers f (finished_as name (k + 1) oversize) ≡ true
    later layers f is = ⊎_elim
        (λ one. or_left (nat_lt (index_of layers f.name) (index_of layers name))
        (bytes_eq f.name name && nat_lt f.column (k + 1)) one)
        (λ two.
        let p = and_parts (bytes_eq f.name name) (nat_lt f.column k) two in
        let less : nat_lt f.column (k + 1) ≡ true = grind (arith, nat_tests) in
        or_right (nat_lt (index_of layers f.name) (index_of layers name))
        (bytes_eq f.name name && nat_lt f.column (k + 1))
        (and_from (bytes_eq f.name name) (nat_lt f.column (k + 1)) p.0 less))
        (or_cases (nat_lt (index_of layers f.name) (index_of layers name))
        (bytes_eq f.name name && nat_lt f.column k) is)

-- the tile of the column itself is there
pub next_tile : (table more : Tabled) (name : Name) (k : ℕ) (tile : Tile) → more.layers ≡ table.layers
    → tiles_in more ≡ tiles_in table ++ finished_as name k tile ∷ [] → IsNextTo table name k → IsNextTo more name (k + 1)
next_tile table more name k tile same is to =
    let later = next_column table name k to in
    let less : nat_lt k (k + 1) ≡ true = grind (arith, nat_tests) in
    record {
      derived_layer = subst (λ (ls : List Layer). IsTrue (stands_as_derived ls name)) (sym same) to.derived_layer;
      before = subst (λ (ls : List Layer). AreBefore ls (tiles_in more) name (k + 1)) (sym same)
          (subst (λ (fs : List Finished). AreBefore table.layers fs name (k + 1)) (sym is)
          (All-push (λ (g : Finished). IsTrue (is_tile_before table.layers g (finished_as name (k + 1) oversize)))
          (tiles_in table) (finished_as name k tile) later.before
          (or_right (nat_lt (index_of table.layers name) (index_of table.layers name)) (bytes_eq name name && nat_lt k (k + 1))
          (and_from (bytes_eq name name) (nat_lt k (k + 1)) (name_itself name) less))));
    }
