-- What a root holds has its form: layers that are added one after another, each with its tiles.
use Rattle.std.proofs.Common.{◌≡◌, ◌⊎◌, inl, inr, ℕ, zero, suc, ◌+◌, ◌<◌, ◌≤◌, Bool, true, false, not, cond, ◌&&◌, ◌||◌, nat_lt, eqb, List, [], ◌∷◌, ◌++◌, length, Option, Some, None, Result, Ok, Err, refl, sym, ap, subst, ◌∙◌, append_assoc, arith, bytes_eq}
use Rattle.std.specs.Prelude.{IsTrue, All}
use Rattle.std.specs.Option.{is_none}
use Rattle.std.specs.List.{AllByRecursion, AllPairs}
use Rattle.std.proofs.lemmas.Bool.{and_parts, and_from, or_parts, not-true, lt-ltb, ltb-true, eqb-true}
use Rattle.std.proofs.lemmas.Option.{cond_some}
use Rattle.std.proofs.lemmas.List.{append-nil}
use Rattle.std.proofs.lemmas.List.Kept.{AllPairs-cons}
use Rattle.overlay_terms.specs.Column.{column_count}
use Rattle.overlay_terms.specs.Layers.{Name, Content, base, derived, Layer}
use Rattle.overlay_terms.specs.Commands.{version_max, index_of, stands, stands_as_derived, is_derived}
use Rattle.overlay_terms.specs.Histories.{Tile, Finished, is_formed}
use Rattle.overlay_terms.specs.StoredTiles.{is_tile_before, AreStored}
use Rattle.overlay_terms.proofs.NameLemmas.{name_itself}
use Rattle.layer_expr.specs.Name.{is_name}
use Rattle.store_terms.specs.declared.damage.Damage.{Damage}
use Rattle.store_terms.specs.declared.damage.Damage.TheVariants.{RecordPlace, LayerForm, LayerRefused, TileForm, Overlap}
use Rattle.store_terms.specs.declared.root.RecordExtent.{RecordExtent}
use Rattle.store_terms.specs.declared.root.Root.{Root}
use Rattle.store_terms.specs.Fields.{all_read}
use Rattle.store_terms.specs.BaseRecord.{base_of_record}
use Rattle.store_terms.specs.DefinitionRecord.{definition_of_record}
use Rattle.store_terms.specs.TileRecord.{NamedTile, column_of_tile, tile_by_places, named_tile, tile_of_record}
use Rattle.store_terms.specs.Catalog.{Records, Listed}
use Rattle.store_terms.specs.Places.{all_apart, extents_listed}
use Rattle.store_terms.specs.Image as image
use Rattle.store_terms.specs.Image.{or_fault, placed_bytes, refusal_of_keeping, may_stand, with_layer, tiles_from_column, layer_of, layers_of, Held, listing_of, held_by, held_of}
use Rattle.store_terms.proofs.FieldLemmas.{bound}
use Rattle.record_writing.specs.Stored.{HeldIsImage, HeldIsStored}
use Rattle.record_writing.specs.Tiles.{unsieved}

-- ---- lists
all_weaker : {X : Type 0} (P Q : X → Type 0) → ((x : X) → P x → Q x) → (xs : List X) → AllByRecursion P xs
    → AllByRecursion Q xs
all_weaker P Q so [] all = tt
all_weaker P Q so (x ∷ xs) all = (so x all.0, all_weaker P Q so xs all.1)

all_append : {X : Type 0} (P : X → Type 0) (xs ys : List X) → AllByRecursion P xs → AllByRecursion P ys
    → AllByRecursion P (xs ++ ys)
all_append P [] ys a b = b
all_append P (x ∷ xs) ys a b = (a.0, all_append P xs ys a.1 b)

all_from : {X : Type 0} (P : X → Type 0) (xs : List X) → AllByRecursion P xs → All P xs
all_from P [] all k d lt = absurd (omega (arith, lt))
all_from P (x ∷ xs) all zero d lt = all.0
all_from P (x ∷ xs) all (suc k) d lt = all_from P xs all.1 k d (omega (arith, lt))

-- R holds of each element and each later one
abbrev Pairs : {X : Type 0} → (X → X → Type 0) → List X → Type 0
Pairs R [] = Unit {0}
Pairs R (x ∷ xs) = AllByRecursion (R x) xs × Pairs R xs

pairs_from : {X : Type 0} (R : X → X → Type 0) (xs : List X) → Pairs R xs → AllPairs R xs
pairs_from R [] pairs = λ i j d lt within. absurd (omega (arith, within))
pairs_from R (x ∷ xs) pairs = AllPairs-cons R x xs (all_from (R x) xs pairs.0) (pairs_from R xs pairs.1)

behind_weaker : {X : Type 0} (P : X → Type 0) (R S : X → X → Type 0) → ((x y : X) → P x → P y → R x y → S x y)
    → (x : X) (ys : List X) → P x → AllByRecursion P ys → AllByRecursion (R x) ys → AllByRecursion (S x) ys
behind_weaker P R S so x [] here all behind = tt
behind_weaker P R S so x (y ∷ ys) here all behind =
    (so x y here all.0 behind.0, behind_weaker P R S so x ys here all.1 behind.1)

pairs_weaker : {X : Type 0} (P : X → Type 0) (R S : X → X → Type 0) → ((x y : X) → P x → P y → R x y → S x y)
    → (xs : List X) → AllByRecursion P xs → Pairs R xs → Pairs S xs
pairs_weaker P R S so [] all pairs = tt
pairs_weaker P R S so (x ∷ xs) all pairs =
    (behind_weaker P R S so x xs all.0 all.1 pairs.0, pairs_weaker P R S so xs all.1 pairs.1)

pairs_append : {X : Type 0} (P Q : X → Type 0) (R : X → X → Type 0) → ((x y : X) → P x → Q y → R x y) → (xs ys : List X)
    → AllByRecursion P xs → AllByRecursion Q ys → Pairs R xs → Pairs R ys → Pairs R (xs ++ ys)
pairs_append P Q R so [] ys first second a b = b
pairs_append P Q R so (x ∷ xs) ys first second a b = (
  all_append (R x) xs ys a.0
      (all_weaker Q (R x) (λ y q. so x y first.0 q) ys second),
  pairs_append P Q R so xs ys first.1 second a.1 b,
)

-- ---- steps that gave something
ok_bound : {A B : Type 0} (o : Result A Damage) (f : A → Result B Damage) (y : B) → (image.◌>>=◌ o f) ≡ Ok y
    → (x : A) × (o ≡ Ok x) × (f x ≡ Ok y)
ok_bound (Ok x) f y e = (x, refl, e)
ok_bound (Err d) f y e = absurd cc

no_fault : {A : Type 0} (fault : Damage) (o : Option A) (x : A) → or_fault fault o ≡ Ok x → o ≡ Some x
no_fault {A} fault None x e = absurd cc
no_fault {A} fault (Some y) x e = let same : y ≡ x = cc in ap (λ (z : A). Some z) same

abbrev found : {A : Type 0} → A → Result A Damage
found x = Ok x

same_ok : {A : Type 0} (x y : A) → found x ≡ found y → x ≡ y
same_ok x y e = cc

tested_ok : {A : Type 0} (b : Bool) (fault : Damage) (x y : A) → cond b (found x) (Err fault) ≡ found y
    → (b ≡ true) × (x ≡ y)
tested_ok true fault x y e = (refl, same_ok x y e)
tested_ok false fault x y e = absurd cc

-- ---- the tiles of a layer
abbrev passes : NamedTile → Bool
passes t = nat_lt (column_of_tile t) column_count && is_formed (tile_by_places t) (column_of_tile t)

read_passes : (bytes : List ℕ) (t : NamedTile) → all_read named_tile bytes ≡ Some t → passes t ≡ true
read_passes bytes t e =
    let x = bound (named_tile.read bytes) (λ x. cond (eqb (length x.1) 0) (Some x.0) None) t e in
    let ended = cond_some (eqb (length x.0.1) 0) x.0.0 t x.2 in
    let y = bound (unsieved.read bytes) (λ a. cond (passes a.0) (Some a) None) x.0 x.1 in
    let passed = cond_some (passes y.0.0) y.0 x.0 y.2 in
    ap (λ (z : NamedTile). passes z) (sym ended.1) ∙ ap (λ (z : NamedTile × List ℕ). passes z.0) (sym passed.1)
    ∙ passed.0

-- what a tile record spells is of a column that there is, and has its form
pub tile_has_form : (k : ℕ) (bytes : List ℕ) (tile : Tile) → tile_of_record k bytes ≡ Some tile
    → (k < column_count) × IsTrue (is_formed tile k)
tile_has_form k bytes tile e =
    let t = bound (all_read named_tile bytes) (λ t. cond (eqb (column_of_tile t) k) (Some (tile_by_places t)) None) tile e in
    let found = cond_some (eqb (column_of_tile t.0) k) (tile_by_places t.0) tile t.2 in
    let column : column_of_tile t.0 ≡ k = eqb-true (column_of_tile t.0) k found.0 in
    let both = and_parts (nat_lt (column_of_tile t.0) column_count) (is_formed (tile_by_places t.0) (column_of_tile t.0))
    (read_passes bytes t.0 t.1) in (
      ltb-true k column_count (ap (λ (n : ℕ). nat_lt n column_count) (sym column) ∙ both.0),
      (λ i. is_formed (sym found.1 i) (sym column i)) ∙ both.1,
    )

pub read_has_form : (k : ℕ) (bytes : List ℕ) (tile : Tile) → or_fault TileForm (tile_of_record k bytes) ≡ Ok tile
    → is_formed tile k ≡ true
read_has_form k bytes tile is = (tile_has_form k bytes tile (no_fault TileForm (tile_of_record k bytes) tile is)).1

abbrev IsOf : Name → ℕ → Finished → Type 0
IsOf name k f = (f.name ≡ name) × (k ≤ f.column) × (f.column < column_count) × IsTrue (is_formed f.tile f.column)

abbrev IsLeftOf : Finished → Finished → Type 0
IsLeftOf a b = a.column < b.column

record AreOf (name : Name) (k : ℕ) (tiles : List Finished) : Type 0 where
  own : AllByRecursion (IsOf name k) tiles
  rising : Pairs IsLeftOf tiles

tiles_are_of : (file : List ℕ) (name : Name) (k : ℕ) (es : List (Option RecordExtent)) (tiles : List Finished)
    → tiles_from_column file name k es ≡ Ok tiles → AreOf name k tiles
tiles_are_of file name k [] tiles e = subst (AreOf name k) (same_ok [] tiles e) (record { own = tt; rising = tt })
tiles_are_of file name k (None ∷ es) tiles e =
    let more = tiles_are_of file name (k + 1) es tiles e in
    record {
      own =
          all_weaker (IsOf name (k + 1)) (IsOf name k) (λ f is. (is.0, omega (arith, is.1), is.2, is.3)) tiles more.own;
      rising = more.rising;
    }
tiles_are_of file name k (Some x ∷ es) tiles e =
    let a = ok_bound (placed_bytes RecordPlace file x) _ tiles e in
    let b = ok_bound (or_fault TileForm (tile_of_record k a.0)) _ tiles a.2 in
    let c = ok_bound (tiles_from_column file name (k + 1) es) _ tiles b.2 in
    let more = tiles_are_of file name (k + 1) es c.0 c.1 in
    let f : Finished = record { name = name; column = k; tile = b.0 } in
    let passed = tile_has_form k a.0 b.0 (no_fault TileForm (tile_of_record k a.0) b.0 b.1) in
    let all : AreOf name k (f ∷ c.0) = record {
      own = (
        (refl, omega arith, passed.0, passed.1),
        all_weaker (IsOf name (k + 1)) (IsOf name k)
            (λ g is. (is.0, omega (arith, is.1), is.2, is.3)) c.0 more.own,
      );
      rising = (all_weaker (IsOf name (k + 1)) (IsLeftOf f) (λ g is. omega (arith, is.1)) c.0 more.own, more.rising);
    } in
    subst (AreOf name k) (same_ok (f ∷ c.0) tiles c.2) all

-- ---- a layer more
or_right : (b c : Bool) → c ≡ true → (b || c) ≡ true
or_right true c e = refl
or_right false c e = e

or_left : (b c : Bool) → b ≡ true → (b || c) ≡ true
or_left b c e = ap (λ (x : Bool). x || c) e

index_behind : (known : List Layer) (l : Layer) (more : List Layer) → stands known l.name ≡ false
    → index_of (known ++ l ∷ more) l.name ≡ length known
index_behind [] l more new = ap (λ (b : Bool). cond b 0 (index_of more l.name + 1)) (name_itself l.name)
index_behind (k ∷ ks) l more new =
    let parts = or_parts (bytes_eq k.name l.name) (stands ks l.name) new in
    let rest = index_behind ks l more parts.1 in
    ap (λ (b : Bool). cond b 0 (index_of (ks ++ l ∷ more) l.name + 1)) parts.0 ∙ omega (arith, rest)

derived_behind : (known : List Layer) (l : Layer) (more : List Layer) → is_derived l.content ≡ true
    → stands_as_derived (known ++ l ∷ more) l.name ≡ true
derived_behind [] l more is =
    or_left (bytes_eq l.name l.name && is_derived l.content) (stands_as_derived more l.name)
    (and_from (bytes_eq l.name l.name) (is_derived l.content) (name_itself l.name) is)
derived_behind (k ∷ ks) l more is =
    or_right (bytes_eq k.name l.name && is_derived k.content) (stands_as_derived (ks ++ l ∷ more) l.name)
    (derived_behind ks l more is)

abbrev layer_with : Name → Content → Layer
layer_with name content = record { name = name; content = content }

layer_new : (known : List Layer) (name : Name) (content : Content) (layers : List Layer)
    → with_layer known name content ≡ Ok layers
    → (stands known name ≡ false) × (known ++ layer_with name content ∷ [] ≡ layers)
layer_new known name content layers e =
    let t = tested_ok (may_stand known name content) LayerRefused (known ++ layer_with name content ∷ []) layers e in
    let first = and_parts (is_name name && not (stands known name))
    (is_none (refusal_of_keeping known name content)) t.0 in
    let second = and_parts (is_name name) (not (stands known name)) first.0 in
    (not-true (stands known name) second.1, t.1)

record IsAdded (known : List Layer) (name : Name) (x : List Layer × List Finished) : Type 0 where
  content : Content
  new : stands known name ≡ false
  layers : known ++ layer_with name content ∷ [] ≡ x.0
  tiles : AreOf name 0 x.1
  derived_or_bare : (is_derived content ≡ true) ⊎ (x.1 ≡ [])

layer_is_added : (file : List ℕ) (known : List Layer) (name : Name) (records : Records) (x : List Layer × List Finished)
    → layer_of file known name records ≡ Ok x → IsAdded known name x
layer_is_added file known name (inl e) x h =
    let a = ok_bound (placed_bytes RecordPlace file e) _ x h in
    let b = ok_bound (or_fault LayerForm (base_of_record a.0)) _ x a.2 in
    let c = ok_bound (with_layer known name (base b.0)) _ x b.2 in
    let d = layer_new known name (base b.0) c.0 c.1 in
    let none : [] ≡ x.1 = ap (λ (y : List Layer × List Finished). y.1) (same_ok (c.0, []) x c.2) in
    record {
      content = base b.0;
      new = d.0;
      layers = d.1 ∙ ap (λ (y : List Layer × List Finished). y.0) (same_ok (c.0, []) x c.2);
      tiles = subst (AreOf name 0) none (record { own = tt; rising = tt });
      derived_or_bare = inr (sym none);
    }
layer_is_added file known name (inr (e, es)) x h =
    let a = ok_bound (placed_bytes RecordPlace file e) _ x h in
    let b = ok_bound (or_fault LayerForm (definition_of_record a.0)) _ x a.2 in
    let c = ok_bound (with_layer known name (derived b.0)) _ x b.2 in
    let d = ok_bound (tiles_from_column file name 0 es) _ x c.2 in
    let n = layer_new known name (derived b.0) c.0 c.1 in
    record {
      content = derived b.0;
      new = n.0;
      layers = n.1 ∙ ap (λ (y : List Layer × List Finished). y.0) (same_ok (c.0, d.0) x d.2);
      tiles = subst (AreOf name 0) (ap (λ (y : List Layer × List Finished). y.1) (same_ok (c.0, d.0) x d.2))
          (tiles_are_of file name 0 es d.0 d.1);
      derived_or_bare = inl refl;
    }

-- ---- all layers
abbrev IsFrom : List Layer → ℕ → Finished → Type 0
IsFrom layers n f =
    (n ≤ index_of layers f.name) × IsTrue (stands_as_derived layers f.name) × (f.column < column_count)
    × IsTrue (is_formed f.tile f.column)

abbrev IsBefore : List Layer → Finished → Finished → Type 0
IsBefore layers a b = IsTrue (is_tile_before layers a b)

record AreAdded (known layers : List Layer) (tiles : List Finished) : Type 0 where
  more : List Layer
  behind : known ++ more ≡ layers
  from : AllByRecursion (IsFrom layers (length known)) tiles
  ordered : Pairs (IsBefore layers) tiles

module _ (known : List Layer) (name : Name) (content : Content) (more layers : List Layer)
    (new : stands known name ≡ false) (is : known ++ layer_with name content ∷ more ≡ layers) where
  own_index : index_of layers name ≡ length known
  own_index = ap (λ (l : List Layer). index_of l name) (sym is) ∙ index_behind known (layer_with name content) more new

  own_from : is_derived content ≡ true → (f : Finished) → IsOf name 0 f → IsFrom layers (length known) f
  own_from is_one f of =
      let index : index_of layers f.name ≡ length known = ap (index_of layers) of.0 ∙ own_index in
      let there : stands_as_derived layers f.name ≡ true =
      (λ i. stands_as_derived (sym is i) (of.0 i)) ∙ derived_behind known (layer_with name content) more is_one in
      (omega (arith, index), there, of.2, of.3)

  own_ordered : (a b : Finished) → IsOf name 0 a → IsOf name 0 b → IsLeftOf a b → IsBefore layers a b
  own_ordered a b first second left =
      or_right (nat_lt (index_of layers a.name) (index_of layers b.name))
      (bytes_eq a.name b.name && nat_lt a.column b.column)
      (and_from (bytes_eq a.name b.name) (nat_lt a.column b.column)
      ((λ i. bytes_eq (first.0 i) (second.0 i)) ∙ name_itself name) (lt-ltb a.column b.column left))

  own_before : (a b : Finished) → IsOf name 0 a → IsFrom layers (length known + 1) b → IsBefore layers a b
  own_before a b first second =
      let index : index_of layers a.name ≡ length known = ap (index_of layers) first.0 ∙ own_index in
      or_left (nat_lt (index_of layers a.name) (index_of layers b.name))
      (bytes_eq a.name b.name && nat_lt a.column b.column)
      (lt-ltb (index_of layers a.name) (index_of layers b.name) (omega (arith, index, second.0)))

  all_own : (own : List Finished) → (is_derived content ≡ true) ⊎ (own ≡ []) → AllByRecursion (IsOf name 0) own
      → AllByRecursion (IsFrom layers (length known)) own
  all_own own (inl is_one) of = all_weaker (IsOf name 0) (IsFrom layers (length known)) (own_from is_one) own of
  all_own own (inr none) of = subst (AllByRecursion (IsFrom layers (length known))) (sym none) tt

one_longer : (known : List Layer) (l : Layer) (layers : List Layer) → known ++ l ∷ [] ≡ layers
    → length layers ≡ length known + 1
one_longer [] l layers is = ap length (sym is)
one_longer (k ∷ ks) l layers is =
    ap length (sym is) ∙ (let rest = one_longer ks l (ks ++ l ∷ []) refl in omega (arith, rest))

layers_are_added : (file : List ℕ) (known : List Layer) (ls : List Listed) (x : List Layer × List Finished)
    → layers_of file known ls ≡ Ok x → AreAdded known x.0 x.1
layers_are_added file known [] x h =
    let none : AreAdded known known [] = record { more = []; behind = append-nil known; from = tt; ordered = tt } in
    subst (λ (y : List Layer × List Finished). AreAdded known y.0 y.1) (same_ok (known, []) x h) none
layers_are_added file known (l ∷ ls) x h =
    let a = ok_bound (layer_of file known l.name l.records) _ x h in
    let b = ok_bound (layers_of file a.0.0 ls) _ x a.2 in
    let one = layer_is_added file known l.name l.records a.0 a.1 in
    let rest = layers_are_added file a.0.0 ls b.0 b.1 in
    let here = layer_with l.name one.content in
    let is : known ++ here ∷ rest.more ≡ b.0.0 =
    sym (append_assoc known (here ∷ []) rest.more) ∙ ap (λ (k : List Layer). k ++ rest.more) one.layers
    ∙ rest.behind in
    let long : length a.0.0 ≡ length known + 1 = one_longer known here a.0.0 one.layers in
    let later : AllByRecursion (IsFrom b.0.0 (length known + 1)) b.0.1 =
    subst (λ (n : ℕ). AllByRecursion (IsFrom b.0.0 n) b.0.1) long rest.from in
    let all : AreAdded known b.0.0 (a.0.1 ++ b.0.1) = record {
      more = here ∷ rest.more;
      behind = is;
      from = all_append (IsFrom b.0.0 (length known)) a.0.1 b.0.1
          (all_own known l.name one.content rest.more b.0.0 one.new is a.0.1 one.derived_or_bare one.tiles.own)
          (all_weaker (IsFrom b.0.0 (length known + 1)) (IsFrom b.0.0 (length known))
          (λ f from. (omega (arith, from.0), from.1, from.2, from.3)) b.0.1 later);
      ordered = pairs_append (IsOf l.name 0) (IsFrom b.0.0 (length known + 1)) (IsBefore b.0.0)
          (own_before known l.name one.content rest.more b.0.0 one.new is) a.0.1 b.0.1 one.tiles.own later
          (pairs_weaker (IsOf l.name 0) IsLeftOf (IsBefore b.0.0)
          (own_ordered known l.name one.content rest.more b.0.0 one.new is) a.0.1 one.tiles.own one.tiles.rising) rest.ordered;
    } in
    subst (λ (y : List Layer × List Finished). AreAdded known y.0 y.1) (same_ok (b.0.0, a.0.1 ++ b.0.1) x b.2) all

added_is_stored : (layers : List Layer) (tiles : List Finished) → AreAdded [] layers tiles → AreStored layers tiles
added_is_stored layers tiles added = record {
  derived_layers =
      all_from (λ f. IsTrue (stands_as_derived layers f.name)) tiles
      (all_weaker (IsFrom layers 0) (λ f. IsTrue (stands_as_derived layers f.name))
      (λ f from. from.1) tiles added.from);
  known_columns =
      all_from (λ f. f.column < column_count) tiles
      (all_weaker (IsFrom layers 0) (λ f. f.column < column_count) (λ f from. from.2) tiles added.from);
  formed = all_from (λ f. IsTrue (is_formed f.tile f.column)) tiles
      (all_weaker (IsFrom layers 0) (λ f. IsTrue (is_formed f.tile f.column)) (λ f from. from.3) tiles added.from);
  ordered = pairs_from (IsBefore layers) tiles added.ordered;
}

-- the parts of what is held
held_parts : (file : List ℕ) (r : Root) (x : Held) → held_of file r ≡ Ok x
    → (r.version ≡ x.number) × AreStored x.layers x.tiles
held_parts file r x h =
    let listing = ok_bound (listing_of file r) (held_by file r) x h in
    let all = ok_bound (layers_of file [] listing.0) _ x listing.2 in
    let apart = tested_ok (all_apart (r.catalog ∷ extents_listed listing.0)) Overlap
    (record { number = r.version; layers = all.0.0; tiles = all.0.1 }) x all.2 in (
      ap (λ (y : Held). y.number) apart.1,
      subst (λ (y : Held). AreStored y.layers y.tiles) apart.1
          (added_is_stored all.0.0 all.0.1 (layers_are_added file [] listing.0 all.0 all.1)),
    )

pub held_is_stored : HeldIsStored
held_is_stored file r x h = (held_parts file r x h).1

pub held_is_image : HeldIsImage
held_is_image file r x small h =
    let parts = held_parts file r x h in
    record { small = subst (λ (n : ℕ). n ≤ version_max) parts.0 small; stored = parts.1 }
