-- Tables of what each layer is or reaches, made in order: each row is that of the whole table.
use Rattle.std.specs.Prelude.{◌≡◌, Bool, true, false, ◌||◌, List, [], ◌∷◌, ◌++◌, map, fold, bytes_eq, if◌then◌else◌}
use Rattle.std.specs.List.{list_any, list_all, AllByRecursion}
use Rattle.std.proofs.Common.{refl, ap, sym, ◌∙◌, subst, append_assoc, append-nil}
use Rattle.std.proofs.lemmas.Bool.{or_parts, or_from, or_right}
use Rattle.std.proofs.lemmas.List.{map-append}
use Rattle.overlay_terms.specs.Layers.{Name, Layer, named}
use Rattle.overlay_terms.specs.Orderly.{used_names, is_among, is_orderly_after}
use Rattle.overlay_terms.proofs.NameLemmas.{name_itself, is_among-push}
use Rattle.overlay_terms.proofs.OrderlyLemmas.{MayFollow, orderly_splits}

-- the second of two tests holds, where the first does not
pub or_second : (a b : Bool) → (a || b) ≡ true → a ≡ false → b ≡ true
or_second true b h e = absurd (cc)
or_second false b h e = h

module _ {A : Type 0} where
  -- the names of a table
  abbrev pub names_of : List (Name × A) → List Name
  names_of entries = map (λ e. e.0) entries

  -- two choices that differ at most where the test fails
  if_same : (b : Bool) (x y z : A) → (b ≡ false → y ≡ z) → (if b then x else y) ≡ (if b then x else z)
  if_same true x y z h = refl
  if_same false x y z h = h refl

  -- what stands beside a name stays, whatever is added
  pub named-append : (absent : A) (known more : List (Name × A)) (n : Name) → is_among (names_of known) n ≡ true → named absent (known ++ more) n ≡ named absent known n
  named-append absent [] more n h = absurd (cc)
  named-append absent (e ∷ es) more n h =
      if_same (bytes_eq e.0 n) e.1 _ _ (λ other. named-append absent es more n (or_second (bytes_eq e.0 n) _ h other))

  -- what is added under a new name stands beside it
  pub named-push : (absent : A) (known : List (Name × A)) (n : Name) (v : A) → is_among (names_of known) n ≡ false → named absent (known ++ (n, v) ∷ []) n ≡ v
  named-push absent [] n v h = ap (λ b. if b then v else absent) (name_itself n)
  named-push absent (e ∷ es) n v h =
      let parts = or_parts (bytes_eq e.0 n) (is_among (names_of es) n) h in
      ap (λ b. if b then e.1 else named absent (es ++ (n, v) ∷ []) n) parts.0 ∙ named-push absent es n v parts.1

  -- nothing stands beside a name that is not there
  pub named_absent : (absent : A) (known : List (Name × A)) (n : Name) → is_among (names_of known) n ≡ false → named absent known n ≡ absent
  named_absent absent [] n h = refl
  named_absent absent (e ∷ es) n h =
      let parts = or_parts (bytes_eq e.0 n) (is_among (names_of es) n) h in
      ap (λ b. if b then e.1 else named absent es n) parts.0 ∙ named_absent absent es n parts.1

module _ {A : Type 0} (absent : A) (row : List (Name × A) → Layer → A) where
  -- the table with one more layer
  abbrev with_row : List (Name × A) → Layer → List (Name × A)
  with_row known layer = known ++ (layer.name, row known layer) ∷ []

  -- the table of some layers after a table
  abbrev pub table : List (Name × A) → List Layer → List (Name × A)
  table known layers = fold (λ known layer. known ++ (layer.name, row known layer) ∷ []) known layers

  -- a row is made of what stands beside the names that the layer uses
  abbrev pub IsOfUses : Type 0
  IsOfUses = (known more : List (Name × A)) (layer : Layer) → list_all (is_among (names_of known)) (used_names layer.content) ≡ true → row (known ++ more) layer ≡ row known layer

  -- a table goes on from another
  record Extends (known all : List (Name × A)) : Type 0 where
    pub more : List (Name × A)
    pub is : all ≡ known ++ more

  -- the table of layers after a table goes on from it
  table_extends : (layers : List Layer) (known : List (Name × A)) → Extends known (table known layers)
  table_extends [] known = record { more = []; is = sym (append-nil known) }
  table_extends (layer ∷ layers) known =
      let rest = table_extends layers (with_row known layer) in
      record {
        more = (layer.name, row known layer) ∷ rest.more;
        is = rest.is ∙ append_assoc known ((layer.name, row known layer) ∷ []) rest.more;
      }

  -- one more row has one more name
  names-with_row : (known : List (Name × A)) (layer : Layer) → names_of (with_row known layer) ≡ names_of known ++ layer.name ∷ []
  names-with_row known layer = map-append (λ (e : Name × A). e.0) known ((layer.name, row known layer) ∷ [])

  -- a name is among those of one more row
  among-with_row : (known : List (Name × A)) (layer : Layer) (n : Name) → is_among (names_of (with_row known layer)) n ≡ (is_among (names_of known) n || bytes_eq layer.name n)
  among-with_row known layer n = ap (λ ns. is_among ns n) (names-with_row known layer) ∙ is_among-push (names_of known) layer.name n

  -- the row of the first layer is that of the whole table
  first_row : IsOfUses → (known all : List (Name × A)) (layer : Layer) → MayFollow (names_of known) layer → Extends (with_row known layer) all → named absent all layer.name ≡ row all layer
  first_row of_uses known all layer follows ext =
      let entry = (layer.name, row known layer) ∷ [] in
      ap (λ t. named absent t layer.name) ext.is
      ∙ named-append absent (with_row known layer) ext.more layer.name (among-with_row known layer layer.name ∙ or_right _ _ (name_itself layer.name))
      ∙ named-push absent known layer.name (row known layer) follows.new_name
      ∙ sym (of_uses known (entry ++ ext.more) layer follows.uses_known)
      ∙ ap (λ t. row t layer) (sym (append_assoc known entry ext.more) ∙ sym ext.is)

  -- each row is that of the whole table
  pub rows_fixed : IsOfUses → (layers : List Layer) (known : List (Name × A)) → is_orderly_after (names_of known) layers ≡ true → AllByRecursion (λ layer. named absent (table known layers) layer.name ≡ row (table known layers) layer) layers
  rows_fixed of_uses [] known h = tt
  rows_fixed of_uses (layer ∷ layers) known h =
      let parts = orderly_splits (names_of known) layer layers h in (
        first_row of_uses known (table (with_row known layer) layers) layer parts.first (table_extends layers (with_row known layer)),
        rows_fixed of_uses layers (with_row known layer) (subst (λ ns. is_orderly_after ns layers ≡ true) (sym (names-with_row known layer)) parts.rest),
      )

  -- a name that no layer has has no row
  pub no_row : (layers : List Layer) (known : List (Name × A)) (n : Name) → is_among (names_of known) n ≡ false → list_any (λ layer. bytes_eq layer.name n) layers ≡ false → named absent (table known layers) n ≡ absent
  no_row [] known n h none = named_absent absent known n h
  no_row (layer ∷ layers) known n h none =
      let parts = or_parts (bytes_eq layer.name n) (list_any (λ l. bytes_eq l.name n) layers) none in
      no_row layers (with_row known layer) n (among-with_row known layer n ∙ or_from _ _ h parts.0) parts.1
