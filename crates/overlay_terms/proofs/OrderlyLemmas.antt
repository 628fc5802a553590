-- What a command makes of orderly layers is orderly.
use Rattle.std.specs.Prelude.{◌≡◌, ℕ, nat_le, ◌<◌, ◌+◌, Bool, true, false, not, ◌&&◌, ◌||◌, List, [], ◌∷◌, ◌++◌, map, bytes_eq, if◌then◌else◌}
use Rattle.std.specs.List.{list_all}
use Rattle.std.proofs.Common.{refl, ap, sym, ◌∙◌, subst, ⊎_elim, arith}
use Rattle.std.proofs.lemmas.Bool.{and_parts, and_from, or_cases, or_left, or_right, not-true, not_from_false, leb-false, lt-leb}
use Rattle.overlay_terms.specs.Layers.{Name, Content, Layer}
use Rattle.overlay_terms.specs.Orderly.{used_names, is_among, is_orderly_after}
use Rattle.overlay_terms.specs.Commands.{index_of, stands}
use Rattle.overlay_terms.proofs.NameLemmas.{same_name, or_false, list_all_so, is_among-push}

-- a layer that may come after layers of the given names
pub record MayFollow (known : List Name) (layer : Layer) : Type 0 where
  pub new_name : is_among known layer.name ≡ false
  pub uses_known : list_all (is_among known) (used_names layer.content) ≡ true

-- the first of orderly layers, and those after it
pub record Splits (known : List Name) (layer : Layer) (layers : List Layer) : Type 0 where
  pub first : MayFollow known layer
  pub rest : is_orderly_after (known ++ layer.name ∷ []) layers ≡ true

-- orderly layers as a first one and the rest
pub orderly_splits : (known : List Name) (layer : Layer) (layers : List Layer) → is_orderly_after known (layer ∷ layers) ≡ true → Splits known layer layers
orderly_splits known layer layers h =
    let outer = and_parts (not (is_among known layer.name) && list_all (is_among known) (used_names layer.content)) (is_orderly_after (known ++ layer.name ∷ []) layers) h in
    let inner = and_parts (not (is_among known layer.name)) (list_all (is_among known) (used_names layer.content)) outer.0 in
    record { first = record { new_name = not-true _ inner.0; uses_known = inner.1 }; rest = outer.1 }

-- a first layer and the rest as orderly layers
pub orderly_joins : (known : List Name) (layer : Layer) (layers : List Layer) → Splits known layer layers → is_orderly_after known (layer ∷ layers) ≡ true
orderly_joins known layer layers h =
    and_from _ _ (and_from _ _ (not_from_false _ h.first.new_name) h.first.uses_known) h.rest

-- the content of a name, replaced
abbrev pub replaced_by : Name → Content → Layer → Layer
replaced_by name content layer = if bytes_eq layer.name name then record { name = name; content = content } else layer

-- whether a name is before the place of another, or is known before
abbrev pub is_before : List Name → List Layer → Name → Name → Bool
is_before known layers name used = is_among known used || not (nat_le (index_of layers name) (index_of layers used))

-- the place of a name, where the first layer has it, and where it has it not
place_here : (layer : Layer) (layers : List Layer) (name : Name) → bytes_eq layer.name name ≡ true → index_of (layer ∷ layers) name ≡ 0
place_here layer layers name e = ap (λ b. if b then 0 else index_of layers name + 1) e

-- the place of a name that the first layer has not
place_later : (layer : Layer) (layers : List Layer) (name : Name) → bytes_eq layer.name name ≡ false → index_of (layer ∷ layers) name ≡ index_of layers name + 1
place_later layer layers name e = ap (λ b. if b then 0 else index_of layers name + 1) e

-- a place that is not at or after another is before it
place_below : (m n : ℕ) → not (nat_le m n) ≡ true → n < m
place_below m n h = leb-false m n (not-true (nat_le m n) h)

-- a place before another is not at or after it
below_place : (m n : ℕ) → n < m → not (nat_le m n) ≡ true
below_place m n h = not_from_false (nat_le m n) (lt-leb m n h)

-- nothing but what is known is before the first layer
before_first_place : (known : List Name) (layer : Layer) (layers : List Layer) (name used : Name) → bytes_eq layer.name name ≡ true → is_before known (layer ∷ layers) name used ≡ true → is_among known used ≡ true
before_first_place known layer layers name used here h =
    ⊎_elim (λ e. e)
    (λ e.
    let low = place_below (index_of (layer ∷ layers) name) (index_of (layer ∷ layers) used) e in
    let first = place_here layer layers name here in
    absurd (omega arith))
    (or_cases (is_among known used) (not (nat_le (index_of (layer ∷ layers) name) (index_of (layer ∷ layers) used))) h)

-- a name before a later place, where the first layer has it or has it not
before_later_by : (known : List Name) (layer : Layer) (layers : List Layer) (name used : Name) (b : Bool) → bytes_eq layer.name used ≡ b → index_of (layer ∷ layers) used < index_of layers name + 1 → is_before (known ++ layer.name ∷ []) layers name used ≡ true
before_later_by known layer layers name used true e h =
    or_left _ _ (is_among-push known layer.name used ∙ or_right (is_among known used) _ e)
before_later_by known layer layers name used false e h =
    let later = place_later layer layers used e in
    or_right (is_among (known ++ layer.name ∷ []) used) _ (below_place (index_of layers name) (index_of layers used) (omega arith))

-- what is before a later layer is the first one, or is before it among the rest
before_later_place : (known : List Name) (layer : Layer) (layers : List Layer) (name used : Name) → bytes_eq layer.name name ≡ false → is_before known (layer ∷ layers) name used ≡ true → is_before (known ++ layer.name ∷ []) layers name used ≡ true
before_later_place known layer layers name used elsewhere h =
    ⊎_elim (λ e. or_left _ _ (is_among-push known layer.name used ∙ or_left _ _ e))
    (λ e.
    let low = place_below (index_of (layer ∷ layers) name) (index_of (layer ∷ layers) used) e in
    let later = place_later layer layers name elsewhere in
    before_later_by known layer layers name used (bytes_eq layer.name used) refl (omega arith))
    (or_cases (is_among known used) (not (nat_le (index_of (layer ∷ layers) name) (index_of (layer ∷ layers) used))) h)

-- what is known stays known
still_known : (known : List Name) (layers : List Layer) (m name used : Name) → is_among known used ≡ true → is_before (known ++ m ∷ []) layers name used ≡ true
still_known known layers m name used e = or_left _ _ (is_among-push known m used ∙ or_left _ _ e)

-- layers stay orderly after any names where the content of a name uses only what is before
abbrev StaysOrderly : List Layer → Name → Content → Type 0
StaysOrderly layers name content =
    (known : List Name) → list_all (is_before known layers name) (used_names content) ≡ true → is_orderly_after known layers ≡ true → is_orderly_after known (map (replaced_by name content) layers) ≡ true

-- one more layer in front, which has the name or has it not
replaced_in_front : (layer : Layer) (layers : List Layer) (name : Name) (content : Content) (b : Bool) → bytes_eq layer.name name ≡ b → StaysOrderly layers name content → StaysOrderly (layer ∷ layers) name content
replaced_in_front layer layers name content true here again known uses_before h =
    let parts = orderly_splits known layer layers h in
    let level = same_name layer.name name here in
    let placed : Layer = record { name = name; content = content } in
    let all_known = list_all_so (is_before known (layer ∷ layers) name) (is_among known) (λ used. before_first_place known layer layers name used here) (used_names content) uses_before in
    ap (λ b. is_orderly_after known ((if b then placed else layer) ∷ map (replaced_by name content) layers)) here
    ∙ orderly_joins known placed (map (replaced_by name content) layers) (record {
      first = record { new_name = ap (is_among known) (sym level) ∙ parts.first.new_name; uses_known = all_known };
      rest =
          again (known ++ name ∷ [])
          (list_all_so (is_among known) (is_before (known ++ name ∷ []) layers name) (λ used. still_known known layers name name used) (used_names content) all_known)
          (subst (λ n. is_orderly_after (known ++ n ∷ []) layers ≡ true) level parts.rest);
    })
replaced_in_front layer layers name content false elsewhere again known uses_before h =
    let parts = orderly_splits known layer layers h in
    let placed : Layer = record { name = name; content = content } in
    ap (λ b. is_orderly_after known ((if b then placed else layer) ∷ map (replaced_by name content) layers)) elsewhere
    ∙ orderly_joins known layer (map (replaced_by name content) layers) (record {
      first = parts.first;
      rest =
          again (known ++ layer.name ∷ [])
          (list_all_so (is_before known (layer ∷ layers) name) (is_before (known ++ layer.name ∷ []) layers name) (λ used. before_later_place known layer layers name used elsewhere) (used_names content) uses_before)
          parts.rest;
    })

-- the content of a name may be replaced by what uses only names before it
pub orderly-replaced : (layers : List Layer) (name : Name) (content : Content) → StaysOrderly layers name content
orderly-replaced [] name content known uses_before h = refl
orderly-replaced (layer ∷ layers) name content known uses_before h =
    replaced_in_front layer layers name content (bytes_eq layer.name name) refl (orderly-replaced layers name content) known uses_before h

-- whether a name is known or a layer has it
abbrev pub is_known : List Name → List Layer → Name → Bool
is_known known layers name = is_among known name || stands layers name

-- three tests, grouped either way
or_assoc : (a b c : Bool) → (a || (b || c)) ≡ ((a || b) || c)
or_assoc true b c = refl
or_assoc false b c = refl

-- a name is known or a layer's, however the first layer is counted
pub is_known-cons : (known : List Name) (layer : Layer) (layers : List Layer) (name : Name) → is_known known (layer ∷ layers) name ≡ is_known (known ++ layer.name ∷ []) layers name
is_known-cons known layer layers name =
    or_assoc (is_among known name) (bytes_eq layer.name name) (stands layers name) ∙ ap (λ b. b || stands layers name) (sym (is_among-push known layer.name name))

-- a layer with a new name, over what is there, may come last
pub orderly-push : (known : List Name) (layers : List Layer) (layer : Layer) → is_orderly_after known layers ≡ true → is_known known layers layer.name ≡ false → list_all (is_known known layers) (used_names layer.content) ≡ true → is_orderly_after known (layers ++ layer ∷ []) ≡ true
orderly-push known [] layer h new uses_known =
    orderly_joins known layer [] (record {
      first = record {
        new_name = sym (or_false (is_among known layer.name)) ∙ new;
        uses_known = list_all_so (is_known known []) (is_among known) (λ used e. sym (or_false (is_among known used)) ∙ e) (used_names layer.content) uses_known;
      };
      rest = refl;
    })
orderly-push known (first ∷ layers) layer h new uses_known =
    let parts = orderly_splits known first layers h in
    orderly_joins known first (layers ++ layer ∷ []) (record {
      first = parts.first;
      rest =
          orderly-push (known ++ first.name ∷ []) layers layer parts.rest (sym (is_known-cons known first layers layer.name) ∙ new)
          (list_all_so (is_known known (first ∷ layers)) (is_known (known ++ first.name ∷ []) layers) (λ used e. sym (is_known-cons known first layers used) ∙ e) (used_names layer.content) uses_known);
    })
