-- The layers in reach of a derived layer: they are orderly, it is the last of them, and they are the wanted ones.
use Rattle.std.proofs.Common.{◌≡◌, Bool, true, false, cond, ◌||◌, ◌&&◌, List, [], ◌∷◌, ◌++◌, map, is_some, refl, ap, sym, ◌∙◌, bytes_eq}
use Rattle.std.specs.List.{list_all, AllByRecursion}
use Rattle.std.proofs.lemmas.Bool.{false≢true, and_parts, and_from, and_left}
use Rattle.overlay_terms.specs.Trees.{last_or}
use Rattle.overlay_terms.specs.Layers.{Name, Content, base, derived, Layer}
use Rattle.overlay_terms.specs.Commands.{is_derived, stands_as_derived}
use Rattle.overlay_terms.specs.Orderly.{used_names, is_among, is_orderly_after}
use Rattle.overlay_terms.proofs.NameLemmas.{same_name, is_among-push}
use Rattle.overlay_terms.proofs.OrderlyLemmas.{orderly_splits, orderly_joins, Splits}
use Rattle.overlay_terms.proofs.TableLemmas.{or_second}
use Rattle.overlay_terms.proofs.ReachLemmas.{is_reached, AreReachRows, IsBounded, bounded_push, none_behind}
use Rattle.overlay_terms.proofs.DefinitionLemmas.{passing, passing_yes, passing_no}
use Rattle.layer_expr.specs.StepList.{reached_of}

one_more : (a b t : Bool) → (b ≡ true → t ≡ true) → ((a && t) || b) ≡ ((a || b) && t)
one_more true true t h = ap (λ c. c || true) (h refl) ∙ sym (h refl)
one_more true false true h = refl
one_more true false false h = refl
one_more false true t h = sym (h refl)
one_more false false t h = refl

none_more : (a b t : Bool) → (b ≡ true → t ≡ false) → (a && t) ≡ ((a || b) && t)
none_more true b t h = refl
none_more false true t h = sym (h refl)
none_more false false t h = refl

-- names that pass two tests pass a third
all_with : (p q r : Name → Bool) → ((n : Name) → p n ≡ true → q n ≡ true → r n ≡ true) → (ns : List Name) → list_all p ns ≡ true → list_all q ns ≡ true → list_all r ns ≡ true
all_with p q r h [] ps qs = refl
all_with p q r h (n ∷ ns) ps qs =
    let ones = and_parts (p n) (list_all p ns) ps in
    let others = and_parts (q n) (list_all q ns) qs in
    and_from _ _ (h n ones.0 others.0) (all_with p q r h ns ones.1 others.1)

module _ (test : Name → Bool) where
  -- layers whose names pass name only names that pass
  abbrev UsePassing : List Layer → Type 0
  UsePassing layers = AllByRecursion (λ layer. test layer.name ≡ true → list_all test (used_names layer.content) ≡ true) layers

  -- what is known among the layers that pass
  abbrev KeptOf : List Name → List Name → Type 0
  KeptOf kept known = (n : Name) → is_among kept n ≡ (is_among known n && test n)

  -- a layer that passes is known in both
  kept_yes : (kept known : List Name) (m : Name) → test m ≡ true → KeptOf kept known → KeptOf (kept ++ m ∷ []) (known ++ m ∷ [])
  kept_yes kept known m t same n =
      is_among-push kept m n ∙ ap (λ b. b || bytes_eq m n) (same n)
      ∙ one_more (is_among known n) (bytes_eq m n) (test n) (λ e. sym (ap test (same_name m n e)) ∙ t)
      ∙ ap (λ b. b && test n) (sym (is_among-push known m n))

  -- a layer that does not pass is known in one
  kept_no : (kept known : List Name) (m : Name) → test m ≡ false → KeptOf kept known → KeptOf kept (known ++ m ∷ [])
  kept_no kept known m t same n =
      same n
      ∙ none_more (is_among known n) (bytes_eq m n) (test n) (λ e. sym (ap test (same_name m n e)) ∙ t)
      ∙ ap (λ b. b && test n) (sym (is_among-push known m n))

  -- one layer more
  orderly_first : (kept known : List Name) (layer : Layer) (layers : List Layer) (b : Bool) → test layer.name ≡ b → KeptOf kept known → Splits known layer layers → (test layer.name ≡ true → list_all test (used_names layer.content) ≡ true) →
      ((after : List Name) → KeptOf after (known ++ layer.name ∷ []) → is_orderly_after after (passing test layers) ≡ true) → is_orderly_after kept (cond b (layer ∷ passing test layers) (passing test layers)) ≡ true
  orderly_first kept known layer layers true t same parts uses again =
      orderly_joins kept layer (passing test layers) (record {
        first = record {
          new_name = same layer.name ∙ and_left _ _ parts.first.new_name;
          uses_known = all_with (is_among known) test (is_among kept) (λ n k p. same n ∙ and_from _ _ k p) (used_names layer.content) parts.first.uses_known (uses t);
        };
        rest = again (kept ++ layer.name ∷ []) (kept_yes kept known layer.name t same);
      })
  orderly_first kept known layer layers false t same parts uses again = again kept (kept_no kept known layer.name t same)

  -- layers whose names pass are orderly, where they name only such
  pub passing_orderly : (layers : List Layer) (kept known : List Name) → KeptOf kept known → is_orderly_after known layers ≡ true → UsePassing layers → is_orderly_after kept (passing test layers) ≡ true
  passing_orderly [] kept known same orderly uses = refl
  passing_orderly (layer ∷ layers) kept known same orderly uses =
      orderly_first kept known layer layers (test layer.name) refl same (orderly_splits known layer layers orderly) uses.0
      (λ after now. passing_orderly layers after (known ++ layer.name ∷ []) now (orderly_splits known layer layers orderly).rest uses.1)

-- whether the last of some layers is derived
abbrev pub ends_derived : Bool → List Layer → Bool
ends_derived default layers = last_or default (map (λ layer. is_some layer.1) (map reached_of layers))

module _ (T : List (Name × List Name)) (name : Name) where
  -- the last of the layers in reach is derived
  abbrev EndsDerived : List Layer → Type 0
  EndsDerived layers = (default : Bool) → ends_derived default (passing (is_reached T name) layers) ≡ true

  -- layers after one have the last
  ends_behind : (layer : Layer) (layers : List Layer) (b : Bool) → is_reached T name layer.name ≡ b → EndsDerived layers → EndsDerived (layer ∷ layers)
  ends_behind layer layers false out later default =
      ap (ends_derived default) (passing_no (is_reached T name) layer layers out) ∙ later default
  ends_behind layer layers true r later default =
      ap (ends_derived default) (passing_yes (is_reached T name) layer layers r) ∙ later (is_some (reached_of layer).1)

  -- the same, by whether the first layer has the name and what it is
  ends_here : (n : Name) (content : Content) (b : Bool) → bytes_eq n name ≡ b → (layers : List Layer) → is_reached T name name ≡ true → stands_as_derived (record { name = n; content = content } ∷ layers) name ≡ true →
      (bytes_eq n name ≡ true → passing (is_reached T name) layers ≡ []) → (stands_as_derived layers name ≡ true → EndsDerived layers) → EndsDerived (record { name = n; content = content } ∷ layers)
  ends_here n (base rings) true same layers itself standing none later default =
      ends_behind (record { name = n; content = base rings }) layers (is_reached T name n) refl (later (ap (λ b. (b && is_derived (base rings)) || stands_as_derived layers name) (sym same) ∙ standing)) default
  ends_here n (derived expression) true same layers itself standing none later default =
      let layer : Layer = record { name = n; content = derived expression } in
      ap (ends_derived default) (passing_yes (is_reached T name) layer layers (ap (is_reached T name) (same_name n name same) ∙ itself) ∙ ap (λ ls. layer ∷ ls) (none same))
  ends_here n content false other layers itself standing none later default =
      ends_behind (record { name = n; content = content }) layers (is_reached T name n) refl (later (or_second _ _ standing (and_left _ _ other))) default

  -- a derived layer is the last of those that it reaches
  pub ends_all : (layers : List Layer) (known : List Name) → is_orderly_after known layers ≡ true → AreReachRows T layers → ((n : Name) → is_among known n ≡ true → IsBounded T known n) → is_reached T name name ≡ true → stands_as_derived layers name ≡ true → EndsDerived layers
  ends_all [] known orderly rows bounded itself standing = absurd (false≢true standing)
  ends_all (layer ∷ layers) known orderly rows bounded itself standing =
      let parts = orderly_splits known layer layers orderly in
      let more = bounded_push T known layer rows.0 parts.first.uses_known bounded in
      ends_here layer.name layer.content (bytes_eq layer.name name) refl layers itself standing
      (λ same. none_behind (is_reached T name) layers (known ++ layer.name ∷ []) (more name (is_among-push known layer.name name ∙ or_true (is_among known name) same)) parts.rest)
      (ends_all layers (known ++ layer.name ∷ []) parts.rest rows.1 more itself)
    where
      or_true : (a : Bool) {b : Bool} → b ≡ true → (a || b) ≡ true
      or_true true e = refl
      or_true false e = e
