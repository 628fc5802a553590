-- Of the layers that a layer reaches, it is the last; a base layer reaches itself alone.
use Rattle.std.specs.Prelude.{◌≡◌, Bool, true, false, not, ◌&&◌, ◌||◌, List, [], ◌∷◌, ◌++◌, map, bytes_eq}
use Rattle.std.proofs.Common.{refl, ap, sym, ◌∙◌, subst}
use Rattle.std.proofs.lemmas.Bool.{and_left, or_from, or_left, or_right, false_from_ne_true, both_ways}
use Rattle.overlay_terms.specs.Plane.{WholePoint}
use Rattle.overlay_terms.specs.Trees.{last_or}
use Rattle.overlay_terms.specs.Layers.{Name, Content, base, derived, Layer, named}
use Rattle.overlay_terms.specs.Orderly.{is_among, is_orderly_after}
use Rattle.overlay_terms.specs.Commands.{is_derived, stands, stands_as_base, stands_as_derived}
use Rattle.overlay_terms.proofs.NameLemmas.{same_name, is_among-push}
use Rattle.overlay_terms.proofs.OrderlyLemmas.{orderly_splits}
use Rattle.overlay_terms.proofs.TableLemmas.{or_second}
use Rattle.overlay_terms.proofs.ReachLemmas.{is_reached, AreReachRows, IsBounded, bounded_push, none_behind}
use Rattle.overlay_terms.proofs.DefinitionLemmas.{derived_names, passing, passing_yes, passing_no}

-- the layer that has a name is the last to be tested among those known
known_now : (known : List Name) (m n : Name) → bytes_eq m n ≡ true → is_among (known ++ m ∷ []) n ≡ true
known_now known m n e = is_among-push known m n ∙ or_right (is_among known n) _ e

-- a name that is there, but not as a base layer, is there as a derived one
pub derived_from_stands : (layers : List Layer) (name : Name) → stands layers name ≡ true → stands_as_base layers name ≡ false → stands_as_derived layers name ≡ true
derived_from_stands [] name h none = h
derived_from_stands (layer ∷ layers) name h none = by_kind (bytes_eq layer.name name) (is_derived layer.content) (stands layers name) (stands_as_base layers name) (stands_as_derived layers name) h none (derived_from_stands layers name) where
  -- by what the first layer is
  by_kind : (same kind s b d : Bool) → (same || s) ≡ true → ((same && not kind) || b) ≡ false → (s ≡ true → b ≡ false → d ≡ true) → ((same && kind) || d) ≡ true
  by_kind true true s b d h none again = refl
  by_kind true false s b d h none again = absurd (cc)
  by_kind false kind s b d h none again = again h none

-- a name that is known is no later layer's
not_behind : (layers : List Layer) (known : List Name) (name : Name) → is_among known name ≡ true → is_orderly_after known layers ≡ true → stands_as_base layers name ≡ false
not_behind [] known name e orderly = refl
not_behind (layer ∷ layers) known name e orderly =
    let parts = orderly_splits known layer layers orderly in
    let other = false_from_ne_true (bytes_eq layer.name name) (λ same. both_ways (is_among known layer.name) parts.first.new_name (ap (is_among known) (same_name layer.name name same) ∙ e)) in
    or_from _ _ (and_left _ _ other) (not_behind layers (known ++ layer.name ∷ []) name (is_among-push known layer.name name ∙ or_left _ _ e) parts.rest)

-- a base layer is alone among those whose names pass a test
pub record StandsAlone (name : Name) (layers : List Layer) : Type 0 where
  pub rings : List (List WholePoint)
  pub is : layers ≡ record { name = name; content = base rings } ∷ []

-- the same, by whether the first layer has the name and what it is
alone_by : (test : Name → Bool) (name : Name) (n : Name) (content : Content) (b : Bool) → bytes_eq n name ≡ b → (layers : List Layer) (known : List Name) → is_orderly_after known (record { name = n; content = content } ∷ layers) ≡ true → ((m : Name) → test m ≡ true → bytes_eq m name ≡ true) → test name ≡ true →
    stands_as_base (record { name = n; content = content } ∷ layers) name ≡ true → (stands_as_base layers name ≡ true → StandsAlone name (passing test layers)) → StandsAlone name (passing test (record { name = n; content = content } ∷ layers))
alone_by test name n (base rings) true same layers known orderly only passes standing again =
    let layer : Layer = record { name = n; content = base rings } in
    let parts = orderly_splits known layer layers orderly in
    let level = same_name n name same in
    record {
      rings = rings;
      is =
          passing_yes test layer layers (ap test level ∙ passes)
          ∙ ap (λ ls. layer ∷ ls) (none_behind test layers (known ++ n ∷ []) (λ m e. known_now known n m (ap (λ k. bytes_eq n k) (same_name m name (only m e)) ∙ same)) parts.rest)
          ∙ ap (λ k. record { name = k; content = base rings } ∷ []) level;
    }
alone_by test name n (derived expression) true same layers known orderly only passes standing again =
    let layer : Layer = record { name = n; content = derived expression } in
    let parts = orderly_splits known layer layers orderly in
    let later = ap (λ b. (b && not (is_derived (derived expression))) || stands_as_base layers name) (sym same) ∙ standing in
    absurd (both_ways (stands_as_base layers name) (not_behind layers (known ++ n ∷ []) name (known_now known n name same) parts.rest) later)
alone_by test name n content false other layers known orderly only passes standing again =
    let layer : Layer = record { name = n; content = content } in
    let out = false_from_ne_true (test n) (λ e. both_ways (bytes_eq n name) other (only n e)) in
    subst (StandsAlone name) (sym (passing_no test layer layers out)) (again (or_second _ _ standing (and_left _ _ other)))

-- where a test passes one name alone, and that is a base layer's, it leaves that layer alone
pub alone : (test : Name → Bool) (name : Name) (layers : List Layer) (known : List Name) → is_orderly_after known layers ≡ true → ((m : Name) → test m ≡ true → bytes_eq m name ≡ true) → test name ≡ true → stands_as_base layers name ≡ true → StandsAlone name (passing test layers)
alone test name [] known orderly only passes standing = absurd (cc)
alone test name (layer ∷ layers) known orderly only passes standing =
    alone_by test name layer.name layer.content (bytes_eq layer.name name) refl layers known orderly only passes standing
    (λ later. alone test name layers (known ++ layer.name ∷ []) (orderly_splits known layer layers orderly).rest only passes later)

module _ (T : List (Name × List Name)) (name : Name) where
  -- the same, by whether the first layer has the name and what it is
  base_reach_by : (n : Name) (content : Content) (b : Bool) → bytes_eq n name ≡ b → (layers : List Layer) → AreReachRows T (record { name = n; content = content } ∷ layers) → stands_as_base (record { name = n; content = content } ∷ layers) name ≡ true → (stands_as_base layers name ≡ true → named [] T name ≡ name ∷ []) → named [] T name ≡ name ∷ []
  base_reach_by n (base rings) true same layers rows standing again = subst (λ k. named [] T k ≡ k ∷ []) (same_name n name same) rows.0
  base_reach_by n (derived expression) true same layers rows standing again = again (ap (λ b. (b && not (is_derived (derived expression))) || stands_as_base layers name) (sym same) ∙ standing)
  base_reach_by n content false other layers rows standing again = again (or_second _ _ standing (and_left _ _ other))

  -- a base layer reaches itself alone
  pub base_reach : (layers : List Layer) → AreReachRows T layers → stands_as_base layers name ≡ true → named [] T name ≡ name ∷ []
  base_reach [] rows standing = absurd (cc)
  base_reach (layer ∷ layers) rows standing = base_reach_by layer.name layer.content (bytes_eq layer.name name) refl layers rows standing (base_reach layers rows.1)

  module _ (value : Name → Bool) where
    -- the last of the values of the derived layers in reach is that of the layer
    abbrev IsLast : List Layer → Type 0
    IsLast layers = (default : Bool) → last_or default (map value (derived_names (passing (is_reached T name) layers))) ≡ value name

    -- layers after one have the last
    last_behind : (n : Name) (content : Content) (b : Bool) (layers : List Layer) → is_reached T name n ≡ b → IsLast layers → IsLast (record { name = n; content = content } ∷ layers)
    last_behind n content false layers out later default =
        ap (λ ls. last_or default (map value (derived_names ls))) (passing_no (is_reached T name) (record { name = n; content = content }) layers out) ∙ later default
    last_behind n (base rings) true layers r later default =
        ap (λ ls. last_or default (map value (derived_names ls))) (passing_yes (is_reached T name) (record { name = n; content = base rings }) layers r) ∙ later default
    last_behind n (derived expression) true layers r later default =
        ap (λ ls. last_or default (map value (derived_names ls))) (passing_yes (is_reached T name) (record { name = n; content = derived expression }) layers r) ∙ later (value n)

    -- the same, by whether the first layer has the name and what it is
    last_here : (n : Name) (content : Content) (b : Bool) → bytes_eq n name ≡ b → (layers : List Layer) → is_reached T name name ≡ true → stands_as_derived (record { name = n; content = content } ∷ layers) name ≡ true →
        (bytes_eq n name ≡ true → passing (is_reached T name) layers ≡ []) → (stands_as_derived layers name ≡ true → IsLast layers) → IsLast (record { name = n; content = content } ∷ layers)
    last_here n (base rings) true same layers itself standing none later default =
        last_behind n (base rings) (is_reached T name n) layers refl (later (ap (λ b. (b && is_derived (base rings)) || stands_as_derived layers name) (sym same) ∙ standing)) default
    last_here n (derived expression) true same layers itself standing none later default =
        let layer : Layer = record { name = n; content = derived expression } in
        ap (λ ls. last_or default (map value (derived_names ls))) (passing_yes (is_reached T name) layer layers (ap (is_reached T name) (same_name n name same) ∙ itself) ∙ ap (λ ls. layer ∷ ls) (none same))
        ∙ ap value (same_name n name same)
    last_here n content false other layers itself standing none later default =
        last_behind n content (is_reached T name n) layers refl (later (or_second _ _ standing (and_left _ _ other))) default

    -- a derived layer's value is the last of those in reach
    pub last_is : (layers : List Layer) (known : List Name) → is_orderly_after known layers ≡ true → AreReachRows T layers → ((n : Name) → is_among known n ≡ true → IsBounded T known n) → is_reached T name name ≡ true → stands_as_derived layers name ≡ true → IsLast layers
    last_is [] known orderly rows bounded itself standing = absurd (cc)
    last_is (layer ∷ layers) known orderly rows bounded itself standing =
        let parts = orderly_splits known layer layers orderly in
        let more = bounded_push T known layer rows.0 parts.first.uses_known bounded in
        last_here layer.name layer.content (bytes_eq layer.name name) refl layers itself standing
        (λ same. none_behind (is_reached T name) layers (known ++ layer.name ∷ []) (more name (known_now known layer.name name same)) parts.rest)
        (last_is layers (known ++ layer.name ∷ []) parts.rest rows.1 more itself)
