-- Layers with one name changed: how they differ, and which derived layers are still there.
use Rattle.std.specs.Prelude.{◌≡◌, Bool, true, false, not, ◌&&◌, List, [], ◌∷◌, map, filter, bytes_eq, if◌then◌else◌}
use Rattle.std.specs.List.{list_any}
use Rattle.std.proofs.Common.{refl, ap, sym, ◌∙◌, subst, ⊎_elim}
use Rattle.std.proofs.lemmas.Bool.{and_parts, and_from, or_cases, or_parts, or_left, or_right, both_ways, false_from_ne_true}
use Rattle.overlay_terms.specs.Layers.{Name, Content, Layer}
use Rattle.overlay_terms.specs.Commands.{is_derived, stands, stands_as_derived}
use Rattle.overlay_terms.proofs.NameLemmas.{same_name, name_itself}
use Rattle.overlay_terms.proofs.OrderlyLemmas.{replaced_by}
use Rattle.overlay_terms.proofs.AcceptedLemmas.{without}
use Rattle.overlay_terms.proofs.DefinitionLemmas.{passing, passing_yes}
use Rattle.overlay_terms.proofs.KeptReach.{DifferAt, none, other, replaced, removed}

-- one more layer in front, by whether it has the replaced name
replaced_first : (layer : Layer) (layers changed : List Layer) (name : Name) (content : Content) (b : Bool) → bytes_eq layer.name name ≡ b → DifferAt name layers changed → DifferAt name (layer ∷ layers) ((if b then record { name = name; content = content } else layer) ∷ changed)
replaced_first layer layers changed name content true has rest =
    subst (λ n. DifferAt name (layer ∷ layers) (record { name = n; content = content } ∷ changed)) (same_name layer.name name has) (replaced layer content layers changed has rest)
replaced_first layer layers changed name content false away rest = other layer layers changed away rest

-- layers with a name's content replaced differ at the name alone
pub differ_replaced : (layers : List Layer) (name : Name) (content : Content) → DifferAt name layers (map (replaced_by name content) layers)
differ_replaced [] name content = none
differ_replaced (layer ∷ layers) name content =
    replaced_first layer layers (map (replaced_by name content) layers) name content (bytes_eq layer.name name) refl (differ_replaced layers name content)

-- one more layer in front, by whether it has the name that is taken out
removed_first : (layer : Layer) (layers changed : List Layer) (name : Name) (b : Bool) → bytes_eq layer.name name ≡ b → DifferAt name layers changed → DifferAt name (layer ∷ layers) (if not b then layer ∷ changed else changed)
removed_first layer layers changed name true has rest = removed layer layers changed has rest
removed_first layer layers changed name false away rest = other layer layers changed away rest

-- layers without a name differ at the name alone
pub differ_removed : (layers : List Layer) (name : Name) → DifferAt name layers (without layers name)
differ_removed [] name = none
differ_removed (layer ∷ layers) name =
    removed_first layer layers (without layers name) name (bytes_eq layer.name name) refl (differ_removed layers name)

-- a derived layer is there
pub derived_stands : (layers : List Layer) (name : Name) → stands_as_derived layers name ≡ true → stands layers name ≡ true
derived_stands [] name h = h
derived_stands (layer ∷ layers) name h =
    ⊎_elim (λ e. or_left _ _ (and_parts (bytes_eq layer.name name) (is_derived layer.content) e).0) (λ e. or_right (bytes_eq layer.name name) _ (derived_stands layers name e))
    (or_cases (bytes_eq layer.name name && is_derived layer.content) (stands_as_derived layers name) h)

-- a name that a first layer has not, from another that it has
has_other : (m a b : Name) → bytes_eq m a ≡ true → bytes_eq m b ≡ true → bytes_eq a b ≡ true
has_other m a b one two = ap (λ n. bytes_eq n b) (sym (same_name m a one)) ∙ two

-- one more layer in front, by whether it has the replaced name
still_first : (layer : Layer) (layers changed : List Layer) (name : Name) (content : Content) (b : Bool) (own : Name) → bytes_eq layer.name name ≡ b → (bytes_eq name own ≡ true → is_derived content ≡ true) → (stands_as_derived layers own ≡ true → stands_as_derived changed own ≡ true) →
    stands_as_derived (layer ∷ layers) own ≡ true → stands_as_derived ((if b then record { name = name; content = content } else layer) ∷ changed) own ≡ true
still_first layer layers changed name content true own has kind again h =
    ⊎_elim
    (λ e.
    let same = has_other layer.name name own has (and_parts (bytes_eq layer.name own) (is_derived layer.content) e).0 in
    or_left _ _ (and_from _ _ same (kind same)))
    (λ e. or_right (bytes_eq name own && is_derived content) _ (again e))
    (or_cases (bytes_eq layer.name own && is_derived layer.content) (stands_as_derived layers own) h)
still_first layer layers changed name content false own away kind again h =
    ⊎_elim (λ e. or_left _ _ e) (λ e. or_right (bytes_eq layer.name own && is_derived layer.content) _ (again e))
    (or_cases (bytes_eq layer.name own && is_derived layer.content) (stands_as_derived layers own) h)

-- a derived layer stays one, where a name's content is replaced by none that makes it a base layer
pub still_replaced : (layers : List Layer) (name : Name) (content : Content) (own : Name) → (bytes_eq name own ≡ true → is_derived content ≡ true) → stands_as_derived layers own ≡ true → stands_as_derived (map (replaced_by name content) layers) own ≡ true
still_replaced [] name content own kind h = h
still_replaced (layer ∷ layers) name content own kind h =
    still_first layer layers (map (replaced_by name content) layers) name content (bytes_eq layer.name name) own refl kind (still_replaced layers name content own kind) h

-- one more layer in front, by whether it has the name that is taken out
left_first : (layer : Layer) (layers changed : List Layer) (name : Name) (b : Bool) (own : Name) → bytes_eq layer.name name ≡ b → bytes_eq name own ≡ false → (stands_as_derived layers own ≡ true → stands_as_derived changed own ≡ true) →
    stands_as_derived (layer ∷ layers) own ≡ true → stands_as_derived (if not b then layer ∷ changed else changed) own ≡ true
left_first layer layers changed name true own has differs again h =
    ⊎_elim
    (λ e. absurd (both_ways (bytes_eq name own) differs (has_other layer.name name own has (and_parts (bytes_eq layer.name own) (is_derived layer.content) e).0)))
    again
    (or_cases (bytes_eq layer.name own && is_derived layer.content) (stands_as_derived layers own) h)
left_first layer layers changed name false own away differs again h =
    ⊎_elim (λ e. or_left _ _ e) (λ e. or_right (bytes_eq layer.name own && is_derived layer.content) _ (again e))
    (or_cases (bytes_eq layer.name own && is_derived layer.content) (stands_as_derived layers own) h)

-- a derived layer stays, where another name is taken out
pub still_without : (layers : List Layer) (name own : Name) → bytes_eq name own ≡ false → stands_as_derived layers own ≡ true → stands_as_derived (without layers name) own ≡ true
still_without [] name own differs h = h
still_without (layer ∷ layers) name own differs h =
    left_first layer layers (without layers name) name (bytes_eq layer.name name) own refl differs (still_without layers name own differs) h

-- the names of the derived layers whose names pass a test
abbrev derived_passing : (Name → Bool) → List Layer → List Name
derived_passing test layers = map (λ (layer : Layer). layer.name) (filter (λ (layer : Layer). is_derived layer.content && test layer.name) layers)

-- the names of one more layer in front, where the test keeps it
abbrev with_name : Bool → Layer → List Layer → List Name
with_name b layer kept = map (λ (l : Layer). l.name) (if b then layer ∷ kept else kept)

-- a name that is none of these is none of those after it
none_behind_first : (b : Bool) (layer : Layer) (kept : List Layer) (own : Name) → list_any (bytes_eq own) (with_name b layer kept) ≡ false → list_any (bytes_eq own) (map (λ (l : Layer). l.name) kept) ≡ false
none_behind_first true layer kept own h = (or_parts (bytes_eq own layer.name) (list_any (bytes_eq own) (map (λ (l : Layer). l.name) kept)) h).1
none_behind_first false layer kept own h = h

-- the first layer does not pass, where it is the derived one that is not among those that do
first_fails : (b : Bool) (layer : Layer) (kept : List Layer) (own : Name) → bytes_eq layer.name own ≡ true → list_any (bytes_eq own) (with_name b layer kept) ≡ false → b ≡ false
first_fails true layer kept own has h =
    absurd (both_ways (bytes_eq own layer.name) (or_parts (bytes_eq own layer.name) (list_any (bytes_eq own) (map (λ (l : Layer). l.name) kept)) h).0 (ap (bytes_eq own) (same_name layer.name own has) ∙ name_itself own))
first_fails false layer kept own has h = refl

-- a test that fails together with one that holds, fails
second_fails : (a b : Bool) → a ≡ true → (a && b) ≡ false → b ≡ false
second_fails true b e h = h
second_fails false b e h = absurd (cc)

-- a derived layer that is not among those that pass a test does not pass it
pub derived_fails : (test : Name → Bool) (layers : List Layer) (own : Name) → list_any (bytes_eq own) (derived_passing test layers) ≡ false → stands_as_derived layers own ≡ true → test own ≡ false
derived_fails test [] own out h = absurd (cc)
derived_fails test (layer ∷ layers) own out h =
    let kept = filter (λ (l : Layer). is_derived l.content && test l.name) layers in
    ⊎_elim
    (λ e.
    let parts = and_parts (bytes_eq layer.name own) (is_derived layer.content) e in
    ap test (sym (same_name layer.name own parts.0)) ∙ second_fails (is_derived layer.content) (test layer.name) parts.1 (first_fails (is_derived layer.content && test layer.name) layer kept own parts.0 out))
    (λ e. derived_fails test layers own (none_behind_first (is_derived layer.content && test layer.name) layer kept own out) e)
    (or_cases (bytes_eq layer.name own && is_derived layer.content) (stands_as_derived layers own) h)

-- what is there after a first layer is there
stands_behind : (b : Bool) (layer : Layer) (kept : List Layer) (name : Name) → stands kept name ≡ true → stands (if b then layer ∷ kept else kept) name ≡ true
stands_behind true layer kept name h = or_right (bytes_eq layer.name name) _ h
stands_behind false layer kept name h = h

-- a name that is there and passes a test is among the layers that pass
passes_too : (test : Name → Bool) (layers : List Layer) (name : Name) → test name ≡ true → stands layers name ≡ true → stands (passing test layers) name ≡ true
passes_too test [] name passes h = h
passes_too test (layer ∷ layers) name passes h =
    ⊎_elim (λ e. ap (λ ls. stands ls name) (passing_yes test layer layers (ap test (same_name layer.name name e) ∙ passes)) ∙ or_left _ _ e)
    (λ e. stands_behind (test layer.name) layer (passing test layers) name (passes_too test layers name passes e))
    (or_cases (bytes_eq layer.name name) (stands layers name) h)

-- a name that is there, but not among the layers that pass a test, does not pass it
pub stands_fails : (test : Name → Bool) (layers : List Layer) (name : Name) → stands (passing test layers) name ≡ false → stands layers name ≡ true → test name ≡ false
stands_fails test layers name out h =
    false_from_ne_true (test name) (λ e. both_ways (stands (passing test layers) name) out (passes_too test layers name e h))
