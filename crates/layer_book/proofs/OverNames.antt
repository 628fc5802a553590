-- Which derived layers reach a name.
use Rattle.std.proofs.Common.{◌≡◌, ◌+◌, Bool, true, false, cond, ◌||◌, ◌&&◌, List, [], ◌∷◌, ◌++◌, map, filter, refl, ap, sym, ◌∙◌, bytes_eq}
use Rattle.std.specs.List.{list_any}
use Rattle.std.proofs.lemmas.Bool.{and_parts}
use Rattle.overlay_terms.specs.Layers.{Name, Layer}
use Rattle.overlay_terms.specs.Commands.{is_derived, stands_as_derived}
use Rattle.overlay_terms.specs.Touched.{reaches_name, derived_over}
use Rattle.layer_book.proofs.Names.{same_name, turned}
use Rattle.layer_book.proofs.BoolLemmas.{and_false}

-- the names of derived layers that pass a test
abbrev passed_names : (Name → Bool) → List Layer → List Name
passed_names test layers = map (λ (l : Layer). l.name) (filter (λ (l : Layer). is_derived l.content && test l.name) layers)

-- whether a derived layer with a name passes a test of names
pub named_among : (test : Name → Bool) (own : Name) (layers : List Layer) → list_any (bytes_eq own) (map (λ (layer : Layer). layer.name) (filter (λ (layer : Layer). is_derived layer.content && test layer.name) layers)) ≡ (stands_as_derived layers own && test own)
named_among test own [] = refl
named_among test own (layer ∷ layers) =
    split (bytes_eq layer.name own) (is_derived layer.content) (test layer.name) (turned own layer.name) (λ e. ap test (same_name layer.name own e)) (named_among test own layers)
  where
    split : (b d t : Bool) → bytes_eq own layer.name ≡ b → (b ≡ true → t ≡ test own) → list_any (bytes_eq own) (passed_names test layers) ≡ (stands_as_derived layers own && test own) →
        list_any (bytes_eq own) (map (λ (l : Layer). l.name) (cond (d && t) (layer ∷ filter (λ (l : Layer). is_derived l.content && test l.name) layers) (filter (λ (l : Layer). is_derived l.content && test l.name) layers))) ≡ (((b && d) || stands_as_derived layers own) && test own)
    split true true true at e next = ap (λ c. c || list_any (bytes_eq own) (passed_names test layers)) at ∙ e refl
    split true true false at e next = next ∙ ap (λ c. stands_as_derived layers own && c) (sym (e refl)) ∙ and_false (stands_as_derived layers own) ∙ e refl
    split true false t at e next = next
    split false true true at e next = ap (λ c. c || list_any (bytes_eq own) (passed_names test layers)) at ∙ next
    split false true false at e next = next
    split false false t at e next = next

-- a layer that is over a name is derived
pub over_derived : (layers : List Layer) (own under : Name) → list_any (bytes_eq own) (derived_over layers under) ≡ true → stands_as_derived layers own ≡ true
over_derived layers own under h =
    (and_parts (stands_as_derived layers own) (reaches_name layers own under) (sym (named_among (λ n. reaches_name layers n under) own layers) ∙ h)).0

-- a layer that is over a name reaches it
pub over_reaches : (layers : List Layer) (own under : Name) → list_any (bytes_eq own) (derived_over layers under) ≡ true → reaches_name layers own under ≡ true
over_reaches layers own under h =
    (and_parts (stands_as_derived layers own) (reaches_name layers own under) (sym (named_among (λ n. reaches_name layers n under) own layers) ∙ h)).1
