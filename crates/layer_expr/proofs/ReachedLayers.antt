-- Layers with their names and expressions, as steps.
use Rattle.std.proofs.Common.{◌≡◌, suc, List, [], ◌∷◌, length, refl, ap, map, ◌++◌, true, not, ◌&&◌}
use Rattle.std.specs.List.{filter_map, list_all}
use Rattle.overlay_terms.specs.Trees.{relabel, leaves}
use Rattle.overlay_terms.specs.Layers.{Name, Content, base, derived, Layer, base_of, derived_of, layers_in_reach, source_of}
use Rattle.overlay_terms.specs.Orderly.{is_among, is_orderly_after}
use Rattle.layer_expr.specs.StepList.{is_ordered_after, base_names, definitions_of, reached_of, NumberedByContent, NumberedAreInReach}

-- a layer of this name
abbrev layer_with : Name → Content → Layer
layer_with name content = record { name = name; content = content }

base_names-reached : (layers : List Layer) → base_names (map reached_of layers) ≡ map (λ b. b.0) (filter_map base_of layers)
base_names-reached [] = refl
base_names-reached (layer ∷ layers) =
    elim layer.content as (λ c. base_names (map reached_of (layer_with layer.name c ∷ layers)) ≡ map (λ b. b.0) (filter_map base_of (layer_with layer.name c ∷ layers))) [
      | base rings ↦ ap (λ names. layer.name ∷ names) (base_names-reached layers)
      | derived e ↦ base_names-reached layers
    ]

length-base_names : (layers : List Layer) → length (base_names (map reached_of layers)) ≡ length (filter_map base_of layers)
length-base_names [] = refl
length-base_names (layer ∷ layers) =
    elim layer.content as (λ c. length (base_names (map reached_of (layer_with layer.name c ∷ layers))) ≡ length (filter_map base_of (layer_with layer.name c ∷ layers))) [
      | base rings ↦ ap suc (length-base_names layers)
      | derived e ↦ length-base_names layers
    ]

definitions_of-reached : (layers : List Layer) → definitions_of (map reached_of layers) ≡ filter_map derived_of layers
definitions_of-reached [] = refl
definitions_of-reached (layer ∷ layers) =
    elim layer.content as (λ c. definitions_of (map reached_of (layer_with layer.name c ∷ layers)) ≡ filter_map derived_of (layer_with layer.name c ∷ layers)) [
      | base rings ↦ definitions_of-reached layers
      | derived e ↦ ap (λ ds. (layer.name, e) ∷ ds) (definitions_of-reached layers)
    ]

pub numbered_by_content : NumberedByContent
numbered_by_content layers = λ i. record {
  bases = length-base_names layers i;
  definitions = map (λ d. relabel (source_of (base_names-reached layers i) (map (λ e. e.0) (definitions_of-reached layers i))) d.1) (definitions_of-reached layers i);
}

pub numbered_are_in_reach : NumberedAreInReach
numbered_are_in_reach layers name = numbered_by_content (layers_in_reach layers name)

-- layers are in order exactly where their names and expressions are
pub is_ordered_after-reached : (known : List Name) (layers : List Layer) → is_ordered_after known (map reached_of layers) ≡ is_orderly_after known layers
is_ordered_after-reached known [] = refl
is_ordered_after-reached known (layer ∷ layers) =
    let others = is_ordered_after-reached (known ++ layer.name ∷ []) layers in
    elim layer.content as (λ c. is_ordered_after known (map reached_of (layer_with layer.name c ∷ layers)) ≡ is_orderly_after known (layer_with layer.name c ∷ layers)) [
      | base rings ↦ ap (λ b. not (is_among known layer.name) && true && b) others
      | derived e ↦ ap (λ b. not (is_among known layer.name) && list_all (is_among known) (leaves e) && b) others
    ]
