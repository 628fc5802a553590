-- Layers behind references, as steps.
use Rattle.std.proofs.Common.{◌≡◌, ℕ, suc, ◌+◌, ◌<◌, ◌≤◌, List, [], ◌∷◌, ◌++◌, length, refl, sym, ap, ◌∙◌, arith, Some, None, is_none, map, take, get_or, filter, Bor, append-nil}
use Rattle.std.proofs.lemmas.List.{map-append, take_more}
use Rattle.std.proofs.lemmas.List.Elements.{filter_map-append}
use Rattle.overlay_terms.specs.Trees.{Tree, Source, Steps, relabel}
use Rattle.overlay_terms.specs.Layers.{Name}
use Rattle.layer_expr.specs.StepList.{reached, base_names, definitions_of, definition_of, source_among, numbered_steps, IsOrdered, IsStepList}
use Rattle.layer_expr.proofs.NameNumbers.{Lent}
use Rattle.layer_expr.proofs.StepOrder.{names_earlier-numbered}

pub length-base_names : (layers : List Lent) → length (filter (λ layer. is_none layer.1) layers) ≡ length (base_names (reached layers))
length-base_names [] = refl
length-base_names ((name, None) ∷ layers) = ap suc (length-base_names layers)
length-base_names ((name, Some e) ∷ layers) = length-base_names layers

base_names-few : (layers : List Lent) → length (base_names (reached layers)) ≤ length layers
base_names-few [] = omega arith
base_names-few ((name, None) ∷ layers) = omega (arith, base_names-few layers)
base_names-few ((name, Some e) ∷ layers) = omega (arith, base_names-few layers)

definitions_of-few : {B : Type 0} (f : Name × Tree Name → B) (layers : List Lent) → length (map f (definitions_of (reached layers))) ≤ length layers
definitions_of-few f [] = omega arith
definitions_of-few f ((name, None) ∷ layers) = omega (arith, definitions_of-few f layers)
definitions_of-few f ((name, Some e) ∷ layers) = omega (arith, definitions_of-few f layers)

-- the parts of the steps are counted and numbered apart
pub numbered_steps-parts : (layers : List Lent) (bases : ℕ) (definitions : List (Tree Source)) → bases ≡ length (filter (λ layer. is_none layer.1) layers) → definitions ≡ (numbered_steps (reached layers)).definitions → let steps : Steps = record { bases = bases; definitions = definitions } in steps ≡ numbered_steps (reached layers)
numbered_steps-parts layers bases definitions counted numbered =
    λ i. record { bases = (counted ∙ length-base_names layers) i; definitions = numbered i }

-- the steps of ordered layers keep the limits of a step list
pub is_step_list : (layers : List Lent) → length layers ≤ 32 → IsOrdered (reached layers) → IsStepList (numbered_steps (reached layers))
is_step_list layers few ordered = record {
  few_bases = omega (arith, few, base_names-few layers);
  few_definitions = omega (arith, few, definitions_of-few (λ d. relabel (source_among (reached layers)) d.1) layers);
  earlier = names_earlier-numbered (reached layers) ordered;
}

-- one more layer behind a reference
reached-more : (layers : List Lent) (i : ℕ) (layer : Lent) → i < length layers → layer ≡ get_or layers i layer → reached (take (i + 1) layers) ≡ reached (take i layers) ++ reached (layer ∷ [])
reached-more layers i layer h is =
    ap reached (take_more layers i layer h ∙ ap (λ l. take i layers ++ l ∷ []) (sym is)) ∙ map-append _ (take i layers) (layer ∷ [])

definitions_of-more : {B : Type 0} (f : Name × Tree Name → B) (layers : List Lent) (i : ℕ) (layer : Lent) → i < length layers → layer ≡ get_or layers i layer → map f (definitions_of (reached (take (i + 1) layers))) ≡ map f (definitions_of (reached (take i layers))) ++ map f (definitions_of (reached (layer ∷ [])))
definitions_of-more f layers i layer h is =
    ap (λ ls. map f (definitions_of ls)) (reached-more layers i layer h is)
    ∙ ap (map f) (filter_map-append definition_of (reached (take i layers)) (reached (layer ∷ [])))
    ∙ map-append f (definitions_of (reached (take i layers))) (definitions_of (reached (layer ∷ [])))

pub definitions_of-base : (at : Name → Source) (layers : List Lent) (i : ℕ) (layer : Lent) → i < length layers → layer ≡ get_or layers i layer → layer.1 ≡ None → map (λ d. relabel at d.1) (definitions_of (reached (take (i + 1) layers))) ≡ map (λ d. relabel at d.1) (definitions_of (reached (take i layers)))
definitions_of-base at layers i layer h is none =
    definitions_of-more (λ d. relabel at d.1) layers i layer h is
    ∙ ap (λ o. map (λ d. relabel at d.1) (definitions_of (reached (take i layers))) ++ map (λ d. relabel at d.1) (definitions_of (reached ((layer.0, o) ∷ [])))) none
    ∙ append-nil _

pub definitions_of-derived : (at : Name → Source) (layers : List Lent) (i : ℕ) (layer : Lent) (expression : Bor (Tree Name)) → i < length layers → layer ≡ get_or layers i layer → layer.1 ≡ Some expression → map (λ d. relabel at d.1) (definitions_of (reached (take (i + 1) layers))) ≡ map (λ d. relabel at d.1) (definitions_of (reached (take i layers))) ++ relabel at expression.now ∷ []
definitions_of-derived at layers i layer expression h is some =
    definitions_of-more (λ d. relabel at d.1) layers i layer h is
    ∙ ap (λ o. map (λ d. relabel at d.1) (definitions_of (reached (take i layers))) ++ map (λ d. relabel at d.1) (definitions_of (reached ((layer.0, o) ∷ [])))) some
