-- Definitions over at most 32 base layers read the first 32 bits alone.
use Rattle.std.proofs.Common.{◌≡◌, ℕ, ◌+◌, ◌-◌, ◌<◌, Bool, true, List, [], ◌∷◌, ◌++◌, fold, refl, ap, ◌∙◌, arith}
use Rattle.std.specs.List.{list_all}
use Rattle.std.proofs.lemmas.Bool.{and_parts, ltb-true}
use Rattle.overlay_terms.specs.Trees.{Tree, truth, leaves, Source, base_bit, definition, Steps, source_value, definition_values, last_or, steps_value}
use Rattle.overlay_terms.proofs.DefinitionLemmas.{truth_same}
use Rattle.layer_expr.specs.StepList.{IsStepList, stands_before, names_earlier}

same_source : (f g : ℕ → Bool) (bases place : ℕ) (found : List Bool) → ((k : ℕ) → k < bases → f k ≡ g k) → (s : Source) → stands_before bases place s ≡ true → source_value f found s ≡ source_value g found s
same_source f g bases place found same (base_bit k) h = same k (ltb-true k bases h)
same_source f g bases place found same (definition k) h = refl

-- definitions from a place on are the same over bits that agree for the base layers
same_definitions : (f g : ℕ → Bool) (bases place : ℕ) (found : List Bool) → ((k : ℕ) → k < bases → f k ≡ g k) → (ts : List (Tree Source)) → names_earlier bases place ts ≡ true →
    fold (λ known t. known ++ truth (source_value f known) t ∷ []) found ts ≡ fold (λ known t. known ++ truth (source_value g known) t ∷ []) found ts
same_definitions f g bases place found same [] h = refl
same_definitions f g bases place found same (t ∷ ts) h =
    let parts = and_parts (list_all (stands_before bases place) (leaves t)) (names_earlier bases (place + 1) ts) h in
    let here : truth (source_value f found) t ≡ truth (source_value g found) t = truth_same _ _ (stands_before bases place) (same_source f g bases place found same) t parts.0 in
    ap (λ b. fold (λ known t. known ++ truth (source_value f known) t ∷ []) (found ++ b ∷ []) ts) here
    ∙ same_definitions f g bases (place + 1) (found ++ truth (source_value g found) t ∷ []) same ts parts.1

-- a step list has one value over bits that agree below 32
pub steps_value-known : (steps : Steps) (f g : ℕ → Bool) → IsStepList steps → ((k : ℕ) → k < 32 → f k ≡ g k) → steps_value steps f ≡ steps_value steps g
steps_value-known steps f g h same =
    let last : steps.bases - 1 < 32 = omega arith in
    let found = same_definitions f g steps.bases 0 [] (λ k l. same k (omega arith)) steps.definitions h.earlier in
    ap (λ b. last_or b (definition_values f steps.definitions)) (same (steps.bases - 1) last) ∙ ap (last_or (g (steps.bases - 1))) found
