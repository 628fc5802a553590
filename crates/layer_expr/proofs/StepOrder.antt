-- Layers in order as steps: their numbers, and what they are at a point.
use Rattle.std.proofs.Common.{◌≡◌, ℕ, inl, inr, ◌+◌, ◌≤◌, Bool, true, false, not, ◌||◌, cond, List, [], ◌∷◌, ◌++◌, length, refl, sym, ap, subst, ◌∙◌, arith, bytes_eq, Some, None, map, append_assoc, length-append}
use Rattle.std.specs.List.{list_all}
use Rattle.std.proofs.lemmas.Bool.{or_parts, or_cases, or_from, and_parts, and_from, not-true, false_from_ne_true, false≢true, ltb-true, lt-ltb}
use Rattle.std.proofs.lemmas.List.Folds.{list_all-append, list_any-append}
use Rattle.overlay_terms.specs.Trees.{Tree, leaf, combine, leaves, relabel, Source, base_bit, definition}
use Rattle.overlay_terms.specs.Layers.{Name, source_of}
use Rattle.overlay_terms.specs.Orderly.{is_among}
use Rattle.overlay_terms.proofs.NameLemmas.{same_name, name_itself, is_among-push}
use Rattle.layer_expr.specs.StepList.{Reached, base_names, definitions_of, source_among, names_in, is_ordered_after, stands_before, names_earlier}
use Rattle.layer_expr.proofs.NameNumbers.{among, first_of, first_of-miss, first_of-absent, among-miss, definition_names}

is_among-push_old : (names : List Name) (other name : Name) → is_among names name ≡ true → is_among (names ++ other ∷ []) name ≡ true
is_among-push_old names other name h = is_among-push names other name ∙ rw h refl

is_among-push_new : (names : List Name) (name : Name) → is_among (names ++ name ∷ []) name ≡ true
is_among-push_new names name = is_among-push names name name ∙ rw (name_itself name) (or_true (is_among names name)) where
  or_true : (b : Bool) → (b || true) ≡ true
  or_true true = refl
  or_true false = refl

not_among-push : (names : List Name) (other name : Name) → is_among (names ++ other ∷ []) name ≡ false → (is_among names name ≡ false) × (bytes_eq other name ≡ false)
not_among-push names other name h = or_parts _ _ (sym (is_among-push names other name) ∙ h)

-- what the order of layers says of the first of them
pub record Head (known : List Name) (layer : Reached) (layers : List Reached) : Type 0 where
  pub new : is_among known layer.0 ≡ false
  pub over : list_all (is_among known) (names_in layer.1) ≡ true
  pub rest : is_ordered_after (known ++ layer.0 ∷ []) layers ≡ true

pub head : (known : List Name) (layer : Reached) (layers : List Reached) → is_ordered_after known (layer ∷ layers) ≡ true → Head known layer layers
head known layer layers h =
    let parts = and_parts _ (is_ordered_after (known ++ layer.0 ∷ []) layers) h in
    let front = and_parts (not (is_among known layer.0)) (list_all (is_among known) (names_in layer.1)) parts.0 in
    record { new = not-true (is_among known layer.0) front.0; over = front.1; rest = parts.1 }

-- a known name is no later base layer's
later_differ : (known : List Name) (layers : List Reached) (name : Name) → is_ordered_after known layers ≡ true → is_among known name ≡ true → is_among (base_names layers) name ≡ false
later_differ known [] name h k = refl
later_differ known ((other, None) ∷ layers) name h k =
    let first = head known (other, None) layers h in
    or_from (bytes_eq other name) (is_among (base_names layers) name) (false_from_ne_true (bytes_eq other name) (λ e. false≢true (sym first.new ∙ ap (is_among known) (same_name other name e) ∙ k))) (later_differ (known ++ other ∷ []) layers name first.rest (is_among-push_old known other name k))
later_differ known ((other, Some e) ∷ layers) name h k =
    let first = head known (other, Some e) layers h in
    later_differ (known ++ other ∷ []) layers name first.rest (is_among-push_old known other name k)

-- the layers have the numbers from a number of base layers and of definitions on
abbrev pub AreNumbered : (Name → Source) → ℕ → ℕ → List Reached → Type 0
AreNumbered at p q [] = Unit {0}
AreNumbered at p q ((name, None) ∷ layers) = (at name ≡ base_bit p) × AreNumbered at (p + 1) q layers
AreNumbered at p q ((name, Some e) ∷ layers) = (at name ≡ definition q) × AreNumbered at p (q + 1) layers

are_numbered : (bases definitions known : List Name) (layers : List Reached) → ((n : Name) → is_among known n ≡ false → (is_among bases n ≡ false) × (is_among definitions n ≡ false)) → is_ordered_after known layers ≡ true → AreNumbered (source_of (bases ++ base_names layers) (definitions ++ definition_names layers)) (length bases) (length definitions) layers
are_numbered bases definitions known [] apart h = tt
are_numbered bases definitions known ((name, None) ∷ layers) apart h =
    let first = head known (name, None) layers h in
    let more : (n : Name) → is_among (known ++ name ∷ []) n ≡ false → (is_among (bases ++ name ∷ []) n ≡ false) × (is_among definitions n ≡ false) =
    λ n e. let parts = not_among-push known name n e in (is_among-push bases name n ∙ or_from _ _ (apart n parts.0).0 parts.1, (apart n parts.0).1) in
    let others = are_numbered (bases ++ name ∷ []) definitions (known ++ name ∷ []) layers more first.rest in
    let here : first_of name (definitions ++ definition_names layers) (bases ++ name ∷ base_names layers) 0 ≡ base_bit (length bases) =
    first_of-miss name (definitions ++ definition_names layers) bases (name ∷ base_names layers) 0 (apart name first.new).0
    ∙ ap (λ b. cond b (base_bit (0 + length bases)) (first_of name (definitions ++ definition_names layers) (base_names layers) (0 + length bases + 1))) (name_itself name)
    ∙ ap base_bit (omega arith) in
    (here, rw (append_assoc bases (name ∷ []) (base_names layers), length-append bases (name ∷ [])) at others)
are_numbered bases definitions known ((name, Some e) ∷ layers) apart h =
    let first = head known (name, Some e) layers h in
    let more : (n : Name) → is_among (known ++ name ∷ []) n ≡ false → (is_among bases n ≡ false) × (is_among (definitions ++ name ∷ []) n ≡ false) =
    λ n e. let parts = not_among-push known name n e in ((apart n parts.0).0, is_among-push definitions name n ∙ or_from _ _ (apart n parts.0).1 parts.1) in
    let others = are_numbered bases (definitions ++ name ∷ []) (known ++ name ∷ []) layers more first.rest in
    let absent : is_among (bases ++ base_names layers) name ≡ false =
    list_any-append (λ n. bytes_eq n name) bases (base_names layers) ∙ or_from _ _ (apart name first.new).0 (later_differ (known ++ name ∷ []) layers name first.rest (is_among-push_new known name)) in
    let here : first_of name (definitions ++ name ∷ definition_names layers) (bases ++ base_names layers) 0 ≡ definition (length definitions) =
    first_of-absent name (definitions ++ name ∷ definition_names layers) (bases ++ base_names layers) 0 absent
    ∙ among-miss name definitions (name ∷ definition_names layers) 0 (apart name first.new).1
    ∙ ap (λ b. cond b (definition (0 + length definitions)) (among name (definition_names layers) (0 + length definitions + 1))) (name_itself name)
    ∙ ap definition (omega arith) in
    (here, rw (append_assoc definitions (name ∷ []) (definition_names layers), length-append definitions (name ∷ [])) at others)

-- the layers of an ordered list have the numbers of `source_among`
pub source_among-numbers : (layers : List Reached) → is_ordered_after [] layers ≡ true → AreNumbered (source_among layers) 0 0 layers
source_among-numbers layers h = are_numbered [] [] [] layers (λ n e. (refl, refl)) h

stands_before-more : (p q r s : ℕ) (source : Source) → p ≤ r → q ≤ s → stands_before p q source ≡ true → stands_before r s source ≡ true
stands_before-more p q r s (base_bit k) few less h = lt-ltb k r (omega (arith, ltb-true k p h))
stands_before-more p q r s (definition k) few less h = lt-ltb k s (omega (arith, ltb-true k q h))

-- where each known name has a number from before, so has each leaf over known names
leaves-relabel : (at : Name → Source) (known : List Name) (p q : ℕ) → ((n : Name) → is_among known n ≡ true → stands_before p q (at n) ≡ true) → (t : Tree Name) → list_all (is_among known) (leaves t) ≡ true → list_all (stands_before p q) (leaves (relabel at t)) ≡ true
leaves-relabel at known p q below (leaf name) h = and_from _ true (below name (and_parts (is_among known name) true h).0) refl
leaves-relabel at known p q below (combine o l r) h =
    let parts = and_parts _ _ (sym (list_all-append (is_among known) (leaves l) (leaves r)) ∙ h) in
    list_all-append (stands_before p q) (leaves (relabel at l)) (leaves (relabel at r)) ∙ and_from _ _ (leaves-relabel at known p q below l parts.0) (leaves-relabel at known p q below r parts.1)

pub below-push : (at : Name → Source) (known : List Name) (name : Name) (p q r s : ℕ) → p ≤ r → q ≤ s → ((n : Name) → is_among known n ≡ true → stands_before p q (at n) ≡ true) → stands_before r s (at name) ≡ true → (n : Name) → is_among (known ++ name ∷ []) n ≡ true → stands_before r s (at n) ≡ true
below-push at known name p q r s few less below here n h =
    elim (or_cases (is_among known n) (bytes_eq name n) (sym (is_among-push known name n) ∙ h)) [
      | inl old ↦ stands_before-more p q r s (at n) few less (below n old)
      | inr new ↦ subst (λ m. stands_before r s (at m) ≡ true) (same_name name n new) here
    ]

earlier_after : (at : Name → Source) (known : List Name) (p q bases : ℕ) (layers : List Reached) → ((n : Name) → is_among known n ≡ true → stands_before p q (at n) ≡ true) → AreNumbered at p q layers → is_ordered_after known layers ≡ true → p + length (base_names layers) ≡ bases → names_earlier bases q (map (λ d. relabel at d.1) (definitions_of layers)) ≡ true
earlier_after at known p q bases [] below numbers h total = refl
earlier_after at known p q bases ((name, None) ∷ layers) below numbers h total =
    let first = head known (name, None) layers h in
    let here : stands_before (p + 1) q (at name) ≡ true = ap (stands_before (p + 1) q) numbers.0 ∙ lt-ltb p (p + 1) (omega arith) in
    earlier_after at (known ++ name ∷ []) (p + 1) q bases layers (below-push at known name p q (p + 1) q (omega arith) (omega arith) below here) numbers.1 first.rest (omega (arith, total))
earlier_after at known p q bases ((name, Some e) ∷ layers) below numbers h total =
    let first = head known (name, Some e) layers h in
    let here : stands_before p (q + 1) (at name) ≡ true = ap (stands_before p (q + 1)) numbers.0 ∙ lt-ltb q (q + 1) (omega arith) in
    let wide : (n : Name) → is_among known n ≡ true → stands_before bases q (at n) ≡ true = λ n k. stands_before-more p q bases q (at n) (omega (arith, total)) (omega arith) (below n k) in
    and_from _ _ (leaves-relabel at known bases q wide e first.over) (earlier_after at (known ++ name ∷ []) p (q + 1) bases layers (below-push at known name p q p (q + 1) (omega arith) (omega arith) below here) numbers.1 first.rest total)

-- in ordered layers each definition names base layers and earlier definitions alone
pub names_earlier-numbered : (layers : List Reached) → is_ordered_after [] layers ≡ true → names_earlier (length (base_names layers)) 0 (map (λ d. relabel (source_among layers) d.1) (definitions_of layers)) ≡ true
names_earlier-numbered layers h =
    earlier_after (source_among layers) [] 0 0 _ layers (λ n e. absurd (false≢true e)) (source_among-numbers layers h) h (omega arith)
