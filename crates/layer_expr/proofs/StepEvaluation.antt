-- The value of steps is Boolean evaluation of the layers in order.
use Rattle.std.proofs.Common.{◌≡◌, ℕ, suc, inl, inr, ◌+◌, ◌==◌, Bool, true, false, ◌||◌, cond, List, [], ◌∷◌, ◌++◌, length, fold, refl, sym, ap, subst, ◌∙◌, arith, bytes_eq, Some, None, is_some, map, length-append}
use Rattle.std.specs.List.{list_all}
use Rattle.std.proofs.lemmas.Bool.{or_parts, or_cases, and_parts, false≢true, ltb-true, lt-ltb, eqb-true}
use Rattle.std.proofs.lemmas.List.{map-append, get_or_append_left}
use Rattle.std.proofs.Math.Seq.{get_or-append_seam}
use Rattle.std.proofs.lemmas.List.Folds.{list_all-append}
use Rattle.std.proofs.lemmas.Option.{unwrap_or-slice_get}
use Rattle.overlay_terms.specs.Trees.{Tree, leaf, combine, combined, truth, leaves, relabel, Source, base_bit, definition, source_value, last_or, steps_value}
use Rattle.overlay_terms.specs.Layers.{Name, named}
use Rattle.overlay_terms.specs.Orderly.{is_among}
use Rattle.overlay_terms.proofs.NameLemmas.{same_name, name_itself, is_among-push}
use Rattle.layer_expr.specs.StepList.{Reached, definitions_of, source_among, is_ordered_after, values_after, evaluated, numbered_steps, stands_before, IsOrdered, ReachesAll}
use Rattle.layer_expr.proofs.StepLemmas.{last_or-push}
use Rattle.layer_expr.proofs.StepOrder.{head, AreNumbered, source_among-numbers, below-push}

abbrev names_of : List (Name × Bool) → List Name
names_of known = map (λ entry. entry.0) known

named-old : (known : List (Name × Bool)) (entry : Name × Bool) (name : Name) → is_among (names_of known) name ≡ true → named false (known ++ entry ∷ []) name ≡ named false known name
named-old [] entry name = λ h. absurd (false≢true h)
named-old (first ∷ known) entry name =
    elim (bytes_eq first.0 name) as (λ b. (b || is_among (names_of known) name) ≡ true → cond b first.1 (named false (known ++ entry ∷ []) name) ≡ cond b first.1 (named false known name)) [
      | true ↦ λ h. refl
      | false ↦ λ h. named-old known entry name h
    ]

named-new : (known : List (Name × Bool)) (name : Name) (value : Bool) → is_among (names_of known) name ≡ false → named false (known ++ (name, value) ∷ []) name ≡ value
named-new [] name value h = ap (λ b. cond b value false) (name_itself name)
named-new (first ∷ known) name value h =
    let apart = or_parts (bytes_eq first.0 name) (is_among (names_of known) name) h in
    ap (λ b. cond b first.1 (named false (known ++ (name, value) ∷ []) name)) apart.0 ∙ named-new known name value apart.1

-- one more definition changes no leaf before it
source_value-push : (bits : ℕ → Bool) (known : List Bool) (value : Bool) (p : ℕ) (source : Source) → stands_before p (length known) source ≡ true
    → source_value bits (known ++ value ∷ []) source ≡ source_value bits known source
source_value-push bits known value p (base_bit k) h = refl
source_value-push bits known value p (definition k) h =
    unwrap_or-slice_get (known ++ value ∷ []) k false
    ∙ get_or_append_left known (value ∷ []) false k (ltb-true k (length known) h)
    ∙ sym (unwrap_or-slice_get known k false)

source_value-last : (bits : ℕ → Bool) (known : List Bool) (value : Bool) → source_value bits (known ++ value ∷ []) (definition (length known)) ≡ value
source_value-last bits known value =
    unwrap_or-slice_get (known ++ value ∷ []) (length known) false ∙ get_or-append_seam known value [] false

-- an expression over known names, and the same over their numbers
truth-relabel : (names : List Name) (f : Name → Bool) (at : Name → Source) (g : Source → Bool)
    → ((n : Name) → is_among names n ≡ true → f n ≡ g (at n)) → (t : Tree Name) → list_all (is_among names) (leaves t) ≡ true
    → truth f t ≡ truth g (relabel at t)
truth-relabel names f at g agree (leaf name) h = agree name (and_parts (is_among names name) true h).0
truth-relabel names f at g agree (combine o l r) h =
    let parts = and_parts _ _ (sym (list_all-append (is_among names) (leaves l) (leaves r)) ∙ h) in
    ap (λ x. combined o x (truth f r)) (truth-relabel names f at g agree l parts.0)
    ∙ ap (combined o (truth g (relabel at l))) (truth-relabel names f at g agree r parts.1)

-- what is known by name is known by number
record Agree (at : Name → Source) (bits : ℕ → Bool) (known : List (Name × Bool)) (found : List Bool) (p : ℕ) : Type 0 where
  value : (n : Name) → is_among (names_of known) n ≡ true → named false known n ≡ source_value bits found (at n)
  below : (n : Name) → is_among (names_of known) n ≡ true → stands_before p (length found) (at n) ≡ true

module _ (at : Name → Source) (bits : ℕ → Bool) where
  agree-base : (known : List (Name × Bool)) (found : List Bool) (p : ℕ) (name : Name) → is_among (names_of known) name ≡ false → at name ≡ base_bit p
      → Agree at bits known found p → Agree at bits (known ++ (name, bits p) ∷ []) found (p + 1)
  agree-base known found p name new here agree =
      let names : names_of (known ++ (name, bits p) ∷ []) ≡ names_of known ++ name ∷ [] = map-append (λ entry. entry.0) known ((name, bits p) ∷ []) in
      record {
        value = λ n h.
            elim (or_cases (is_among (names_of known) n) (bytes_eq name n) (sym (is_among-push (names_of known) name n) ∙ ap (λ ns. is_among ns n) (sym names) ∙ h)) [
              | inl old ↦ named-old known (name, bits p) n old ∙ agree.value n old
              | inr found_now ↦ subst (λ m. named false (known ++ (name, bits p) ∷ []) m ≡ source_value bits found (at m))
                  (same_name name n found_now) (named-new known name (bits p) new ∙ sym (ap (source_value bits found) here))
            ];
        below = λ n h. below-push at (names_of known) name p (length found) (p + 1) (length found) (omega arith) (omega arith) agree.below
            (ap (stands_before (p + 1) (length found)) here ∙ lt-ltb p (p + 1) (omega arith)) n (ap (λ ns. is_among ns n) (sym names) ∙ h);
      }

  agree-definition : (known : List (Name × Bool)) (found : List Bool) (p : ℕ) (name : Name) (v : Bool) → is_among (names_of known) name ≡ false
      → at name ≡ definition (length found) → Agree at bits known found p → Agree at bits (known ++ (name, v) ∷ []) (found ++ v ∷ []) p
  agree-definition known found p name v new here agree =
      let names : names_of (known ++ (name, v) ∷ []) ≡ names_of known ++ name ∷ [] = map-append (λ entry. entry.0) known ((name, v) ∷ []) in
      let longer : length (found ++ v ∷ []) ≡ length found + 1 = length-append found (v ∷ []) in
      record {
        value = λ n h.
            elim (or_cases (is_among (names_of known) n) (bytes_eq name n) (sym (is_among-push (names_of known) name n) ∙ ap (λ ns. is_among ns n) (sym names) ∙ h)) [
              | inl old ↦ named-old known (name, v) n old ∙ agree.value n old ∙ sym (source_value-push bits found v p (at n) (agree.below n old))
              | inr found_now ↦ subst (λ m. named false (known ++ (name, v) ∷ []) m ≡ source_value bits (found ++ v ∷ []) (at m))
                  (same_name name n found_now) (named-new known name v new ∙ sym
                  (ap (source_value bits (found ++ v ∷ [])) here ∙ source_value-last bits found v))
            ];
        below = λ n h. below-push at (names_of known) name p (length found) p (length (found ++ v ∷ [])) (omega arith)
            (omega (arith, longer)) agree.below (ap (stands_before p (length (found ++ v ∷ []))) here ∙ lt-ltb (length found)
            (length (found ++ v ∷ [])) (omega (arith, longer))) n (ap (λ ns. is_among ns n) (sym names) ∙ h);
      }

  -- the layers from some place on, where f says whether the last so far is derived
  evaluated_after : (known : List (Name × Bool)) (found : List Bool) (p : ℕ) (layers : List Reached) → Agree at bits known found p
      → AreNumbered at p (length found) layers → is_ordered_after (names_of known) layers ≡ true → (f a b : Bool)
      → (f ≡ true → last_or a (map (λ entry. entry.1) known) ≡ last_or b found) → last_or f (map (λ layer. is_some layer.1) layers) ≡ true
      → last_or a (map (λ entry. entry.1) (values_after p known bits layers)) ≡ last_or b
      (fold (λ ks t. ks ++ truth (source_value bits ks) t ∷ []) found (map (λ d. relabel at d.1) (definitions_of layers)))
  evaluated_after known found p [] agree numbers h f a b same_last derived = same_last derived
  evaluated_after known found p ((name, None) ∷ layers) agree numbers h f a b same_last derived =
      let first = head (names_of known) (name, None) layers h in
      let names : names_of (known ++ (name, bits p) ∷ []) ≡ names_of known ++ name ∷ [] = map-append (λ entry. entry.0) known ((name, bits p) ∷ []) in
      evaluated_after (known ++ (name, bits p) ∷ []) found (p + 1) layers (agree-base known found p name first.new numbers.0 agree) numbers.1
      (ap (λ ns. is_ordered_after ns layers) names ∙ first.rest) false a b (λ e. absurd (false≢true e)) derived
  evaluated_after known found p ((name, Some e) ∷ layers) agree numbers h f a b same_last derived =
      let first = head (names_of known) (name, Some e) layers h in
      let v = truth (named false known) e in
      let names : names_of (known ++ (name, v) ∷ []) ≡ names_of known ++ name ∷ [] = map-append (λ entry. entry.0) known ((name, v) ∷ []) in
      let longer : length (found ++ v ∷ []) ≡ length found + 1 = length-append found (v ∷ []) in
      let both : v ≡ truth (source_value bits found) (relabel at e) = truth-relabel (names_of known) (named false known) at (source_value bits found) agree.value e first.over in
      let last : last_or a (map (λ entry. entry.1) (known ++ (name, v) ∷ [])) ≡ last_or b (found ++ v ∷ []) =
      ap (last_or a) (map-append (λ entry. entry.1) known ((name, v) ∷ [])) ∙ last_or-push a (map (λ entry. entry.1) known) v ∙ sym (last_or-push b found v) in
      evaluated_after (known ++ (name, v) ∷ []) (found ++ v ∷ []) p layers (agree-definition known found p name v first.new numbers.0 agree)
      (subst (λ q. AreNumbered at p q layers) (sym longer) numbers.1) (ap (λ ns. is_ordered_after ns layers) names ∙ first.rest) true a b
      (λ e. last) derived
      ∙ ap (λ w. last_or b (fold (λ ks t. ks ++ truth (source_value bits ks) t ∷ []) (found ++ w ∷ []) (map (λ d. relabel at d.1) (definitions_of layers)))) both

derived_last : (layers : List Reached) (bits : ℕ → Bool) → IsOrdered layers → last_or false (map (λ layer. is_some layer.1) layers) ≡ true
    → steps_value (numbered_steps layers) bits ≡ evaluated layers bits
derived_last layers bits h derived =
    sym (evaluated_after (source_among layers) bits [] [] 0 layers (record {
      value = λ n e. absurd (false≢true e);
      below = λ n e. absurd (false≢true e);
    }) (source_among-numbers layers h) h false false _ (λ e. absurd (false≢true e)) derived)

base_alone : (layers : List Reached) (bits : ℕ → Bool) → last_or false (map (λ layer. is_some layer.1) layers) ≡ false → (length layers == 1) ≡ true
    → steps_value (numbered_steps layers) bits ≡ evaluated layers bits
base_alone [] bits h one = absurd (false≢true one)
base_alone ((name, None) ∷ []) bits h one = refl
base_alone ((name, Some e) ∷ []) bits h one = absurd (false≢true (sym h))
base_alone (first ∷ second ∷ layers) bits h one =
    let two : suc (suc (length layers)) ≡ 1 = eqb-true (suc (suc (length layers))) 1 one in absurd (omega arith)

-- the value of the steps is that of the last layer
pub steps_value-numbered : (layers : List Reached) (bits : ℕ → Bool) → IsOrdered layers → ReachesAll layers → steps_value (numbered_steps layers) bits ≡ evaluated layers bits
steps_value-numbered layers bits h reaches =
    by_last (last_or false (map (λ layer. is_some layer.1) layers)) refl where
      by_last : (d : Bool) → last_or false (map (λ layer. is_some layer.1) layers) ≡ d → steps_value (numbered_steps layers) bits ≡ evaluated layers bits
      by_last true e = derived_last layers bits h e
      by_last false e = base_alone layers bits e (ap (λ d. d || length layers == 1) (sym e) ∙ reaches)
