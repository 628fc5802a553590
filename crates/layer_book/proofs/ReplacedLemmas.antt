-- Rings put in the place of others: what changes of the inputs of the layers over them.
use Rattle.std.proofs.Common.{◌≡◌, ℕ, ◌+◌, Bool, true, false, not, cond, ◌&&◌, ◌||◌, List, [], ◌∷◌, ◌++◌, length, map, filter, fold, Some, refl, ap, sym, ◌∙◌, subst, bytes_eq, if◌then◌else◌}
use Rattle.std.specs.List.{list_any, filter_map, AllByRecursion}
use Rattle.std.specs.Cmp.Lexicographic.{pointwise, pointwise_decides}
use Rattle.std.proofs.lemmas.Bool.{both_ways, or_parts}
use Rattle.std.proofs.lemmas.Bool.Decides.{Decides-eqb}
use Rattle.std.proofs.lemmas.List.{length-map}
use Rattle.overlay_terms.specs.Plane.{WholePoint, Segment, segments_of}
use Rattle.overlay_terms.specs.Column.{touches, columns}
use Rattle.overlay_terms.specs.Trees.{Tree, Steps, relabel}
use Rattle.overlay_terms.specs.Layers.{Name, Content, base, derived, Layer, base_of, derived_of, named, content_reach, reaches, layers_in_reach, steps_in_reach, source_of}
use Rattle.overlay_terms.specs.Tiles.{input_of}
use Rattle.overlay_terms.specs.SameInput.{same_segment, same_segment-Decides, same_marked, same_steps, same_steps-Decides, same_input}
use Rattle.overlay_terms.specs.Orderly.{IsOrderly, is_orderly_after}
use Rattle.overlay_terms.specs.Commands.{put, applied, is_derived, stands, stands_as_derived}
use Rattle.overlay_terms.specs.Touched.{derived_over, is_touched}
use Rattle.overlay_terms.proofs.OrderlyLemmas.{replaced_by}
use Rattle.overlay_terms.proofs.KeptDerived.{still_replaced}
use Rattle.layer_book.specs.Layer.{content_named}
use Rattle.layer_book.specs.Touching.{AreOfAllOver}
use Rattle.layer_book.proofs.Names.{same_name}
use Rattle.layer_book.proofs.Order.{head_of, apart}
use Rattle.layer_book.proofs.MarkedLayers.{rings_of}
use Rattle.layer_book.proofs.OverNames.{over_derived, over_reaches}
use Rattle.layer_book.proofs.SameMarks.{marked_from, first_compared}
use Rattle.layer_book.proofs.TouchedLemmas.{same_all, both_derived}

-- how the names that layers reach grow by one layer
abbrev grown : List (Name × List Name) → Layer → List (Name × List Name)
grown known layer = known ++ (layer.name, content_reach layer.name known layer.content) ∷ []

-- the steps of layers in reach, from the names of the base layers and the definitions
abbrev steps_by : List Name → List (Name × Tree Name) → Steps
steps_by bases definitions = record { bases = length bases; definitions = map (λ d. relabel (source_of bases (map (λ e. e.0) definitions)) d.1) definitions }

abbrev base_names : List Layer → List Name
base_names layers = map (λ b. b.0) (filter_map base_of layers)

steps_are : (layers : List Layer) (name : Name) → steps_in_reach layers name ≡ steps_by (base_names (layers_in_reach layers name)) (filter_map derived_of (layers_in_reach layers name))
steps_are layers name =
    let bases = filter_map base_of (layers_in_reach layers name) in
    let definitions = filter_map derived_of (layers_in_reach layers name) in
    λ i. record { bases = sym (length-map bases (λ (b : Name × List (List WholePoint)). b.0)) i; definitions = map (λ d. relabel (source_of (map (λ b. b.0) bases) (map (λ e. e.0) definitions)) d.1) definitions }

module _ (name : Name) (old new : List (List WholePoint)) where
  -- where a layer has the name, the old rings are under it
  abbrev pub HasOld : Layer → Type 0
  HasOld layer = bytes_eq layer.name name ≡ true → layer.content ≡ base old

  abbrev pub AreOld : List Layer → Type 0
  AreOld layers = AllByRecursion HasOld layers

  -- the layer with the new rings, by whether it has the name
  abbrev put_in : Bool → Layer → Layer
  put_in b layer = cond b (record { name = name; content = base new }) layer

  abbrev all_put : List Layer → List Layer
  all_put layers = map (replaced_by name (base new)) layers

  same_own : (b : Bool) (layer : Layer) → bytes_eq layer.name name ≡ b → (put_in b layer).name ≡ layer.name
  same_own true layer e = sym (same_name layer.name name e)
  same_own false layer e = refl

  -- it reaches what the layer did
  same_reach : (b : Bool) (known : List (Name × List Name)) (layer : Layer) → bytes_eq layer.name name ≡ b → HasOld layer → grown known (put_in b layer) ≡ grown known layer
  same_reach true known layer e is =
      (λ i. known ++ (sym (same_name layer.name name e) i, sym (same_name layer.name name e) i ∷ []) ∷ [])
      ∙ sym (ap (λ c. known ++ (layer.name, content_reach layer.name known c) ∷ []) (is e))
  same_reach false known layer e is = refl

  same_reaches : (layers : List Layer) (known : List (Name × List Name)) → AreOld layers → fold grown known (all_put layers) ≡ fold grown known layers
  same_reaches [] known h = refl
  same_reaches (layer ∷ layers) known h =
      ap (λ k. fold grown k (all_put layers)) (same_reach (bytes_eq layer.name name) known layer refl h.0) ∙ same_reaches layers (grown known layer) h.1

  -- names are tested as before
  same_passing : (test : Name → Bool) (layers : List Layer) → filter (λ (l : Layer). test l.name) (all_put layers) ≡ all_put (filter (λ (l : Layer). test l.name) layers)
  same_passing test [] = refl
  same_passing test (layer ∷ layers) =
      split (test layer.name) (test (replaced_by name (base new) layer).name) (ap test (same_own (bytes_eq layer.name name) layer refl)) (same_passing test layers)
    where
      split : (t u : Bool) → u ≡ t → filter (λ (l : Layer). test l.name) (all_put layers) ≡ all_put (filter (λ (l : Layer). test l.name) layers)
          → cond u (replaced_by name (base new) layer ∷ filter (λ (l : Layer). test l.name) (all_put layers)) (filter (λ (l : Layer). test l.name) (all_put layers)) ≡ all_put (cond t (layer ∷ filter (λ (l : Layer). test l.name) layers) (filter (λ (l : Layer). test l.name) layers))
      split true u e next = (λ i. cond (e i) (replaced_by name (base new) layer ∷ next i) (next i))
      split false u e next = (λ i. cond (e i) (replaced_by name (base new) layer ∷ next i) (next i))

  old_passing : (test : Name → Bool) (layers : List Layer) → AreOld layers → AreOld (filter (λ (l : Layer). test l.name) layers)
  old_passing test [] h = tt
  old_passing test (layer ∷ layers) h = split (test layer.name) (old_passing test layers h.1) where
    split : (t : Bool) → AreOld (filter (λ (l : Layer). test l.name) layers) → AreOld (cond t (layer ∷ filter (λ (l : Layer). test l.name) layers) (filter (λ (l : Layer). test l.name) layers))
    split true next = (h.0, next)
    split false next = next

  -- the layers in reach are the same, with the new rings among them
  same_in_reach : (layers : List Layer) (own : Name) → AreOld layers → layers_in_reach (all_put layers) own ≡ all_put (layers_in_reach layers own)
  same_in_reach layers own h =
      ap (λ t. filter (λ (l : Layer). list_any (bytes_eq l.name) (named [] t own)) (all_put layers)) (same_reaches layers [] h)
      ∙ same_passing (λ n. list_any (bytes_eq n) (named [] (reaches layers) own)) layers

  old_in_reach : (layers : List Layer) (own : Name) → AreOld layers → AreOld (layers_in_reach layers own)
  old_in_reach layers own h = old_passing (λ n. list_any (bytes_eq n) (named [] (reaches layers) own)) layers h

  -- what a layer alone has of bases and of definitions
  same_definitions : (layers : List Layer) → AreOld layers → filter_map derived_of (all_put layers) ≡ filter_map derived_of layers
  same_definitions [] h = refl
  same_definitions (layer ∷ layers) h = split (bytes_eq layer.name name) refl layer.content refl (same_definitions layers h.1) where
    split : (b : Bool) → bytes_eq layer.name name ≡ b → (c : Content) → layer.content ≡ c → filter_map derived_of (all_put layers) ≡ filter_map derived_of layers
        → filter_map derived_of (put_in b (record { name = layer.name; content = c }) ∷ all_put layers) ≡ filter_map derived_of (record { name = layer.name; content = c } ∷ layers)
    split true e (base rings) is next = next
    split true e (derived tree) is next = absurd (both_ways (is_derived (derived tree)) (ap is_derived (sym is ∙ h.0 e)) refl)
    split false e (base rings) is next = next
    split false e (derived tree) is next = ap (λ ds. (layer.name, tree) ∷ ds) next

  same_base_names : (layers : List Layer) → AreOld layers → base_names (all_put layers) ≡ base_names layers
  same_base_names [] h = refl
  same_base_names (layer ∷ layers) h = split (bytes_eq layer.name name) refl layer.content refl (same_base_names layers h.1) where
    split : (b : Bool) → bytes_eq layer.name name ≡ b → (c : Content) → layer.content ≡ c → base_names (all_put layers) ≡ base_names layers
        → base_names (put_in b (record { name = layer.name; content = c }) ∷ all_put layers) ≡ base_names (record { name = layer.name; content = c } ∷ layers)
    split true e (base rings) is next = λ i. sym (same_name layer.name name e) i ∷ next i
    split true e (derived tree) is next = absurd (both_ways (is_derived (derived tree)) (ap is_derived (sym is ∙ h.0 e)) refl)
    split false e (base rings) is next = ap (λ ns. layer.name ∷ ns) next
    split false e (derived tree) is next = next

  -- the definitions in reach stay
  same_steps_in_reach : (layers : List Layer) (own : Name) → AreOld layers → steps_in_reach (all_put layers) own ≡ steps_in_reach layers own
  same_steps_in_reach layers own h =
      let held = old_in_reach layers own h in
      steps_are (all_put layers) own
      ∙ ap (λ ls. steps_by (base_names ls) (filter_map derived_of ls)) (same_in_reach layers own h)
      ∙ (λ i. steps_by (same_base_names (layers_in_reach layers own) held i) (same_definitions (layers_in_reach layers own) held i))
      ∙ sym (steps_are layers own)

  -- whether the new rings have the same segments in a column as the old ones
  abbrev pub same_there : ℕ → Bool
  same_there k = pointwise same_segment (filter (touches k) (segments_of new)) (filter (touches k) (segments_of old))

  own_segments : (xs : List Segment) → pointwise same_segment xs xs ≡ true
  own_segments xs = (pointwise_decides same_segment-Decides xs xs).1 refl

  -- where the layer is among those in reach, its segments decide
  marks_told : (k n : ℕ) (layers : List Layer) → AreOld layers → pointwise same_marked (marked_from k n (rings_of (all_put layers))) (marked_from k n (rings_of layers)) ≡ (not (stands layers name) || same_there k)
  marks_told k n [] h = refl
  marks_told k n (layer ∷ layers) h = split (bytes_eq layer.name name) refl layer.content refl (λ m. marks_told k m layers h.1) where
    twice : (q s : Bool) → (s && (q || s)) ≡ s
    twice true true = refl
    twice true false = refl
    twice false true = refl
    twice false false = refl

    split : (b : Bool) → bytes_eq layer.name name ≡ b → (c : Content) → layer.content ≡ c → ((m : ℕ) → pointwise same_marked (marked_from k m (rings_of (all_put layers))) (marked_from k m (rings_of layers)) ≡ (not (stands layers name) || same_there k)) →
        pointwise same_marked (marked_from k n (rings_of (put_in b (record { name = layer.name; content = c }) ∷ all_put layers))) (marked_from k n (rings_of (record { name = layer.name; content = c } ∷ layers)))
        ≡ (not (b || stands layers name) || same_there k)
    split true e (base rings) is next =
        ap (λ c. pointwise same_marked (marked_from k n (rings_of (record { name = name; content = base new } ∷ all_put layers))) (marked_from k n (rings_of (record { name = layer.name; content = c } ∷ layers)))) (sym is ∙ h.0 e)
        ∙ first_compared k n new old (rings_of (all_put layers)) (rings_of layers)
        ∙ ap (λ b. same_there k && b) (next (n + 1))
        ∙ twice (not (stands layers name)) (same_there k)
    split true e (derived tree) is next = absurd (both_ways (is_derived (derived tree)) (ap is_derived (sym is ∙ h.0 e)) refl)
    split false e (base rings) is next =
        first_compared k n rings rings (rings_of (all_put layers)) (rings_of layers)
        ∙ ap (λ b. b && pointwise same_marked (marked_from k (n + 1) (rings_of (all_put layers))) (marked_from k (n + 1) (rings_of layers))) (own_segments (filter (touches k) (segments_of rings)))
        ∙ next (n + 1)
    split false e (derived tree) is next = next n

  -- the input of a layer over the name is the same where the segments are
  same_over : (layers : List Layer) (own : Name) (k : ℕ) → AreOld layers → list_any (bytes_eq own) (derived_over layers name) ≡ true → same_there k ≡ same_input (input_of (all_put layers) own k) (input_of layers own k)
  same_over layers own k h over =
      let reachable = layers_in_reach layers own in
      let marks : pointwise same_marked (marked_from k 0 (rings_of (layers_in_reach (all_put layers) own))) (marked_from k 0 (rings_of reachable)) ≡ same_there k =
      ap (λ ls. pointwise same_marked (marked_from k 0 (rings_of ls)) (marked_from k 0 (rings_of reachable))) (same_in_reach layers own h)
      ∙ marks_told k 0 reachable (old_in_reach layers own h)
      ∙ ap (λ b. not b || same_there k) (over_reaches layers own name over) in
      let steps : same_steps (steps_in_reach (all_put layers) own) (steps_in_reach layers own) ≡ true = (same_steps-Decides _ _).1 (same_steps_in_reach layers own h) in
      sym ((λ i. ((Decides-eqb k k).1 refl i && marks i) && steps i) ∙ whole (same_there k))
    where
      whole : (b : Bool) → ((true && b) && true) ≡ b
      whole true = refl
      whole false = refl

  -- no layer has the name
  none_old : (layers : List Layer) → stands layers name ≡ false → AreOld layers
  none_old [] e = tt
  none_old (layer ∷ layers) e =
      let parts = or_parts (bytes_eq layer.name name) (stands layers name) e in
      (λ at. absurd (both_ways (bytes_eq layer.name name) parts.0 at), none_old layers parts.1)

  -- what is under a name is all that is
  pub old_rings : (known : List Name) (layers : List Layer) → is_orderly_after known layers ≡ true → content_named layers name ≡ Some (base old) → AreOld layers
  old_rings known [] orderly e = tt
  old_rings known (layer ∷ layers) orderly e =
      split (bytes_eq layer.name name) refl e (old_rings (known ++ layer.name ∷ []) layers (head_of known layer layers orderly).behind)
    where
      split : (b : Bool) → bytes_eq layer.name name ≡ b → cond b (Some layer.content) (content_named layers name) ≡ Some (base old) → (content_named layers name ≡ Some (base old) → AreOld layers) → AreOld (layer ∷ layers)
      split true at found next =
          let gone : stands layers name ≡ false = subst (λ n. stands layers n ≡ false) (same_name layer.name name at) (apart known layer layers orderly) in
          (λ e. cc, none_old layers gone)
      split false at found next = (λ e. absurd (both_ways (bytes_eq layer.name name) at e), next found)

  named_stands : (layers : List Layer) (c : Content) → content_named layers name ≡ Some c → stands layers name ≡ true
  named_stands [] c e = absurd (cc)
  named_stands (layer ∷ layers) c e = split (bytes_eq layer.name name) e (named_stands layers c) where
    split : (b : Bool) → cond b (Some layer.content) (content_named layers name) ≡ Some c → (content_named layers name ≡ Some c → stands layers name ≡ true) → (b || stands layers name) ≡ true
    split true e next = refl
    split false e next = next e

  -- no derived layer has the name
  not_itself : (layers : List Layer) (own : Name) → AreOld layers → stands_as_derived layers own ≡ true → bytes_eq name own ≡ true → ⊥
  not_itself [] own h d e = both_ways false refl d
  not_itself (layer ∷ layers) own h d e = split (bytes_eq layer.name own) refl layer.content refl d (not_itself layers own h.1) where
    split : (b : Bool) → bytes_eq layer.name own ≡ b → (c : Content) → layer.content ≡ c → ((b && is_derived c) || stands_as_derived layers own) ≡ true → (stands_as_derived layers own ≡ true → bytes_eq name own ≡ true → ⊥) → ⊥
    split true at (base rings) is d next = next d e
    split true at (derived tree) is d next =
        both_ways (is_derived (derived tree)) (ap is_derived (sym is ∙ h.0 (subst (λ n. bytes_eq layer.name n ≡ true) (sym (same_name name own e)) at))) refl
    split false at c is d next = next d e

  -- rings in the place of others change the tiles of all layers over them in the same columns
  pub put_touches : (layers : List Layer) → IsOrderly layers → Some (base old) ≡ content_named layers name → AreOfAllOver layers (put name new) (map (λ k. not (same_there k)) columns)
  put_touches layers orderly found own over =
      let h = old_rings [] layers orderly (sym found) in
      let before = over_derived layers own name over in
      let after : applied layers (put name new) ≡ all_put layers = ap (λ b. if b then all_put layers else layers ++ record { name = name; content = base new } ∷ []) (named_stands layers (base old) (sym found)) in
      let still : stands_as_derived (applied layers (put name new)) own ≡ true =
      ap (λ ls. stands_as_derived ls own) after ∙ still_replaced layers name (base new) own (λ e. absurd (not_itself layers own h before e)) before in
      same_all (λ k. not (same_there k)) (is_touched layers (put name new) own)
      (λ k. ap not (same_over layers own k h over ∙ ap (λ ls. same_input (input_of ls own k) (input_of layers own k)) (sym after))
      ∙ both_derived (stands_as_derived layers own) (stands_as_derived (applied layers (put name new)) own) (same_input (input_of (applied layers (put name new)) own k) (input_of layers own k)) before still)
      columns
