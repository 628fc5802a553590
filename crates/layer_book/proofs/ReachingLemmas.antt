-- One pass from the first layer to the last finds which layers reach a name.
use Rattle.std.proofs.Common.{◌≡◌, ℕ, zero, suc, ◌+◌, ◌<◌, Bool, true, false, ◌||◌, ◌&&◌, List, [], ◌∷◌, ◌++◌, length, take, fold, replicate, slice_get, Some, set, refl, ap, sym, ◌∙◌, subst, arith, add-one, bytes_eq}
use Rattle.std.specs.List.{list_any}
use Rattle.std.proofs.lemmas.Bool.{both_ways, false_from_ne_true}
use Rattle.std.proofs.lemmas.List.{take_more_set}
use Rattle.std.proofs.lemmas.Grind.{common_steps}
use Rattle.std.proofs.lemmas.List.Sums.{fold_push}
use Rattle.overlay_terms.specs.Trees.{Tree, leaves}
use Rattle.overlay_terms.specs.Layers.{Name, Content, base, derived, Layer, named, content_reach, reaches}
use Rattle.overlay_terms.specs.Orderly.{used_names, is_orderly_after}
use Rattle.overlay_terms.specs.Commands.{stands, is_derived, stands_as_derived}
use Rattle.overlay_terms.specs.Touched.{reaches_name, derived_over}
use Rattle.overlay_terms.proofs.ReachLemmas.{any-flat_map}
use Rattle.overlay_terms.proofs.NameLemmas.{or_false}
use Rattle.layer_book.specs.Question.{labelled, at_index}
use Rattle.layer_book.specs.Reaching.{layer_reaches}
use Rattle.layer_book.proofs.Names.{same_name, own_name, turned}
use Rattle.layer_book.proofs.Order.{head_of, apart}
use Rattle.layer_book.proofs.Lookups.{none_passes}
use Rattle.layer_book.proofs.Answering.{layer_there, take_there, labelled_more, labelled_whole}
use Rattle.layer_book.proofs.Wanted.{named_at, stands_at, index_at}
use Rattle.layer_book.proofs.Edges.{any-filter, any-and, Reach, reach_push}
use Rattle.layer_book.proofs.OverNames.{named_among}
use Rattle.layer_book.proofs.BoolLemmas.{and_true, and_false}
use lib.Seq.{take-length}

-- whether each layer reaches the name, in order
abbrev pub reaching : Name → List Layer → List (Name × Bool)
reaching under layers = fold (λ known layer. known ++ (layer.name, layer_reaches under known layer) ∷ []) [] layers

-- one layer more in the pass
pub reaching_more : (under : Name) (layers : List Layer) (marks : List Bool) (i : ℕ) (v : Bool) → i < length layers → i < length marks
    → reaching under (take i layers) ≡ labelled layers (take i marks)
    → ((layer : Layer) → slice_get layers i ≡ Some layer → v ≡ layer_reaches under (labelled layers (take i marks)) layer)
    → reaching under (take (i + 1) layers) ≡ labelled layers (take (i + 1) (set marks i v))
reaching_more under layers marks i v h room so_far is =
    let there = layer_there layers i h in
    let layer : Layer = there.0 in
    let n : length (take i marks) ≡ i = grind (arith, common_steps) in
    ap (λ k. reaching under (take k layers)) (add-one i)
    ∙ ap (reaching under) (take_there layers i layer there.1)
    ∙ fold_push (λ known (layer : Layer). known ++ (layer.name, layer_reaches under known layer) ∷ []) [] (take i layers) layer
    ∙ ap (λ known. known ++ (layer.name, layer_reaches under known layer) ∷ []) so_far
    ∙ ap (λ b. labelled layers (take i marks) ++ (layer.name, b) ∷ []) (sym (is layer there.1))
    ∙ sym (labelled_more layers (take i marks) i layer v n there.1)
    ∙ ap (labelled layers) (sym (take_more_set marks i v room))

-- what the expression of a layer with another name says
pub expression_tells : (under own : Name) (known : List (Name × Bool)) (expression : Tree Name) (layers : List Layer) (i : ℕ) (v : Bool)
    → Some (record { name = own; content = derived expression }) ≡ slice_get layers i → bytes_eq own under ≡ false → v ≡ list_any (named false known) (leaves expression)
    → (layer : Layer) → slice_get layers i ≡ Some layer → v ≡ layer_reaches under known layer
expression_tells under own known expression layers i v there other is layer e =
    let own_layer : Layer = record { name = own; content = derived expression } in
    let same : own_layer ≡ layer = cc in
    is ∙ ap (λ b. b || list_any (named false known) (leaves expression)) (sym other) ∙ ap (layer_reaches under known) same

module _ (under : Name) where
  abbrev is_under : Name → Bool
  is_under n = bytes_eq n under

  -- a layer says whether the name is among those that it reaches
  layer_step : (known : List (Name × Bool)) (reached : List (Name × List Name)) (name : Name) (content : Content) → Reach is_under known reached
      → (bytes_eq name under || list_any (named false known) (used_names content)) ≡ list_any is_under (content_reach name reached content)
  layer_step known reached name (base rings) h = refl
  layer_step known reached name (derived expression) h =
      ap (λ b. bytes_eq name under || b)
      ((λ j. list_any (λ u. h false [] u refl j) (leaves expression)) ∙ sym (any-flat_map is_under (named [] reached) (leaves expression)))

  layers_step : (layers : List Layer) (known : List (Name × Bool)) (reached : List (Name × List Name)) → Reach is_under known reached
      → Reach is_under (fold (λ known layer. known ++ (layer.name, layer_reaches under known layer) ∷ []) known layers)
      (fold (λ known layer. known ++ (layer.name, content_reach layer.name known layer.content) ∷ []) reached layers)
  layers_step [] known reached h = h
  layers_step (layer ∷ layers) known reached h =
      layers_step layers _ _ (reach_push is_under known reached layer.name _ _ h (layer_step known reached layer.name layer.content h))

  pass_tells : (layers : List Layer) (name : Name) → named false (reaching under layers) name ≡ list_any is_under (named [] (reaches layers) name)
  pass_tells layers name = layers_step layers [] [] (λ absent none n a. a) false [] name refl

  by_name : (layer : Layer) (names : List Name) (b : Bool) → bytes_eq layer.name under ≡ b → (list_any (bytes_eq layer.name) names && b) ≡ (b && list_any is_under names)
  by_name layer names true at =
      and_true _ ∙ ap (λ n. list_any (bytes_eq n) names) (same_name layer.name under at) ∙ (λ j. list_any (λ m. turned under m j) names)
  by_name layer names false at = and_false _

  -- a layer reaches a name where one has it and it is among the names that the layer reaches
  names_tell : (layers : List Layer) (own : Name) → reaches_name layers own under ≡ (stands layers under && list_any is_under (named [] (reaches layers) own))
  names_tell layers own =
      let names = named [] (reaches layers) own in
      any-filter (λ (layer : Layer). bytes_eq layer.name under) (λ layer. list_any (bytes_eq layer.name) names) layers
      ∙ (λ j. list_any (λ (layer : Layer). by_name layer names (bytes_eq layer.name under) refl j) layers)
      ∙ any-and (λ (layer : Layer). bytes_eq layer.name under) (list_any is_under names) layers

  -- the marks of the whole pass
  pub reaching_whole : (layers : List Layer) (marks : List Bool) (n i : ℕ) (layer : Layer) → is_orderly_after [] layers ≡ true → stands layers under ≡ true
      → n ≡ length layers → reaching under (take n layers) ≡ labelled layers (take n marks) → slice_get layers i ≡ Some layer
      → at_index marks i ≡ reaches_name layers layer.name under
  reaching_whole layers marks n i layer orderly there end so_far e =
      let all : reaching under layers ≡ labelled layers marks =
      ap (reaching under) (sym (take-length layers)) ∙ ap (λ k. reaching under (take k layers)) (sym end) ∙ so_far ∙ ap (λ k. labelled layers (take k marks)) end ∙ labelled_whole layers marks in
      ap (at_index marks) (sym (index_at [] layers i layer orderly e))
      ∙ sym (named_at layers marks layer.name (stands_at layers i layer e))
      ∙ ap (λ known. named false known layer.name) (sym all)
      ∙ pass_tells layers layer.name
      ∙ ap (λ b. b && list_any is_under (named [] (reaches layers) layer.name)) (sym there)
      ∙ sym (names_tell layers layer.name)

  no_mark : (n i : ℕ) → at_index (replicate n false) i ≡ false
  no_mark zero i = refl
  no_mark (suc n) zero = refl
  no_mark (suc n) (suc i) = no_mark n i

  -- no layer reaches a name that none has
  pub none_reach : (layers : List Layer) (own : Name) (n i : ℕ) → stands layers under ≡ false → at_index (replicate n false) i ≡ reaches_name layers own under
  none_reach layers own n i none = no_mark n i ∙ sym (names_tell layers own ∙ ap (λ b. b && list_any is_under (named [] (reaches layers) own)) none)

-- whether the layer at an index is derived
derived_at : (known : List Name) (layers : List Layer) (i : ℕ) (layer : Layer) → is_orderly_after known layers ≡ true → slice_get layers i ≡ Some layer → stands_as_derived layers layer.name ≡ is_derived layer.content
derived_at known [] i layer h e = cc
derived_at known (l ∷ layers) zero layer h e =
    let same : l ≡ layer = cc in
    subst (λ (m : Layer). stands_as_derived (l ∷ layers) m.name ≡ is_derived m.content) same
    (ap (λ b. (b && is_derived l.content) || stands_as_derived layers l.name) (own_name l.name)
    ∙ ap (λ b. is_derived l.content || b) (none_passes is_derived layers l.name (apart known l layers h))
    ∙ or_false (is_derived l.content))
derived_at known (l ∷ layers) (suc i) layer h e =
    let other : bytes_eq l.name layer.name ≡ false = false_from_ne_true _ (λ same. both_ways (stands layers l.name) (apart known l layers h) (subst (λ n. stands layers n ≡ true) (sym (same_name l.name layer.name same)) (stands_at layers i layer e))) in
    ap (λ b. (b && is_derived l.content) || stands_as_derived layers layer.name) other
    ∙ derived_at (known ++ l.name ∷ []) layers i layer (head_of known l layers h).behind e

-- a layer is over a name where it reaches it and is derived
pub over_at : (layers : List Layer) (under : Name) (i : ℕ) (layer : Layer) (reaches names_others : Bool) → is_orderly_after [] layers ≡ true → slice_get layers i ≡ Some layer
    → reaches ≡ reaches_name layers layer.name under → names_others ≡ is_derived layer.content → (reaches && names_others) ≡ list_any (bytes_eq layer.name) (derived_over layers under)
over_at layers under i layer reaches names_others orderly e r d =
    (λ j. r j && d j) ∙ and_turned (reaches_name layers layer.name under) (is_derived layer.content)
    ∙ ap (λ b. b && reaches_name layers layer.name under) (sym (derived_at [] layers i layer orderly e))
    ∙ sym (named_among (λ n. reaches_name layers n under) layer.name layers)
  where
    and_turned : (a b : Bool) → (a && b) ≡ (b && a)
    and_turned true true = refl
    and_turned true false = refl
    and_turned false true = refl
    and_turned false false = refl
