-- The marks of a layer are those of the layers that it reaches.
use Rattle.std.proofs.Common.{◌≡◌, ℕ, zero, suc, ◌⊎◌, inl, inr, ◌+◌, ◌<◌, ◌≤◌, Bool, true, false, cond, List, [], ◌∷◌, ◌++◌, length, replicate, slice_get, slice_set, flat_map, Some, refl, ap, sym, ◌∙◌, subst, ⊎_elim, arith, add-one, bytes_eq}
use Rattle.std.specs.List.{list_any, list_all, AllByRecursion}
use Rattle.std.specs.Cmp.{both_ways}
use Rattle.std.specs.Option.{option_map_or}
use Rattle.std.proofs.lemmas.Bool.{and_parts, or_cases, false≢true}
use Rattle.overlay_terms.specs.Trees.{leaves}
use Rattle.overlay_terms.specs.Layers.{Name, Content, base, derived, Layer, named, reaches, layers_in_reach}
use Rattle.overlay_terms.specs.Orderly.{used_names, is_among, is_orderly_after}
use Rattle.overlay_terms.specs.Commands.{index_of, stands}
use Rattle.overlay_terms.proofs.NameLemmas.{same_name, or_false}
use Rattle.overlay_terms.proofs.OrderlyLemmas.{orderly_splits, is_known, is_known-cons}
use Rattle.overlay_terms.proofs.KeptBounds.{reach_rows, reaches_itself}
use Rattle.overlay_terms.proofs.DefinitionLemmas.{passing}
use Rattle.overlay_terms.proofs.ReachLemmas.{has_name, any-flat_map, is_reached, IsReachRow, AreReachRows, UsesReached, known_push, closed_all, uses_all}
use Rattle.layer_book.specs.Question.{content_at, at_index, is_wanted, marked, marked_layers, NamesAreWanted}
use Rattle.layer_book.proofs.Answering.{layer_there}
use Rattle.layer_book.proofs.Wanted.{index_at}

-- whether a layer reaches a name
abbrev pub in_reach : List Layer → Name → Name → Bool
in_reach layers name m = is_reached (reaches layers) name m

-- a reached layer uses reached names alone
pub uses_in_reach : (layers : List Layer) (name : Name) → is_orderly_after [] layers ≡ true → stands layers name ≡ true
    → AllByRecursion (λ layer. UsesReached (reaches layers) name layer.name layer.content) layers
uses_in_reach layers name orderly standing =
    let rows = reach_rows layers orderly in
    let closed = closed_all (reaches layers) layers [] orderly rows (λ n e. absurd (false≢true e)) name standing in
    uses_all (reaches layers) name closed layers [] orderly rows (λ n e. absurd (false≢true e))

-- what holds of each layer of a list holds of the one at an index
at_each : (P : Layer → Type 0) (layers : List Layer) (i : ℕ) (layer : Layer) → AllByRecursion P layers → slice_get layers i ≡ Some layer → P layer
at_each P [] i layer all e = cc
at_each P (l ∷ layers) zero layer all e =
    let same : l ≡ layer = cc in
    subst P same all.0
at_each P (l ∷ layers) (suc i) layer all e = at_each P layers i layer all.1 e

-- what holds at each index holds of each layer of the list
each_at : (P : Layer → Type 0) (layers : List Layer) → ((i : ℕ) (layer : Layer) → slice_get layers i ≡ Some layer → P layer) → AllByRecursion P layers
each_at P [] f = tt
each_at P (l ∷ layers) f = (f zero l refl, each_at P layers (λ i layer e. f (suc i) layer e))

-- the layer at a name's index has the name
name_at_index : (layers : List Layer) (name : Name) (layer : Layer) → slice_get layers (index_of layers name) ≡ Some layer → bytes_eq layer.name name ≡ true
name_at_index [] name layer e = cc
name_at_index (l ∷ layers) name layer e = split (bytes_eq l.name name) refl (name_at_index layers name layer) e where
  split : (b : Bool) → bytes_eq l.name name ≡ b → (slice_get layers (index_of layers name) ≡ Some layer → bytes_eq layer.name name ≡ true)
      → slice_get (l ∷ layers) (cond b 0 (index_of layers name + 1)) ≡ Some layer → bytes_eq layer.name name ≡ true
  split true here next f =
      let same : l ≡ layer = cc in
      subst (λ (m : Layer). bytes_eq m.name name ≡ true) same here
  split false other next f = next (ap (slice_get (l ∷ layers)) (sym (add-one (index_of layers name))) ∙ f)

-- a mark that is set is the one at the index, or was set before
set_or_before : (ws : List Bool) (index i : ℕ) → at_index (slice_set ws index true) i ≡ true → (i ≡ index) ⊎ (at_index ws i ≡ true)
set_or_before [] index i h = inr h
set_or_before (w ∷ ws) zero zero h = inl refl
set_or_before (w ∷ ws) zero (suc i) h = inr h
set_or_before (w ∷ ws) (suc index) zero h = inr h
set_or_before (w ∷ ws) (suc index) (suc i) h =
    ⊎_elim (λ same. inl (ap suc same)) (λ before. inr before) (set_or_before ws index i h)

-- at first nothing is marked
nothing_marked : (n i : ℕ) → at_index (replicate n false) i ≡ true → ⊥
nothing_marked zero i h = cc
nothing_marked (suc n) zero h = cc
nothing_marked (suc n) (suc i) h = nothing_marked n i h

-- marked layers are reached
abbrev pub AreReached : List Layer → Name → List Bool → Type 0
AreReached layers name ws = (i : ℕ) (layer : Layer) → slice_get layers i ≡ Some layer → at_index ws i ≡ true → in_reach layers name layer.name ≡ true

-- one more mark, of a reached name
reached_set : (layers : List Layer) (name used : Name) (ws : List Bool) → AreReached layers name ws → in_reach layers name used ≡ true
    → AreReached layers name (slice_set ws (index_of layers used) true)
reached_set layers name used ws are r i layer e m =
    ⊎_elim
    (λ same. subst (λ n. in_reach layers name n ≡ true) (sym (same_name layer.name used (name_at_index layers used layer (ap (slice_get layers) (sym same) ∙ e)))) r)
    (λ before. are i layer e before)
    (set_or_before ws (index_of layers used) i m)

-- the first mark is the layer's own
pub reached_first : (layers : List Layer) (name : Name) (ws : List Bool) (n index : ℕ) → is_orderly_after [] layers ≡ true
    → stands layers name ≡ true → index ≡ index_of layers name → ws ≡ slice_set (replicate n false) index true → AreReached layers name ws
reached_first layers name ws n index orderly standing at e =
    subst (AreReached layers name) (ap (λ k. slice_set (replicate n false) k true) (sym at) ∙ sym e)
    (reached_set layers name name (replicate n false) (λ i layer f m. absurd (nothing_marked n i m)) (reaches_itself layers name orderly standing))

-- marks of reached names
reached_marks : (layers : List Layer) (name : Name) (ws : List Bool) (us : List Name) → AreReached layers name ws
    → list_all (in_reach layers name) us ≡ true → AreReached layers name (marked layers ws us)
reached_marks layers name ws [] are all = are
reached_marks layers name ws (u ∷ us) are all =
    let both = and_parts (in_reach layers name u) (list_all (in_reach layers name) us) all in
    reached_marks layers name (slice_set ws (index_of layers u) true) us (reached_set layers name u ws are both.0) both.1

-- the marks of one layer's names more
pub reached_more : (layers : List Layer) (name : Name) (ws : List Bool) (k : ℕ) → is_orderly_after [] layers ≡ true → stands layers name ≡ true
    → k < length layers → AreReached layers name ws → AreReached layers name
    (cond (at_index ws k) (marked layers ws (used_names (content_at layers k))) ws)
reached_more layers name ws k orderly standing hk are = split (at_index ws k) refl where
  there : (layer : Layer) × (slice_get layers k ≡ Some layer)
  there = layer_there layers k hk

  made : content_at layers k ≡ there.0.content
  made = ap (λ o. option_map_or (λ (l : Layer). l.content) o (base [])) there.1

  split : (b : Bool) → at_index ws k ≡ b → AreReached layers name (cond b (marked layers ws (used_names (content_at layers k))) ws)
  split true at =
      reached_marks layers name ws (used_names (content_at layers k)) are
      (subst (λ c. list_all (in_reach layers name) (used_names c) ≡ true) (sym made)
      (at_each (λ layer. UsesReached (reaches layers) name layer.name layer.content) layers k there.0 (uses_in_reach layers name orderly standing) there.1 (are k there.0 there.1 at)))
  split false at = are

-- where each of some names has all that it reaches marked, so has what reaches them
any_marked : (is_in : Name → Bool) (reach : Name → List Name) (known us : List Name) (m : Name)
    → ((u : Name) → is_among known u ≡ true → is_in u ≡ true → has_name (reach u) m ≡ true → is_in m ≡ true) →
    list_all (is_among known) us ≡ true → list_all is_in us ≡ true → list_any (λ u. has_name (reach u) m) us ≡ true → is_in m ≡ true
any_marked is_in reach known [] m good all ins some = cc
any_marked is_in reach known (u ∷ us) m good all ins some =
    let a = and_parts (is_among known u) (list_all (is_among known) us) all in
    let b = and_parts (is_in u) (list_all is_in us) ins in
    ⊎_elim (λ here. good u a.0 b.0 here) (λ later. any_marked is_in reach known us m good a.1 b.1 later) (or_cases (has_name (reach u) m) (list_any (λ v. has_name (reach v) m) us) some)

module _ (T : List (Name × List Name)) (is_in : Name → Bool) where
  -- what a marked name reaches is marked
  abbrev IsGood : Name → Type 0
  IsGood n = (m : Name) → is_in n ≡ true → is_reached T n m ≡ true → is_in m ≡ true

  -- a name reached as the layer's own is marked as it is
  own_good : (name m : Name) → bytes_eq m name ≡ true → is_in name ≡ true → is_in m ≡ true
  own_good name m e h = subst (λ n. is_in n ≡ true) (sym (same_name m name e)) h

  good_row : (known : List Name) (name : Name) (content : Content) → IsReachRow T name content
      → list_all (is_among known) (used_names content) ≡ true → ((n : Name) → is_among known n ≡ true → IsGood n)
      → (is_in name ≡ true → list_all is_in (used_names content) ≡ true) → IsGood name
  good_row known name (base rings) row uses good closed m h r =
      own_good name m (sym (or_false (bytes_eq m name)) ∙ sym (ap (λ ns. has_name ns m) row) ∙ r) h
  good_row known name (derived expression) row uses good closed m h r =
      ⊎_elim (λ own. own_good name m own h)
      (λ some. any_marked is_in (named [] T) known (leaves expression) m (λ u e i through. good u e m i through) uses (closed h)
      (sym (any-flat_map (bytes_eq m) (named [] T) (leaves expression)) ∙ some))
      (or_cases (bytes_eq m name) (has_name (flat_map (named [] T) (leaves expression)) m) (sym (ap (λ ns. has_name ns m) row) ∙ r))

  good_all : (layers : List Layer) (known : List Name) → is_orderly_after known layers ≡ true → AreReachRows T layers
      → AllByRecursion (λ layer. is_in layer.name ≡ true → list_all is_in (used_names layer.content) ≡ true) layers
      → ((n : Name) → is_among known n ≡ true → IsGood n) → (n : Name) → is_known known layers n ≡ true → IsGood n
  good_all [] known orderly rows closed good n e = good n (sym (or_false (is_among known n)) ∙ e)
  good_all (layer ∷ layers) known orderly rows closed good n e =
      let parts = orderly_splits known layer layers orderly in
      good_all layers (known ++ layer.name ∷ []) parts.rest rows.1 closed.1
      (known_push IsGood known layer.name good (good_row known layer.name layer.content rows.0 parts.first.uses_known good closed.0)) n
      (sym (is_known-cons known layer layers n) ∙ e)

-- marks that are the reached layers' leave the layers in reach
kept_layers : (test : Name → Bool) (ws : List Bool) (layers : List Layer) → length layers ≤ length ws
    → ((i : ℕ) (layer : Layer) → slice_get layers i ≡ Some layer → at_index ws i ≡ test layer.name) → marked_layers ws layers ≡ passing test layers
kept_layers test [] [] n f = refl
kept_layers test [] (layer ∷ layers) n f = absurd (omega arith)
kept_layers test (w ∷ ws) [] n f = refl
kept_layers test (w ∷ ws) (layer ∷ layers) n f = split (test layer.name) (f zero layer refl) (kept_layers test ws layers (omega arith) (λ i other e. f (suc i) other e)) where
  split : (b : Bool) → w ≡ b → marked_layers ws layers ≡ passing test layers
      → cond w (layer ∷ marked_layers ws layers) (marked_layers ws layers) ≡ cond b (layer ∷ passing test layers) (passing test layers)
  split b e rest = ap (λ v. cond v (layer ∷ marked_layers ws layers) (marked_layers ws layers)) e ∙ ap (λ ls. cond b (layer ∷ ls) ls) rest

-- the marked layers are those in reach
pub marked_in_reach : (layers : List Layer) (name : Name) (ws : List Bool) → is_orderly_after [] layers ≡ true → stands layers name ≡ true
    → length layers ≤ length ws → is_wanted layers ws name ≡ true → NamesAreWanted layers ws → AreReached layers name ws
    → marked_layers ws layers ≡ layers_in_reach layers name
marked_in_reach layers name ws orderly standing n asked closed are =
    kept_layers (in_reach layers name) ws layers n
    (λ i layer e. both_ways (at_index ws i) (in_reach layers name layer.name) (are i layer e)
    (λ r. sym (ap (at_index ws) (index_at [] layers i layer orderly e)) ∙ good_all (reaches layers) (is_wanted layers ws) layers [] orderly (reach_rows layers orderly)
    (each_at (λ l. is_wanted layers ws l.name ≡ true → list_all (is_wanted layers ws) (used_names l.content) ≡ true) layers
    (λ j l f w. closed j l f (sym (ap (at_index ws) (index_at [] layers j l orderly f)) ∙ w)))
    (λ u h. absurd (false≢true h)) name standing layer.name asked r))
