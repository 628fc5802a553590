-- The input of the tile of a layer and column is an input: its base layers in reach leave closed segments.
use Rattle.std.specs.Prelude.{◌≡◌, ℕ, ◌+◌, ◌<◌, ◌≤◌, Bool, true, false, List, [], ◌∷◌, map, filter, filter_map, length, Option, Some, None, All}
use Rattle.std.specs.List.{cons_option}
use Rattle.std.proofs.Common.{refl, ap, arith}
use Rattle.std.proofs.Math.ListN.{length-map}
use Rattle.std.proofs.lemmas.List.Elements.{All-nil, All-cons, All-head, All-tail, All-append, All-map, All-weaker, All-same}
use Rattle.overlay_terms.specs.Plane.{WholePoint, segments_of}
use Rattle.overlay_terms.specs.Layers.{Name, Layer, Marked, base_of, layers_in_reach, segments_in_reach, steps_in_reach}
use Rattle.overlay_terms.specs.TileLaws.{AreClosed}
use Rattle.overlay_terms.specs.InputLaws.{IsRing, InputOfIsInput}
use Rattle.overlay_terms.proofs.ClosedLayers.{numbered, marked_from, layers_are_closed}
use Rattle.overlay_terms.proofs.ClosedInputs.{closed_is_input}

module _ {X : Type 0} (P : X → Type 0) where
  -- what holds after an item holds after the same item
  all_behind : (o : Option X) (xs ys : List X) → (All P xs → All P ys) → All P (cons_option o xs) → All P (cons_option o ys)
  all_behind None xs ys more all = more all
  all_behind (Some x) xs ys more all = All-cons P x ys (All-head P x xs all) (more (All-tail P x xs all))

  -- what holds of all holds without the first
  all_after : (o : Option X) (xs : List X) → All P (cons_option o xs) → All P xs
  all_after None xs all = all
  all_after (Some x) xs all = All-tail P x xs all

module _ {X Y : Type 0} (h : X → Option Y) (keep : X → Bool) where
  -- one element more, by whether the filter keeps it
  kept_step : (P : Y → Type 0) (x : X) (xs : List X) (b : Bool) → keep x ≡ b → (All P (filter_map h xs) → All P (filter_map h (filter keep xs))) → All P (filter_map h (x ∷ xs)) → All P (filter_map h (filter keep (x ∷ xs)))
  kept_step P x xs true e more all =
      let same : filter keep (x ∷ xs) ≡ x ∷ filter keep xs = rw e in
      All-same P _ _ (ap (filter_map h) same) (all_behind P (h x) (filter_map h xs) (filter_map h (filter keep xs)) more all)
  kept_step P x xs false e more all =
      let same : filter keep (x ∷ xs) ≡ filter keep xs = rw e in
      All-same P _ _ (ap (filter_map h) same) (more (all_after P (h x) (filter_map h xs) all))

  -- what holds of all items holds of those that a filter keeps
  kept_items : (P : Y → Type 0) (xs : List X) → All P (filter_map h xs) → All P (filter_map h (filter keep xs))
  kept_items P [] all = all
  kept_items P (x ∷ xs) all = kept_step P x xs (keep x) refl (kept_items P xs) all

  -- how long a list with one item more is
  longer : (o : Option Y) (ys : List Y) → length (cons_option o ys) ≤ length ys + 1
  longer None ys = omega arith
  longer (Some y) ys = omega arith

  -- one element more, by whether the filter keeps it
  fewer_step : (x : X) (xs : List X) (b : Bool) → keep x ≡ b → length (filter_map h (filter keep xs)) ≤ length xs → length (filter_map h (filter keep (x ∷ xs))) ≤ length xs + 1
  fewer_step x xs true e less =
      let more : length (cons_option (h x) (filter_map h (filter keep xs))) ≤ length (filter_map h (filter keep xs)) + 1 = longer (h x) (filter_map h (filter keep xs)) in
      rw e (omega arith)
  fewer_step x xs false e less = rw e (omega arith)

  -- the items that a filter keeps are no more than the list is long
  fewer_items : (xs : List X) → length (filter_map h (filter keep xs)) ≤ length xs
  fewer_items [] = omega arith
  fewer_items (x ∷ xs) =
      let step : length (filter_map h (filter keep (x ∷ xs))) ≤ length xs + 1 = fewer_step x xs (keep x) refl (fewer_items xs) in
      omega arith

-- the numbers of layers are below their count
from_known : (n : ℕ) (bases : List (List (List WholePoint))) → All (λ m. m.layer < n + length bases) (marked_from n bases)
from_known n [] = All-nil (λ (m : Marked). m.layer < n + 0)
from_known n (rings ∷ bases) =
    All-append (λ m. m.layer < n + length (rings ∷ bases)) (numbered n (segments_of rings)) (marked_from (n + 1) bases)
    (All-map (λ (m : Marked). m.layer < n + length (rings ∷ bases)) (λ s. record { layer = n; segment = s }) (segments_of rings) (λ k d within. omega arith))
    (All-weaker (λ (m : Marked). m.layer < n + 1 + length bases) (λ m. m.layer < n + length (rings ∷ bases)) (λ m below. omega arith) (marked_from (n + 1) bases) (from_known (n + 1) bases))

-- the segments in reach are closed
pub reach_is_closed : (layers : List Layer) (name : Name) → All (λ b. All IsRing b.1) (filter_map base_of layers) → AreClosed (segments_in_reach layers name)
reach_is_closed layers name rings =
    let bases : List (Name × List (List WholePoint)) = filter_map base_of (layers_in_reach layers name) in
    layers_are_closed (map (λ b. b.1) bases) (All-map (All IsRing) (λ (b : Name × List (List WholePoint)). b.1) bases (kept_items base_of _ (λ b. All IsRing b.1) layers rings))

-- the input of the tile of a layer and column is an input
pub input_of_is_input : InputOfIsInput
input_of_is_input layers name k column few rings =
    let bases : List (Name × List (List WholePoint)) = filter_map base_of (layers_in_reach layers name) in
    let count : length (filter_map base_of (layers_in_reach layers name)) ≤ length layers = fewer_items base_of _ layers in
    let lists : length (map (λ (b : Name × List (List WholePoint)). b.1) (filter_map base_of (layers_in_reach layers name))) ≡ length (filter_map base_of (layers_in_reach layers name)) = length-map (filter_map base_of (layers_in_reach layers name)) (λ (b : Name × List (List WholePoint)). b.1) in
    closed_is_input (segments_in_reach layers name) (steps_in_reach layers name) k column (omega arith)
    (All-weaker (λ (m : Marked). m.layer < 0 + length (map (λ (b : Name × List (List WholePoint)). b.1) bases)) (λ m. m.layer < length bases) (λ m below. omega arith) (segments_in_reach layers name) (from_known 0 (map (λ b. b.1) bases)))
    (reach_is_closed layers name rings)
