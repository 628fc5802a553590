-- How the wanted layers grow with the layers.
use Rattle.std.proofs.Common.{◌≡◌, ℕ, zero, suc, ◌+◌, Bool, true, false, cond, List, [], ◌∷◌, ◌++◌, length, map, take, slice_get, get_or, Some, refl, ap, sym, ◌∙◌, add-one, append-nil}
use Rattle.std.specs.List.{filter_map}
use Rattle.std.proofs.lemmas.List.{map-append}
use Rattle.std.proofs.lemmas.List.Elements.{filter_map-append}
use Rattle.overlay_terms.specs.Plane.{WholePoint}
use Rattle.overlay_terms.specs.Layers.{Name, Content, base, derived, Layer, base_of}
use Rattle.layer_expr.specs.StepList.{Reached, reached_of}
use Rattle.layer_book.specs.Layer.{rings_in}
use Rattle.layer_book.specs.Question.{at_index, marked_layers}
use lib.Seq.{take-length}

-- no layers
pub marked_layers-nil : (ws : List Bool) → marked_layers ws [] ≡ []
marked_layers-nil [] = refl
marked_layers-nil (w ∷ ws) = refl

one_if : (w : Bool) (layer : Layer) (rest : List Layer) → rest ≡ [] → cond w (layer ∷ rest) rest ≡ cond w (layer ∷ []) []
one_if w layer rest e = ap (λ ls. cond w (layer ∷ ls) ls) e

in_front : (w b : Bool) (layer more : Layer) (front rest : List Layer) → rest ≡ front ++ cond b (more ∷ []) [] → cond w (layer ∷ rest) rest ≡ cond w (layer ∷ front) front ++ cond b (more ∷ []) []
in_front true b layer more front rest e = ap (λ ls. layer ∷ ls) e
in_front false b layer more front rest e = e

-- one layer more
marked_next : (ws : List Bool) (layers : List Layer) (i : ℕ) (layer : Layer) → slice_get layers i ≡ Some layer → marked_layers ws (take (suc i) layers) ≡ marked_layers ws (take i layers) ++ cond (at_index ws i) (layer ∷ []) []
marked_next [] layers zero layer e = refl
marked_next [] layers (suc i) layer e = refl
marked_next (w ∷ ws) [] i layer e = cc
marked_next (w ∷ ws) (l ∷ layers) zero layer e =
    let same : l ≡ layer = cc in
    one_if w l (marked_layers ws []) (marked_layers-nil ws) ∙ ap (λ (m : Layer). cond w (m ∷ []) []) same
marked_next (w ∷ ws) (l ∷ layers) (suc i) layer e =
    in_front w (at_index ws i) l layer (marked_layers ws (take i layers)) (marked_layers ws (take (suc i) layers)) (marked_next ws layers i layer e)

marked_more : (ws : List Bool) (layers : List Layer) (i : ℕ) (layer : Layer) → slice_get layers i ≡ Some layer → marked_layers ws (take (i + 1) layers) ≡ marked_layers ws (take i layers) ++ cond (at_index ws i) (layer ∷ []) []
marked_more ws layers i layer e = ap (λ k. marked_layers ws (take k layers)) (add-one i) ∙ marked_next ws layers i layer e

-- the rings of the base layers among some
abbrev pub rings_of : List Layer → List (List (List WholePoint))
rings_of layers = map (λ b. b.1) (filter_map base_of layers)

rings_of-append : (xs ys : List Layer) → rings_of (xs ++ ys) ≡ rings_of xs ++ rings_of ys
rings_of-append xs ys =
    ap (map (λ b. b.1)) (filter_map-append base_of xs ys) ∙ map-append (λ (b : Name × List (List WholePoint)). b.1) (filter_map base_of xs) (filter_map base_of ys)

rings_of-one : (layer : Layer) → rings_of (layer ∷ []) ≡ rings_in layer.content
rings_of-one layer = by_content layer.content where
  by_content : (c : Content) → rings_of (record { name = layer.name; content = c } ∷ []) ≡ rings_in c
  by_content (base rings) = refl
  by_content (derived e) = refl

-- a wanted layer's rings after those before it
pub rings_more : (ws : List Bool) (layers : List Layer) (i : ℕ) (layer : Layer) (old new : List (List (List WholePoint))) → slice_get layers i ≡ Some layer → at_index ws i ≡ true → old ≡ rings_of (marked_layers ws (take i layers)) → new ≡ old ++ rings_in layer.content → new ≡ rings_of (marked_layers ws (take (i + 1) layers))
rings_more ws layers i layer old new e w before made =
    made ∙ ap (λ rs. rs ++ rings_in layer.content) before ∙ ap (λ rs. rings_of (marked_layers ws (take i layers)) ++ rs) (sym (rings_of-one layer))
    ∙ sym (rings_of-append (marked_layers ws (take i layers)) (layer ∷ []))
    ∙ ap (λ b. rings_of (marked_layers ws (take i layers) ++ cond b (layer ∷ []) [])) (sym w)
    ∙ ap rings_of (sym (marked_more ws layers i layer e))

-- a wanted layer after those before it
pub reached_more : (ws : List Bool) (layers : List Layer) (i : ℕ) (layer : Layer) (old new : List Reached) → slice_get layers i ≡ Some layer → at_index ws i ≡ true → old ≡ map reached_of (marked_layers ws (take i layers)) → new ≡ old ++ reached_of layer ∷ [] → new ≡ map reached_of (marked_layers ws (take (i + 1) layers))
reached_more ws layers i layer old new e w before made =
    made ∙ ap (λ rs. rs ++ reached_of layer ∷ []) before
    ∙ sym (map-append reached_of (marked_layers ws (take i layers)) (layer ∷ []))
    ∙ ap (λ b. map reached_of (marked_layers ws (take i layers) ++ cond b (layer ∷ []) [])) (sym w)
    ∙ ap (map reached_of) (sym (marked_more ws layers i layer e))

-- a layer that is not wanted changes nothing
pub marked_same : (ws : List Bool) (layers : List Layer) (i : ℕ) (layer : Layer) → slice_get layers i ≡ Some layer → at_index ws i ≡ false → marked_layers ws (take (i + 1) layers) ≡ marked_layers ws (take i layers)
marked_same ws layers i layer e w =
    marked_more ws layers i layer e ∙ ap (λ b. marked_layers ws (take i layers) ++ cond b (layer ∷ []) []) w ∙ append-nil (marked_layers ws (take i layers))

-- all layers
pub marked_whole : (ws : List Bool) (layers : List Layer) (i : ℕ) → i ≡ length layers → marked_layers ws (take i layers) ≡ marked_layers ws layers
marked_whole ws layers i e = ap (marked_layers ws) (ap (λ k. take k layers) e ∙ take-length layers)

-- the mark that is read at an index
pub read_mark : (ws : List Bool) (i : ℕ) → at_index ws i ≡ get_or ws i false
read_mark [] zero = refl
read_mark [] (suc i) = refl
read_mark (w ∷ ws) zero = refl
read_mark (w ∷ ws) (suc i) = read_mark ws i
