-- How the lines of layers grow with the layers.
use Rattle.std.proofs.Common.{◌≡◌, ℕ, ◌+◌, ◌<◌, List, [], ◌∷◌, ◌++◌, length, take, flat_map, slice_get, Some, None, ap, sym, ◌∙◌, append_assoc, append-nil, add-one}
use Rattle.std.proofs.lemmas.Grind.{flat_map-append}
use Rattle.overlay_terms.specs.Layers.{Layer}
use Rattle.layer_book.specs.Listing.{layer_line}
use Rattle.layer_book.proofs.Answering.{take_there, layer_there}

lines_more : (layers : List Layer) (i : ℕ) (l : Layer) → slice_get layers i ≡ Some l → flat_map layer_line (take (i + 1) layers) ≡ flat_map layer_line (take i layers) ++ layer_line l
lines_more layers i l e =
    ap (λ k. flat_map layer_line (take k layers)) (add-one i) ∙ ap (flat_map layer_line) (take_there layers i l e)
    ∙ flat_map-append layer_line (take i layers) (l ∷ []) ∙ ap (λ line. flat_map layer_line (take i layers) ++ line) (append-nil (layer_line l))

-- one line more after a head
pub line_step : (head count : List ℕ) (layers : List Layer) (i : ℕ) (l : Layer) (text made : List ℕ) → slice_get layers i ≡ Some l → text ≡ head ++ (count ++ (10 ∷ flat_map layer_line (take i layers))) → made ≡ text ++ layer_line l → made ≡ head ++ (count ++ (10 ∷ flat_map layer_line (take (i + 1) layers)))
line_step head count layers i l text made e so_far m =
    m ∙ ap (λ t. t ++ layer_line l) so_far ∙ append_assoc head (count ++ (10 ∷ flat_map layer_line (take i layers))) (layer_line l)
    ∙ ap (λ t. head ++ t) (append_assoc count (10 ∷ flat_map layer_line (take i layers)) (layer_line l)) ∙ ap (λ lines. head ++ (count ++ (10 ∷ lines))) (sym (lines_more layers i l e))

pub none_there : (layers : List Layer) (i : ℕ) → i < length layers → None ≡ slice_get layers i → ⊥
none_there layers i h e =
    let there = layer_there layers i h in
    let clash : None ≡ Some there.0 = e ∙ there.1 in
    cc
