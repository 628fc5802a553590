-- Sketches of layers: what their entries say, and how one grows.
use Rattle.std.specs.Prelude.{◌≡◌, ℕ, ◌+◌, Bool, ◌||◌, List, [], ◌∷◌, ◌++◌, map, slice_get, Some}
use Rattle.std.specs.List.{list_any}
use Rattle.std.proofs.Common.{refl, ap, sym, ◌∙◌, take, add-one}
use Rattle.std.proofs.lemmas.List.{map_push}
use Rattle.overlay_terms.specs.Layers.{Layer}
use Rattle.layer_book.specs.declared.sketch.Entry.{Entry}
use Rattle.layer_book.specs.Sketch.{entry_layer}
use Rattle.layer_book.proofs.Answering.{take_there}

-- what an entry passes, its layer does
pub any_entry : (p : Layer → Bool) (entries : List Entry) → list_any (λ e. p (entry_layer e)) entries ≡ list_any p (map entry_layer entries)
any_entry p [] = refl
any_entry p (e ∷ entries) = ap (λ b. p (entry_layer e) || b) (any_entry p entries)

-- a layer more, as an entry
pub sketch_more : (layers : List Layer) (made more : List Entry) (i : ℕ) (layer : Layer) (fresh : Entry) → slice_get layers i ≡ Some layer
    → entry_layer fresh ≡ layer → map entry_layer made ≡ take i layers → more ≡ made ++ fresh ∷ [] → map entry_layer more ≡ take (i + 1) layers
sketch_more layers made more i layer fresh there is so_far grown =
    ap (map entry_layer) grown ∙ map_push entry_layer made fresh ∙ (λ k. so_far k ++ is k ∷ [])
    ∙ sym (ap (λ k. take k layers) (add-one i) ∙ take_there layers i layer there)
