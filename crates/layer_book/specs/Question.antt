-- What is asked of each layer at a point, from the answers of the layers before it.
use Rattle.std.specs.Prelude.{◌≡◌, ℕ, [], ◌∷◌, ◌++◌, if◌then◌else◌}
use Rattle.std.specs.Prelude.{Bool, true, false, List, map, fold, zip, slice_get, slice_set, unwrap_or, Some}
use Rattle.std.specs.List.{list_any, list_all}
use Rattle.std.specs.Option.{option_map_or}
use Rattle.overlay_terms.specs.Plane.{Point, segments_of}
use Rattle.overlay_terms.specs.Trees.{leaves}
use Rattle.overlay_terms.specs.Layers.{Name, Content, base, derived, Layer, content_value, named}
use Rattle.overlay_terms.specs.Commands.{index_of, stands}
use Rattle.overlay_terms.specs.Orderly.{used_names}
use Rattle.overlay_terms.specs.Laws.{is_on_any}

-- whether a layer holds a point, or whether a segment that it reaches does
pub data Question : Type 0 where
  IsInside : Question
  IsEdge : Question

-- whether a segment that a layer reaches holds the point, from which earlier layers reach one
abbrev pub content_edge : Point → List (Name × Bool) → Content → Bool
content_edge p known (base rings) = is_on_any (segments_of rings) p
content_edge p known (derived expression) = list_any (named false known) (leaves expression)

abbrev pub content_answer : Question → Point → List (Name × Bool) → Content → Bool
content_answer IsInside p = content_value p
content_answer IsEdge p = content_edge p

-- the answer of each layer, in order
abbrev pub answers : Question → List Layer → Point → List (Name × Bool)
answers question layers p =
    fold (λ known layer. known ++ (layer.name, content_answer question p known layer.content) ∷ []) [] layers

-- answers by index, each beside its layer's name
abbrev pub labelled : List Layer → List Bool → List (Name × Bool)
labelled layers known = zip (map (λ (layer : Layer). layer.name) layers) known

-- a content, or no rings where it is not wanted
abbrev pub if_wanted : Bool → Content → Content
if_wanted wanted content = if wanted then content else base []

-- the layers, those that are not wanted without their contents
abbrev pub wanted_layers : List Bool → List Layer → List Layer
wanted_layers [] layers = []
wanted_layers (w ∷ ws) [] = []
wanted_layers (w ∷ ws) (layer ∷ layers) =
    record { name = layer.name; content = if_wanted w layer.content } ∷ wanted_layers ws layers

-- what the layer at an index is made of
abbrev pub content_at : List Layer → ℕ → Content
content_at layers i = option_map_or (λ layer. layer.content) (slice_get layers i) (base [])

-- whether the layer at an index, or with a name, is wanted
abbrev pub at_index : List Bool → ℕ → Bool
at_index wanted i = unwrap_or (slice_get wanted i) false

abbrev pub is_wanted : List Layer → List Bool → Name → Bool
is_wanted layers wanted name = at_index wanted (index_of layers name)

-- the layer with a name is at an index
abbrev pub StandsAt : List Layer → ℕ → Name → Type 0
StandsAt layers index name = (stands layers name ≡ true) × (index ≡ index_of layers name)

-- what a wanted layer names is wanted
abbrev pub NamesAreWanted : List Layer → List Bool → Type 0
NamesAreWanted layers wanted =
    (i : ℕ) (layer : Layer) → slice_get layers i ≡ Some layer → at_index wanted i ≡ true →
    list_all (is_wanted layers wanted) (used_names layer.content) ≡ true

-- the marks, with the layers of some names marked too
abbrev pub marked : List Layer → List Bool → List Name → List Bool
marked layers wanted names = fold (λ marks used. slice_set marks (index_of layers used) true) wanted names

-- the marked layers, in order
abbrev pub marked_layers : List Bool → List Layer → List Layer
marked_layers [] layers = []
marked_layers (w ∷ ws) [] = []
marked_layers (w ∷ ws) (layer ∷ layers) = if w then layer ∷ marked_layers ws layers else marked_layers ws layers
