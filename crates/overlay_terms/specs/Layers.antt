-- Named layers: what a layer is at a point, what it reaches, and where a point lies.
use Rattle.std.specs.Prelude.{ℕ, ◌+◌, [], ◌∷◌, ◌++◌, if◌then◌else◌}
use Rattle.std.specs.Prelude.{Bool, false, List, map, filter, fold, flat_map, length, Option, Some, None, bytes_eq}
use Rattle.std.specs.List.{list_any, enumerate_from, filter_map}
use Rattle.overlay_terms.specs.Plane.{WholePoint, Point, Segment, segments_of, is_inside, is_on}
use Rattle.overlay_terms.specs.Trees.{Tree, truth, leaves, relabel, Source, base_bit, definition, Steps}

-- the most layers that there are at a time
abbrev pub layers_max : ℕ
layers_max = 32

-- the bytes of a name
abbrev pub Name : Type 0
Name = List ℕ

-- rings, or an expression over the names of earlier layers
pub data Content : Type 0 where
  base : List (List WholePoint) → Content
  derived : Tree Name → Content

-- a layer: a name and its content
pub record Layer : Type 0 where
  pub name : Name
  pub content : Content

-- the value of the first entry that has a name; `absent` where none has it
abbrev pub named : {A : Type 0} → A → List (Name × A) → Name → A
named absent [] name = absent
named absent (entry ∷ entries) name = if bytes_eq entry.0 name then entry.1 else named absent entries name

-- a layer at a point, from what the earlier layers are there
abbrev pub content_value : Point → List (Name × Bool) → Content → Bool
content_value p known (base rings) = is_inside (segments_of rings) p
content_value p known (derived expression) = truth (named false known) expression

-- what each layer is at a point, in order
abbrev pub values : List Layer → Point → List (Name × Bool)
values layers p = fold (λ known layer. known ++ (layer.name, content_value p known layer.content) ∷ []) [] layers

-- whether the point is in the layer
abbrev pub value_of : List Layer → Name → Point → Bool
value_of layers name p = named false (values layers p) name

-- the names that a layer reaches, itself first, from what the earlier layers reach
abbrev pub content_reach : Name → List (Name × List Name) → Content → List Name
content_reach name known (base rings) = name ∷ []
content_reach name known (derived expression) = name ∷ flat_map (named [] known) (leaves expression)

-- the names that each layer reaches, in order
abbrev pub reaches : List Layer → List (Name × List Name)
reaches layers = fold (λ known layer. known ++ (layer.name, content_reach layer.name known layer.content) ∷ []) [] layers

-- the layers that a layer reaches, itself among them, in order
abbrev pub layers_in_reach : List Layer → Name → List Layer
layers_in_reach layers name = filter (λ layer. list_any (bytes_eq layer.name) (named [] (reaches layers) name)) layers

-- a base layer's name and rings
abbrev pub base_of : Layer → Option (Name × List (List WholePoint))
base_of layer = by_content layer.content where
  by_content : Content → Option (Name × List (List WholePoint))
  by_content (base rings) = Some (layer.name, rings)
  by_content (derived expression) = None

-- a derived layer's name and expression
abbrev pub derived_of : Layer → Option (Name × Tree Name)
derived_of layer = by_content layer.content where
  by_content : Content → Option (Name × Tree Name)
  by_content (base rings) = None
  by_content (derived expression) = Some (layer.name, expression)

-- a segment with the number of its base layer
pub record Marked : Type 0 where
  pub layer : ℕ
  pub segment : Segment

-- the segments of base layers, each with the number of its layer
abbrev pub marked_segments : List (List (List WholePoint)) → List Marked
marked_segments bases = flat_map (λ numbered. map (λ s. record { layer = numbered.0; segment = s }) (segments_of numbered.1)) (enumerate_from 0 bases)

-- the segments in reach, each with the place of its base layer among those in reach
abbrev pub segments_in_reach : List Layer → Name → List Marked
segments_in_reach layers name = marked_segments (map (λ b. b.1) (filter_map base_of (layers_in_reach layers name)))

-- a name as the number of a base layer or of a definition in reach; among orderly layers each leaf is one of these
abbrev pub source_of : List Name → List Name → Name → Source
source_of bases definitions name = first_of bases 0 where
  among : List Name → ℕ → Source
  among [] k = definition k
  among (d ∷ ds) k = if bytes_eq d name then definition k else among ds (k + 1)

  first_of : List Name → ℕ → Source
  first_of [] k = among definitions 0
  first_of (b ∷ bs) k = if bytes_eq b name then base_bit k else first_of bs (k + 1)

-- the definitions in reach, each name replaced by its number; of a derived layer among orderly ones its own is the last
abbrev pub steps_in_reach : List Layer → Name → Steps
steps_in_reach layers name =
    let bases = filter_map base_of (layers_in_reach layers name) in
    let definitions = filter_map derived_of (layers_in_reach layers name) in
    record { bases = length bases; definitions = map (λ d. relabel (source_of (map (λ b. b.0) bases) (map (λ e. e.0) definitions)) d.1) definitions }

-- in, out, or edge: off the edges the first two are interior and exterior (ISO 19125-1:2004, 6.1.14.2) of valid layers;
-- edge is any point on a segment of a base layer in reach
pub data Location : Type 0 where
  inside : Location
  outside : Location
  edge : Location

-- the answer for a layer at a point: on an edge where a segment in reach holds it, else by the value
abbrev pub answer_at : List Layer → Name → Point → Location
answer_at layers name p =
    if list_any (λ m. is_on m.segment p) (segments_in_reach layers name) then edge else (if value_of layers name p then inside else outside)
