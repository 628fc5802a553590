-- Layers as commands leave them: no name twice, and each definition over earlier layers alone.
use Rattle.std.specs.Prelude.{Bool, true, not, ◌&&◌, IsTrue, List, [], ◌∷◌, ◌++◌, bytes_eq}
use Rattle.std.specs.List.{list_any, list_all}
use Rattle.overlay_terms.specs.Trees.{leaves}
use Rattle.overlay_terms.specs.Layers.{Name, Content, base, derived, Layer}

-- the names that a layer's definition names
abbrev pub used_names : Content → List Name
used_names (base rings) = []
used_names (derived expression) = leaves expression

-- whether a name is among some names
abbrev pub is_among : List Name → Name → Bool
is_among names name = list_any (λ other. bytes_eq other name) names

-- layers that come after layers of the given names: each has a name of its own and names only those before it
abbrev pub is_orderly_after : List Name → List Layer → Bool
is_orderly_after known [] = true
is_orderly_after known (layer ∷ layers) =
    not (is_among known layer.name) && list_all (is_among known) (used_names layer.content) && is_orderly_after (known ++ layer.name ∷ []) layers

-- layers with nothing before them: each has a name of its own and names only earlier ones
abbrev pub IsOrderly : List Layer → Type 0
IsOrderly layers = IsTrue (is_orderly_after [] layers)
