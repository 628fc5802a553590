-- Layers in order.
use Rattle.std.specs.Prelude.{Bool, not, ◌&&◌, List, map}
use Rattle.std.specs.List.{list_all}
use Rattle.overlay_terms.specs.Layers.{Name}
use Rattle.overlay_terms.specs.Orderly.{is_among}
use Rattle.layer_expr.specs.StepList.{Reached, names_in}

-- the names of layers
abbrev pub names_of : List Reached → List Name
names_of layers = map (λ layer. layer.0) layers

-- whether a layer has another name than those known, and names known ones alone
abbrev pub goes_after : List Name → Reached → Bool
goes_after known layer = not (is_among known layer.0) && list_all (is_among known) (names_in layer.1)
