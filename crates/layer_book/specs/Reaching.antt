-- Whether a layer reaches a name, where it is known which earlier ones do.
use Rattle.std.specs.Prelude.{Bool, false, ◌||◌, List, bytes_eq}
use Rattle.std.specs.List.{list_any}
use Rattle.overlay_terms.specs.Layers.{Name, Layer, named}
use Rattle.overlay_terms.specs.Orderly.{used_names}

-- whether a layer has the name, or names one that reaches it, from which earlier layers do
abbrev pub layer_reaches : Name → List (Name × Bool) → Layer → Bool
layer_reaches under known layer = bytes_eq layer.name under || list_any (named false known) (used_names layer.content)
