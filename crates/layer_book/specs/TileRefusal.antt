-- Why a layer and a column have no tile.
use Rattle.std.specs.Prelude.{ℕ, not, List, Option, Some, None, is_some, if◌then◌else◌}
use Rattle.overlay_terms.specs.Layers.{Name, Layer}
use Rattle.overlay_terms.specs.Commands.{stands, stands_as_base}
use Rattle.layer_book.specs.declared.fault.LayerFault.{LayerFault}
use Rattle.layer_book.specs.declared.fault.LayerFault.TheVariants.{UnknownLayer, NotDerived, BadColumn}

-- the first reason why there is no tile: no layer has the name; it is a base layer's; there is no such column
abbrev pub tile_refusal : List Layer → Name → Option ℕ → Option LayerFault
tile_refusal layers name column =
    if not (stands layers name) then Some UnknownLayer
    else (if stands_as_base layers name then Some NotDerived
    else (if is_some column then None else Some BadColumn))
