-- Asking for the tiles of a layer.
use Rattle.std.specs.Prelude.{ℕ, ◌<◌, not, Option, Some, None, is_some, IsTrue, if◌then◌else◌}
use Rattle.overlay_terms.specs.Column.{column_count}
use Rattle.overlay_terms.specs.Layers.{Name}
use Rattle.overlay_terms.specs.Commands.{stands, stands_as_base}
use Rattle.overlay_terms.specs.Histories.{Version, tile_at}
use Rattle.layer_book.specs.declared.fault.LayerFault.TheVariants.{UnknownLayer, NotDerived}
use Rattle.versions.specs.declared.fault.VersionFault.{VersionFault}
use Rattle.versions.specs.declared.fault.VersionFault.TheVariants.{Layer}

-- why the tiles of a layer cannot be asked for: no layer has the name; it is a base layer
abbrev pub wait_refusal : Version → Name → Option VersionFault
wait_refusal version name =
    if not (stands version.layers name) then Some (Layer UnknownLayer)
    else (if stands_as_base version.layers name then Some (Layer NotDerived) else None)

-- no tile of a layer is pending
abbrev pub IsBuilt : Version → Name → Type 0
IsBuilt version name = (k : ℕ) → k < column_count → IsTrue (is_some (tile_at version.tiles name k))
