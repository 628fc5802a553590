-- What a commit of a version writes.
use Rattle.overlay_terms.specs.Histories.{Version}
use Rattle.store_terms.specs.Image.{Held}

-- a version as a store holds it
abbrev pub version_held : Version → Held
version_held version = record { number = version.number; layers = version.layers; tiles = version.tiles }
