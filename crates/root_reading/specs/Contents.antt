-- What is read of the layers of a file, from one to the next.
use Rattle.std.specs.Prelude.{◌≡◌, ℕ, List, ◌∷◌}
use Rattle.layer_tiles.specs.Table.{tiles_in, Tabled}
use Rattle.store_terms.specs.Catalog.{Listed}
use Rattle.store_terms.specs.Image.{layers_of}
use Rattle.root_reading.specs.declared.load_fault.LoadFault.{LoadFault}
use Rattle.root_reading.specs.Looking.{Refuses}
use Rattle.root_reading.specs.LayerReading.{then_layers}

-- a layer and its tiles are read: whatever is listed after it, reading goes on from there
abbrev pub Adds : List ℕ → Tabled → Tabled → Listed → Type 0
Adds file old new l =
    (rest : List Listed)
    → then_layers (tiles_in old) (layers_of file old.layers (l ∷ rest))
    ≡ then_layers (tiles_in new) (layers_of file new.layers rest)

-- a layer or a tile of it is not read: whatever is listed after it
abbrev pub RefusesLayer : LoadFault → List ℕ → Tabled → Listed → Type 0
RefusesLayer fault file old l =
    (rest : List Listed) → Refuses fault (then_layers (tiles_in old) (layers_of file old.layers (l ∷ rest)))
