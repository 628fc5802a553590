-- Where the batches of an engine begin, and the layers that they make from there. A single command is a batch of one.
use Rattle.std.specs.Prelude.{ℕ, ◌-◌, List, [], take, fold}
use Rattle.overlay_terms.specs.Layers.{Layer}
use Rattle.overlay_terms.specs.Batches.{Batch, applied_all}

-- from where batches are counted, over crashes: number, layers
pub record Start : Type 0 where
  pub number : ℕ
  pub layers : List Layer

-- a new store begins with nothing
abbrev pub from_nothing : Start
from_nothing = record { number = 0; layers = [] }

-- the layers after batches
abbrev pub layers_from : Start → List Batch → List Layer
layers_from start batches = fold applied_all start.layers batches

-- the first batches, up to the version of this number
abbrev pub up_to : Start → ℕ → List Batch → List Batch
up_to start number batches = take (number - start.number) batches
