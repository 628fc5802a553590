-- Labels: which base layers are under a piece and over it.
use Rattle.std.specs.Prelude.{◌≡◌, ℕ, ◌<◌, List, map, All}
use Rattle.overlay_terms.specs.Layers.{layers_max}
use Rattle.overlay_terms.specs.Trees.{mask_bits}
use Rattle.overlay_terms.specs.Tiles.{Input, midpoint, below_bits, over_bits}
use Rattle.exact_point.specs.PlaceOf.{place_of}
use Rattle.arrange.specs.declared.piece.Elementary.{Elementary}
use Rattle.sweep_line.specs.declared.labelled.Labelled.{Labelled}

-- the masks of a piece are its sides by counting, at its middle
pub record IsLabelled (input : Input) (l : Labelled) : Type 0 where
  pub under : (k : ℕ) → k < layers_max
      → mask_bits l.under k ≡ below_bits input.marked (midpoint (place_of l.piece.from) (place_of l.piece.to)) k
  pub over : (k : ℕ) → k < layers_max
      → mask_bits l.over k ≡ over_bits input.marked (midpoint (place_of l.piece.from) (place_of l.piece.to)) k

-- the pieces in order, each with its sides
pub record AreLabels (input : Input) (list : List Elementary) (labels : List Labelled) : Type 0 where
  pub pieces : map (λ (l : Labelled). l.piece) labels ≡ list
  pub sides : All (IsLabelled input) labels
