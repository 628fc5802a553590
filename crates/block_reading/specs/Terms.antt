-- What features and jobs are made of.
use Rattle.std.specs.Prelude.{ℕ, ℤ, List}
use Rattle.overlay_terms.specs.Plane.{WholePoint}

-- an upright box, whose borders belong to it
pub record Core : Type 0 where
  pub low_x : ℤ
  pub high_x : ℤ
  pub low_y : ℤ
  pub high_y : ℤ

-- a feature that counts for a layer of a job's expression, both by their numbers
pub record Member : Type 0 where
  pub feature : ℕ
  pub layer : ℕ

-- what a block says of features: how many rings each has, how many points each ring has, and all points
pub record Shapes : Type 0 where
  pub ring_counts : List ℕ
  pub point_counts : List ℕ
  pub points : List WholePoint
