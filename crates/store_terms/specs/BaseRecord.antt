-- How the rings of a base layer are spelled.
use Rattle.std.specs.Prelude.{ℕ, ℤ, List, Option}
use Rattle.std.specs.Option.{is_none}
use Rattle.overlay_terms.specs.Plane.{WholePoint, is_coordinate}
use Rattle.plane_base.specs.BaseLayer.{rings_fault}
use Rattle.store_terms.specs.Fields.{Field, signed, both, made, sieved, counted, all_read}

-- a coordinate has 4 bytes
abbrev pub coordinate : Field ℤ
coordinate = signed is_coordinate

-- x, then y
abbrev pub whole_point : Field WholePoint
whole_point = made (λ p. record { x = p.0; y = p.1 }) (λ p. (p.x, p.y)) (both coordinate coordinate)

-- a ring is written as the number of its points, in 2 bytes, and its points
abbrev pub ring : Field (List WholePoint)
ring = counted 2 whole_point

-- rings that a base layer may have
abbrev pub rings : Field (List (List WholePoint))
rings = sieved (λ rs. is_none (rings_fault rs)) (counted 2 ring)

-- the rings that a base record spells
abbrev pub base_of_record : List ℕ → Option (List (List WholePoint))
base_of_record bytes = all_read rings bytes
