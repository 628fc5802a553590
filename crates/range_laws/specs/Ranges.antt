-- The range of coordinates, and what texts of rings spell.
use Rattle.std.specs.Prelude.{◌≡◌, ◌↔◌, ℕ, ℤ, pos, IsTrue, List, None, All}
use Rattle.overlay_terms.specs.Plane.{WholePoint, InRange, is_coordinate}
use Rattle.overlay_terms.specs.InputLaws.{IsRing}
use Rattle.plane_base.specs.BaseLayer.{rings_fault}
use Rattle.exact_point.specs.Query.{IsQuery}
use Rattle.wkt_form.specs.Grammar.{ReadsAs}

-- a whole point may be asked about exactly where both its coordinates are in range
abbrev pub AsksInRange : Type 0
AsksInRange = (x y : ℤ) → IsQuery x y (pos 1) ↔ (InRange x × InRange y)

-- there is one range: the test of a coordinate is true of just the numbers in range, and so many may be asked about
pub record OneRange : Type 0 where
  pub coordinates : (z : ℤ) → IsTrue (is_coordinate z) ↔ InRange z
  pub queries : AsksInRange

-- rings that are closed and in range, and have no fault of a base layer's rings
abbrev pub AreRings : List (List WholePoint) → Type 0
AreRings layer = All IsRing layer × (rings_fault layer ≡ None)

-- rings are spelled by a text exactly where they are such rings
abbrev pub TextsSpellRings : Type 0
TextsSpellRings = (layer : List (List WholePoint)) → ((bytes : List ℕ) × ReadsAs bytes layer) ↔ AreRings layer
