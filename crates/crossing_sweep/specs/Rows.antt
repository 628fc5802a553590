-- What a pass carries along from node to node, and the rows that it makes: the pieces of the boundary
-- that it has come to the end of.
use Rattle.std.specs.Prelude.{◌≡◌, ℕ, ℤ, pos, ◌+◌, ◌<◌, [], ◌∷◌, ◌≤ℤ◌, ◌<ℤ◌, ◌*ℤ◌, nat_lt}
use Rattle.std.specs.Prelude.{Bool, not, ◌==◌, ◌&&◌, if◌then◌else◌, IsTrue, List, map, filter}
use Rattle.std.specs.Prelude.{count_by, length, get_or, All, AllPairs, Any, Contains}
use Rattle.std.specs.Int.RustNames.{bit_xor}
use Rattle.std.specs.List.Sorted.{IsPermutation, IsSortedByKey}
use Rattle.std.specs.Ordering.{nat_cmp, ordering_then}
use Rattle.std.specs.declared.cmp.Ordering.{Ordering}
use Rattle.std.specs.declared.cmp.Ordering.TheVariants.{Less}
use Rattle.overlay_terms.specs.Plane.{Point, Segment, point_cmp, same_place, is_on}
use Rattle.overlay_terms.specs.Column.{border}
use Rattle.overlay_terms.specs.Layers.{layers_max}
use Rattle.overlay_terms.specs.Trees.{Steps, steps_value, mask_bits}
use Rattle.overlay_terms.specs.Tiles.{is_node, over_of}
use Rattle.arrange.specs.declared.unit.Unit as units
use Rattle.tile_laws.specs.JustRight.{under_bits, up_to_bits}
use Rattle.crossing_sweep.specs.StripInput.{StripInput, IsStripBoundary, is_in_strip, segments_in, Span}
use Rattle.crossing_sweep.specs.Leaning.{lean, lean_segment, IsSmall}
use Rattle.crossing_sweep.specs.Sides.{lean_marked, IsNodal}
use Rattle.crossing_sweep.specs.Queue.{IsUpTo, IsQueued}
use Rattle.crossing_sweep.specs.Kept.{IsLastOn}
use Rattle.crossing_sweep.specs.Member.{seg_of}
use Rattle.crossing_sweep.specs.declared.member.Member.{Member}
use Rattle.crossing_sweep.specs.declared.row.Row.{Row}

-- ---- places passed
-- the places of all nodes of a closed strip up to a place, in order
pub record ArePassed (segments : List Segment) (strip : Span) (q : Point) (passed : List Point) : Type 0 where
  pub ordered : AllPairs (λ a b. point_cmp a b ≡ Less) passed
  pub small : All IsSmall passed
  pub nodes : All (λ z. IsTrue (is_node segments z)) passed
  pub from : All (λ z. (border strip.first *ℤ z.w) ≤ℤ z.x) passed
  pub within : All (IsUpTo strip) passed
  pub up_to : All (λ z. point_cmp q z ≡ Less → ⊥) passed
  pub complete : (p : Point) → pos 0 <ℤ p.w → IsTrue (is_node segments p) → (border strip.first *ℤ p.w) ≤ℤ p.x
      → IsUpTo strip p → (point_cmp q p ≡ Less → ⊥) → IsQueued passed p

-- the place with a number among those passed
abbrev pub place_at : List Point → ℕ → Point
place_at passed number = get_or passed number (record { x = pos 0; y = pos 0; w = pos 0 })

-- ---- what a member carries
-- whether one holds and the other does not
abbrev pub is_one_of : Bool → Bool → Bool
is_one_of a b = if a then not b else b

-- a mask has the bits of the base layers
abbrev pub HasBits : ℕ → (ℕ → Bool) → Type 0
HasBits mask bits = (k : ℕ) → k < layers_max → mask_bits mask k ≡ bits k

-- the bits of a mask, of the base layers alone
abbrev pub layer_bits : ℕ → ℕ → Bool
layer_bits mask k = nat_lt k layers_max && mask_bits mask k

-- what lies under a unit just after a place
abbrev pub under_unit : ℤ → StripInput → Segment → Point → ℕ → Bool
under_unit n input u p = under_bits (lean_marked n input.marked) (lean_segment n u) (lean n p)

-- what lies up to it
abbrev pub up_to_unit : ℤ → StripInput → Segment → Point → ℕ → Bool
up_to_unit n input u p = up_to_bits (lean_marked n input.marked) (lean_segment n u) (lean n p)

-- whether the steps differ under a unit and over it just after a place
abbrev pub sides_differ : ℤ → StripInput → Segment → Point → Bool
sides_differ n input u p =
    is_one_of (steps_value input.steps (under_unit n input u p)) (steps_value input.steps (up_to_unit n input u p))

-- what a member carries after a place q from the place p on its unit where it begins. In the strip, p is the last node
-- on the unit, the mask is what lies up to it just after p, and it differs where the steps do there; on the strip's
-- right border it begins no piece of the strip. The value is what the steps are over the mask
pub record IsCarriedFrom (n : ℤ) (input : StripInput) (p q : Point) (m : Member) : Type 0 where
  pub on : IsTrue (is_on (seg_of m) p)
  pub last : IsTrue (is_in_strip input.strip p) → IsLastOn input (seg_of m) p q
  pub over : IsTrue (is_in_strip input.strip p) → HasBits m.over (up_to_unit n input (seg_of m) p)
  pub value : m.value ≡ steps_value input.steps (layer_bits m.over)
  pub differs : m.differs ≡ (is_in_strip input.strip p && sides_differ n input (seg_of m) p)

-- so it is with a member that begins at one of the places passed
pub record IsCarried (n : ℤ) (input : StripInput) (passed : List Point) (q : Point) (m : Member) : Type 0 where
  pub known : m.begin < length passed
  pub carried : IsCarriedFrom n input (place_at passed m.begin) q m

-- ---- rows
-- the places of the ends of a row
abbrev pub row_ends : List Point → Row → Point × Point
row_ends passed row = (place_at passed row.first, place_at passed row.last)

-- a row is a piece of the boundary in the strip between two of the places passed, both on its support, and says what the
-- layer is just over it, or left of a vertical one
pub record IsRow (input : StripInput) (passed : List Point) (row : Row) : Type 0 where
  pub from_known : row.first < length passed
  pub to_known : row.last < length passed
  pub from_on : IsTrue (is_on row.support (place_at passed row.first))
  pub to_on : IsTrue (is_on row.support (place_at passed row.last))
  pub boundary : IsStripBoundary input.marked input.steps input.strip (place_at passed row.first)
      (place_at passed row.last)
  pub side : row.over ≡ over_of input.marked input.steps (place_at passed row.first) (place_at passed row.last)

-- the rows of a pass that has come to a place: the pieces of the boundary in the strip that
-- end there or before it, each once
pub record AreRows (input : StripInput) (passed : List Point) (q : Point) (rows : List Row) : Type 0 where
  pub sound : All (IsRow input passed) rows
  pub once : AllPairs (λ a b. a.first ≡ b.first → a.last ≡ b.last → ⊥) rows
  pub complete : (p r : Point) → IsStripBoundary input.marked input.steps input.strip p r → (point_cmp q r ≡ Less → ⊥)
      → Any (λ row. IsTrue (same_place p (place_at passed row.first) && same_place r (place_at passed row.last))) rows

-- how many of some rows end before the last of so many nodes
abbrev pub count_settled : ℕ → List Row → ℕ
count_settled nodes rows = count_by (λ row. nat_lt (row.last + 1) nodes) rows

-- by the number of the left end, then of the right end
abbrev pub number_cmp : ℕ × ℕ → ℕ × ℕ → Ordering
number_cmp a b = ordering_then (nat_cmp a.0 b.0) (nat_cmp a.1 b.1)

-- the numbers of the ends of a row
abbrev pub row_numbers : Row → ℕ × ℕ
row_numbers row = (row.first, row.last)

-- some rows put in the order of these numbers
pub record AreSorted (rows sorted : List Row) : Type 0 where
  pub moved : IsPermutation rows sorted
  pub in_order : IsSortedByKey row_numbers number_cmp sorted

-- whether a place has a row: a row ends after node 0, a vacant one at node 0
abbrev pub is_taken : Row → Bool
is_taken row = not (row.last == 0)

-- ---- one step
-- the row that a member makes where its piece ends, at the node with a number
abbrev pub row_to : ℕ → Member → Row
row_to end m = record { support = m.unit.seg; first = m.begin; last = end; over = m.value }

-- the rows of a bundle: of the members that differ
abbrev pub rows_of : ℕ → List Member → List Row
rows_of end bundle = map (row_to end) (filter (λ m. m.differs) bundle)

-- what holds over the highest of some members, or else what lies under all of them
abbrev pub mask_over : ℕ → List Member → ℕ
mask_over under [] = under
mask_over under (m ∷ ms) = mask_over m.over ms

-- what the steps are over a mask, whatever lies beyond the base layers
abbrev pub HasValue : Steps → ℕ → Bool → Type 0
HasValue steps mask value = (bits : ℕ → Bool) → HasBits mask bits → value ≡ steps_value steps bits

-- a member begins at the node with a number, within the strip or not, over what a mask says: its own mask changes that,
-- its value is what the steps are over the mask, and it differs where the steps do
pub record IsBegun (steps : Steps) (under : ℕ) (begin : ℕ) (within : Bool) (m : Member) : Type 0 where
  pub begins : m.begin ≡ begin
  pub over : m.over ≡ bit_xor under m.unit.mask
  pub value : m.value ≡ steps_value steps (layer_bits m.over)
  pub differs : (low high : ℕ → Bool) → HasBits under low → HasBits m.over high
      → m.differs ≡ (within && is_one_of (steps_value steps low) (steps_value steps high))

-- so do all members of a bundle, each over the one below it
abbrev pub AreBegun : Steps → ℕ → ℕ → Bool → List Member → Type 0
AreBegun steps under begin within [] = Unit {0}
AreBegun steps under begin within (m ∷ ms) = IsBegun steps under begin within m × AreBegun steps m.over begin within ms

-- at a node r after the places passed, the pieces of some members begin, each with its mask over
-- those of the members under the node
pub record BeginAt (input : StripInput) (units : List units.Unit) (r : Point) (passed : List Point)
    (under stay : List Member) (end : ℕ) : Type 0 where
  pub number : end ≡ length passed
  pub nodal : IsNodal r
  pub among : All (λ m. Contains units m.unit) stay
  pub begun : AreBegun input.steps (mask_over 0 under) end (is_in_strip input.strip r) stay

-- ---- the whole
-- what a pass has when it has come to a place: the places passed, what the entered members carry, and the rows
pub record Carries (n : ℤ) (input : StripInput) (q : Point) (passed : List Point) (entered : List Member)
    (rows : List Row) : Type 0 where
  pub passes : ArePassed (segments_in input) input.strip q passed
  pub members : All (IsCarried n input passed q) entered
  pub are_rows : AreRows input passed q rows
