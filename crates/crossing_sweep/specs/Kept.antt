-- What is up to a stretch just after the last node on it stays so until the next one.
use Rattle.std.specs.Prelude.{◌≡◌, ℕ, ℤ, pos, ◌<ℤ◌, IsTrue, map}
use Rattle.std.specs.declared.cmp.Ordering.TheVariants.{Less}
use Rattle.overlay_terms.specs.Plane.{Point, Segment, whole, point_cmp, is_on}
use Rattle.overlay_terms.specs.Tiles.{is_node}
use Rattle.tile_laws.specs.JustRight.{under_bits, up_to_bits}
use Rattle.crossing_sweep.specs.StripInput.{StripInput, IsStripInput, is_in_strip}
use Rattle.crossing_sweep.specs.Leaning.{lean, lean_segment, IsSteep, IsSmall}
use Rattle.crossing_sweep.specs.Status.{IsStretchOf}
use Rattle.crossing_sweep.specs.Sides.{lean_marked, IsNodal}
use Rattle.crossing_sweep.specs.Queue.{GoesOn}

-- the last node on a stretch that goes on after a place q of the strip: it lies in the strip and not after q, with none
-- after it on the stretch up to q
pub record IsLastOn (input : StripInput) (u : Segment) (p q : Point) : Type 0 where
  pub nodal : IsNodal p
  pub on : IsTrue (is_on u p)
  pub node : IsTrue (is_node (map (λ m. m.segment) input.marked) p)
  pub within : IsTrue (is_in_strip input.strip p)
  pub from : point_cmp q p ≡ Less → ⊥
  pub last : (z : Point) → pos 0 <ℤ z.w → IsTrue (is_on u z) → IsTrue (is_node (map (λ m. m.segment) input.marked) z)
      → point_cmp p z ≡ Less → (point_cmp q z ≡ Less → ⊥) → ⊥

-- what lies under the stretch and up to it just after that node lies so just after q
abbrev pub MasksAreKept : Type 0
MasksAreKept =
    (n : ℤ) (input : StripInput) (u : Segment) (p q : Point) (k : ℕ) → IsSteep n → IsStripInput input
    → IsStretchOf (map (λ m. m.segment) input.marked) u → GoesOn u q → IsSmall q →
    IsTrue (is_in_strip input.strip q) → IsLastOn input u p q
    → IsTrue (is_node (map (λ m. m.segment) input.marked) (whole u.right)) →
    (under_bits (lean_marked n input.marked) (lean_segment n u) (lean n p) k
    ≡ under_bits (lean_marked n input.marked) (lean_segment n u) (lean n q) k)
    × (up_to_bits (lean_marked n input.marked) (lean_segment n u) (lean n p) k
    ≡ up_to_bits (lean_marked n input.marked) (lean_segment n u) (lean n q) k)
