-- A stretch that the next node closes: a piece from the last node on it, whose sides are what lies
-- under the stretch and up to it.
use Rattle.std.specs.Prelude.{◌≡◌, ℕ, ℤ, pos, ◌<ℤ◌, IsTrue, map}
use Rattle.overlay_terms.specs.Plane.{Point, Segment, whole, height_over}
use Rattle.overlay_terms.specs.Tiles.{is_node, IsPiece, midpoint, below_bits, over_bits}
use Rattle.tile_laws.specs.JustRight.{under_bits, up_to_bits}
use Rattle.crossing_sweep.specs.StripInput.{StripInput, IsStripInput}
use Rattle.crossing_sweep.specs.Leaning.{lean, lean_segment, IsSteep}
use Rattle.crossing_sweep.specs.Status.{IsStretchOf}
use Rattle.crossing_sweep.specs.NextNode.{IsNextNode}
use Rattle.crossing_sweep.specs.Sides.{lean_marked, IsNodal}
use Rattle.crossing_sweep.specs.Queue.{GoesOn}
use Rattle.crossing_sweep.specs.Kept.{IsLastOn}

-- a piece from p to r whose sides are what lies under the stretch u and up to it just after p
pub record IsPieceWithSides (n : ℤ) (input : StripInput) (u : Segment) (p r : Point) : Type 0 where
  pub piece : IsPiece (map (λ m. m.segment) input.marked) p r
  pub under : (k : ℕ) → below_bits input.marked (midpoint p r) k
      ≡ under_bits (lean_marked n input.marked) (lean_segment n u) (lean n p) k
  pub over : (k : ℕ) → over_bits input.marked (midpoint p r) k
      ≡ up_to_bits (lean_marked n input.marked) (lean_segment n u) (lean n p) k

-- each stretch that holds the next node is a piece from the last node on it
abbrev pub StretchIsClosed : Type 0
StretchIsClosed =
    (n : ℤ) (input : StripInput) (u : Segment) (p q r : Point) → IsSteep n → IsStripInput input
    → IsStretchOf (map (λ m. m.segment) input.marked) u → GoesOn u q →
    IsLastOn input u p q → IsNextNode (map (λ m. m.segment) input.marked) q r → IsNodal r → pos 0 <ℤ q.w
    → height_over u r ≡ pos 0 → IsTrue (is_node (map (λ m. m.segment) input.marked) (whole u.right)) →
    IsPieceWithSides n input u p r
