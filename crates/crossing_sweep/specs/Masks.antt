-- What lies under the members of a status: under each, what is up to the one below it.
use Rattle.std.specs.Prelude.{◌≡◌, ℕ, ℤ, ◌+◌, ◌<◌, false, List, length, get_or, map}
use Rattle.overlay_terms.specs.Plane.{Point, Segment}
use Rattle.tile_laws.specs.JustRight.{under_bits, up_to_bits}
use Rattle.crossing_sweep.specs.StripInput.{StripInput, IsStripInput}
use Rattle.crossing_sweep.specs.Leaning.{lean, lean_segment, IsSteep}
use Rattle.crossing_sweep.specs.Sides.{lean_marked}
use Rattle.crossing_sweep.specs.Queue.{IsStatusAt}

-- under the lowest member of a status lies nothing, and under each other one what is up to the one below it
pub record MasksGoUp (n : ℤ) (input : StripInput) (q : Point) (status : List Segment) : Type 0 where
  pub lowest : (d : Segment) (k : ℕ) → 0 < length status
      → under_bits (lean_marked n input.marked) (lean_segment n (get_or status 0 d)) (lean n q) k ≡ false
  pub next : (i : ℕ) (d : Segment) (k : ℕ) → i + 1 < length status
      → under_bits (lean_marked n input.marked) (lean_segment n (get_or status (i + 1) d)) (lean n q) k
      ≡ up_to_bits (lean_marked n input.marked) (lean_segment n (get_or status i d)) (lean n q) k

-- so the bits under each member are known from the one below it
abbrev pub MasksStepUp : Type 0
MasksStepUp =
    (n : ℤ) (input : StripInput) (q : Point) (status : List Segment) → IsSteep n → IsStripInput input
    → IsStatusAt n (map (λ m. m.segment) input.marked) q status →
    MasksGoUp n input q status
