-- The last node on a stretch, as a sweep goes from node to node.
use Rattle.std.specs.Prelude.{◌≡◌, pos, ◌<ℤ◌, IsTrue, map}
use Rattle.overlay_terms.specs.Plane.{Point, Segment, height_over, is_on}
use Rattle.overlay_terms.specs.Tiles.{is_node}
use Rattle.crossing_sweep.specs.StripInput.{StripInput, is_in_strip}
use Rattle.crossing_sweep.specs.NextNode.{IsNextNode}
use Rattle.crossing_sweep.specs.Sides.{IsNodal}
use Rattle.crossing_sweep.specs.Kept.{IsLastOn}

-- what does not hold the next node keeps its last one
abbrev pub LastNodeStays : Type 0
LastNodeStays =
    (input : StripInput) (u : Segment) (p q r : Point) → pos 0 <ℤ q.w → IsLastOn input u p q
    → IsNextNode (map (λ m. m.segment) input.marked) q r →
    (height_over u r ≡ pos 0 → ⊥) → IsLastOn input u p r

-- what holds a node of the strip has it for its last one
abbrev pub LastNodeIsNew : Type 0
LastNodeIsNew =
    (input : StripInput) (u : Segment) (r : Point) → IsNodal r → IsTrue (is_node (map (λ m. m.segment) input.marked) r)
    → IsTrue (is_in_strip input.strip r) → IsTrue (is_on u r) →
    IsLastOn input u r r
