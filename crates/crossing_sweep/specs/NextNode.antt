-- The next node after a place: there is one where any node comes after it, and the nodes run out.
use Rattle.std.specs.Prelude.{◌≡◌, ℕ, pos, ◌<◌, ◌<ℤ◌, IsTrue, List, All}
use Rattle.std.specs.declared.cmp.Ordering.TheVariants.{Less}
use Rattle.overlay_terms.specs.Plane.{Point, Segment, point_cmp}
use Rattle.overlay_terms.specs.Tiles.{is_node}
use Rattle.overlay_terms.specs.TileLaws.{IsProper}
use Rattle.crossing_sweep.specs.Leaning.{IsSmall}
use Rattle.crossing_sweep.specs.Status.{NoNodeBetween}

-- r is the next node after q
pub record IsNextNode (segments : List Segment) (q r : Point) : Type 0 where
  pub small : IsSmall r
  pub node : IsTrue (is_node segments r)
  pub after : point_cmp q r ≡ Less
  pub clear : NoNodeBetween segments q r

-- where a node z comes after a place, there is a next one, and it is not after z
abbrev pub EachHasNext : Type 0
EachHasNext =
    (segments : List Segment) (q z : Point) → All IsProper segments → pos 0 <ℤ q.w → pos 0 <ℤ z.w
    → IsTrue (is_node segments z) → point_cmp q z ≡ Less →
    (r : Point) × IsNextNode segments q r × (point_cmp z r ≡ Less → ⊥)

-- places have a number that falls from each place to each node after it
abbrev pub NodesRunOut : Type 0
NodesRunOut =
    (segments : List Segment) → All IsProper segments →
    (rest : Point → ℕ) × ((q r : Point) → pos 0 <ℤ q.w → pos 0 <ℤ r.w → IsTrue (is_node segments r)
    → point_cmp q r ≡ Less → rest r < rest q)
