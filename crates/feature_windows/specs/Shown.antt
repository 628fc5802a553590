-- What segments with layers show of layers of rings within a core.
use Rattle.std.specs.Prelude.{◌≡◌, ℕ, zero, suc, pos, ◌<ℤ◌, ◌<◌, List, [], ◌∷◌, length, All}
use Rattle.overlay_terms.specs.Plane.{WholePoint, Point, is_inside, segments_of}
use Rattle.overlay_terms.specs.Layers.{Marked}
use Rattle.overlay_terms.specs.Tiles.{below_bits}
use Rattle.overlay_terms.specs.TileLaws.{AreClosed}
use Rattle.overlay_terms.specs.InputLaws.{IsClosed}
use Rattle.arrange.specs.declared.marked_seg.MarkedSeg.{MarkedSeg}
use Rattle.map_window.specs.Window.{Box, IsIn, moved}
use Rattle.near_steps.specs.Cores.{low_of}
use Rattle.near_steps.specs.Drawn.{HasDrawn}

-- the rings of the layer with a number; none of one that is not there
abbrev pub rings_at : ℕ → List (List (List WholePoint)) → List (List WholePoint)
rings_at k [] = []
rings_at zero (rings ∷ layers) = rings
rings_at (suc k) (rings ∷ layers) = rings_at k layers

-- a layer of closed rings was drawn after what was there
pub record HasLayer (core : Box) (layer : ℕ) (rings : List (List WholePoint)) (old new : List MarkedSeg) : Type 0 where
  pub closed : All IsClosed rings
  pub drawn : HasDrawn core layer rings old new

-- segments show layers within a core, seen from its low corner, and a pass may take them
pub record AreShown (core : Box) (layers : List (List (List WholePoint))) (marked : List Marked) : Type 0 where
  -- each point of the core is inside of each layer, even-odd, where the layer's segments below it are odd
  pub shows : (q : Point) → pos 0 <ℤ q.w → IsIn core q → (k : ℕ) → below_bits marked (moved (low_of core) q) k ≡ is_inside (segments_of (rings_at k layers)) q
  pub closed : AreClosed marked
  pub known : All (λ m. m.layer < length layers) marked
