-- The boundary of an expression over layers drawn within a core, and what it encloses.
use Rattle.std.specs.Prelude.{◌≡◌, ℤ, pos, ◌-ℤ◌, ◌<ℤ◌, List, map, length}
use Rattle.overlay_terms.specs.Plane.{WholePoint, Point, is_inside, segments_of}
use Rattle.overlay_terms.specs.Column.{IsInColumn}
use Rattle.overlay_terms.specs.Layers.{Marked}
use Rattle.overlay_terms.specs.Tiles.{below_bits}
use Rattle.overlay_terms.specs.Trees.{Steps, steps_value}
use Rattle.block_reading.specs.Terms.{Core}
use Rattle.crossing_sweep.specs.StripInput.{Span}
use Rattle.map_window.specs.Window.{IsIn, moved}
use Rattle.near_steps.specs.Cores.{box_of, low_of}
use Rattle.swept_area.specs.Swept.{Sided, swept_area}
use Rattle.swept_area.specs.Pieces.{sided_from}
use Rattle.swept_area.specs.declared.piece.SidedPiece.{SidedPiece}
use Rattle.swept_area.specs.declared.piece.Shift.{Shift}
use Rattle.sided_pieces.specs.Sided.{sided_of, AreSided, IsNearArea}
use Rattle.feature_windows.specs.Shown.{rings_at}
use Rattle.feature_windows.specs.declared.found.Found.{Found}

-- all boundary pieces of an expression over layers, from the left end of the plane to the column of the core's right side, seen
-- from the core's low corner
pub record AreBoundary (core : Core) (layers : List (List (List WholePoint))) (steps : Steps) (pieces : List Sided) : Type 0 where
  pub strip : Span
  pub first : strip.first ≡ 0
  pub last : IsInColumn strip.last (core.high_x -ℤ core.low_x) (pos 1)
  -- they are those of segments
  pub marked : List Marked
  pub sided : AreSided (record { strip = strip; marked = marked; steps = steps }) pieces
  -- each point of the core has the expression over these where it has that over the layers, even-odd
  pub shows : (q : Point) → pos 0 <ℤ q.w → IsIn (box_of core) q
      → steps_value steps (below_bits marked (moved (low_of (box_of core)) q)) ≡ steps_value steps (λ k. is_inside (segments_of (rings_at k layers)) q)

-- what was found is what such pieces enclose, seen from the place (x, y): twice their area in parts, near to the exact one,
-- and how many they are
pub record IsFoundIn (core : Core) (layers : List (List (List WholePoint))) (steps : Steps) (x y : ℤ) (found : Found) : Type 0 where
  pub pieces : List SidedPiece
  pub are : AreBoundary core layers steps (map sided_of pieces)
  pub by : Shift
  pub across : by.x ≡ core.low_x -ℤ x
  pub along : by.y ≡ core.low_y -ℤ y
  pub twice : found.twice ≡ swept_area (map (sided_from by) pieces)
  pub near : IsNearArea (map (sided_from by) pieces) found.twice
  pub count : found.pieces ≡ length pieces
