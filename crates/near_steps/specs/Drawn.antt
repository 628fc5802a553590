-- What is drawn of rings within a core: segments of the plane that has the core's low corner as its origin.
use Rattle.std.specs.Prelude.{◌≡◌, ℕ, pos, ◌%◌, ◌-ℤ◌, ◌<ℤ◌, ◌++◌, Bool, true, false, List, [], ◌∷◌, map, flat_map, All}
use Rattle.std.specs.List.{list_all}
use Rattle.overlay_terms.specs.Plane.{WholePoint, Point, Segment, is_closed, ring_segments, segments_of}
use Rattle.overlay_terms.specs.TileLaws.{IsProper}
use Rattle.overlay_terms.specs.InputLaws.{segment_ends_at}
use Rattle.arrange.specs.declared.marked_seg.MarkedSeg.{MarkedSeg}
use Rattle.map_window.specs.Window.{Box, Side, IsIn, IsOff, Lies, StaysWithin, moved, AreAlike}
use Rattle.map_window.specs.Drawn.{are_short, placed}
use Rattle.near_steps.specs.Cores.{low_of, plane_of}
use Rattle.near_steps.specs.Thinned.{rest_of, sides_of, thinned}
use Rattle.near_steps.specs.declared.drawing.Drawing.{Drawing}
use Rattle.near_steps.specs.declared.step.Step.{Step}
use Rattle.near_steps.specs.declared.drawing.Drawing.TheVariants.{Whole, StepTooLong}

-- whether each step of some rings may be drawn: it lies off the core on one side, or both its ends in the plane
abbrev pub are_drawable : Box → List (List WholePoint) → Bool
are_drawable core rings = list_all (are_short core (plane_of core)) rings

-- the answer where all steps may be drawn, and where not
abbrev pub drawing_of : Bool → Drawing
drawing_of true = Whole
drawing_of false = StepTooLong

-- the last point of a ring is its first
abbrev pub IsClosed : List WholePoint → Type 0
IsClosed ring = is_closed ring ≡ true

-- a ring lies off the core, on one side
pub record LiesOff (core : Box) (ring : List WholePoint) : Type 0 where
  pub side : Side
  pub points : All (Lies core side) ring

-- each whole point is an end of an even number of segments
abbrev pub AreEven : List Segment → Type 0
AreEven segments = (v : WholePoint) → segment_ends_at segments v % 2 ≡ 0

-- segments are drawn of rings
pub record AreDrawn (core : Box) (rings : List (List WholePoint)) (segments : List Segment) : Type 0 where
  -- each point of the core is inside, and on an edge, of both or of neither
  pub shows : (q : Point) → pos 0 <ℤ q.w → IsIn core q → AreAlike segments (moved (low_of core) q) (segments_of rings) q
  -- where no point of closed rings lies off the core on one side, nothing is seen from off it on that side
  pub beyond : (side : Side) (q : Point) → pos 0 <ℤ q.w → All IsClosed rings → All (All (StaysWithin core side)) rings → IsOff core side q
      → AreAlike segments (moved (low_of core) q) [] (moved (low_of core) q)
  -- of closed rings that each lie off the core on one side there are none
  pub off : All IsClosed rings → All (LiesOff core) rings → segments ≡ []
  -- each has its left end first, and its ends lie in the plane
  pub proper : All IsProper segments
  -- of closed rings each whole point is an end of an even number of them
  pub even : All IsClosed rings → AreEven segments

-- segments with a layer
abbrev pub marks : ℕ → List Segment → List MarkedSeg
marks layer segments = map (λ s. record { layer = layer; seg = s }) segments

-- what is drawn of rings was added at the end, with a layer
pub record HasDrawn (core : Box) (layer : ℕ) (rings : List (List WholePoint)) (old new : List MarkedSeg) : Type 0 where
  pub segments : List Segment
  pub are : AreDrawn core rings segments
  pub added : new ≡ old ++ marks layer segments

-- nothing was taken away, and what was added is at the end
pub record HasMore (old new : List MarkedSeg) : Type 0 where
  pub more : List MarkedSeg
  pub added : new ≡ old ++ more

-- the corners of a core, seen from its low one, which comes again at the end
abbrev pub border_of : Box → List WholePoint
border_of core =
    let wide = core.high_x -ℤ core.low_x in
    let high = core.high_y -ℤ core.low_y in
    record { x = pos 0; y = pos 0 } ∷ record { x = wide; y = pos 0 } ∷ record { x = wide; y = high } ∷ record { x = pos 0; y = high }
    ∷ record { x = pos 0; y = pos 0 } ∷ []

-- the border of a core as segments that a pass may take
pub record IsBorder (core : Box) : Type 0 where
  pub proper : All IsProper (ring_segments (border_of core))
  pub even : AreEven (ring_segments (border_of core))

-- the segments of a line in the plane: clamped into it, seen from the core's low corner
abbrev pub line_drawn : Box → List WholePoint → List Segment
line_drawn core line = ring_segments (map (placed (plane_of core) (low_of core)) line)

-- the segments that are drawn of rings
abbrev pub drawn : Box → List (List WholePoint) → List Segment
drawn core rings = flat_map (λ ring. line_drawn core (thinned core ring)) rings

-- what is left of a line that goes on after a step
abbrev pub line_from : Box → Step → List WholePoint → List WholePoint
line_from core step rest = step.from.at ∷ rest_of core step.from.at step.to.at rest

-- what was added, with what is still drawn of a line that goes on after a step
abbrev pub all_drawn : Box → ℕ → List MarkedSeg → Step → List WholePoint → List MarkedSeg
all_drawn core layer added step rest = added ++ marks layer (line_drawn core (line_from core step rest))

-- whether the steps of such a line may be drawn
abbrev pub is_line_short : Box → Step → List WholePoint → Bool
is_line_short core step rest = are_short core (plane_of core) (step.from.at ∷ step.to.at ∷ rest)

-- a step knows off which sides of the core its ends lie
pub record IsSided (core : Box) (step : Step) : Type 0 where
  pub from : step.from.off ≡ sides_of core step.from.at
  pub to : step.to.off ≡ sides_of core step.to.at

-- after one more point of a line: what is drawn of it in all stays the same, and whether its steps may be drawn
pub record GoesOn (core : Box) (layer : ℕ) (old new : List MarkedSeg) (before after : Step) (p : WholePoint) (drawing : Drawing) : Type 0 where
  pub drawn : drawing ≡ Whole → (rest : List WholePoint) → all_drawn core layer new after rest ≡ all_drawn core layer old before (p ∷ rest)
  pub short : drawing ≡ Whole → (rest : List WholePoint) → is_line_short core after rest ≡ is_line_short core before (p ∷ rest)
  pub long : drawing ≡ StepTooLong → (rest : List WholePoint) → is_line_short core before (p ∷ rest) ≡ false
