-- What the layers of a window show of features.
use Rattle.std.specs.Prelude.{◌≡◌, ℕ, pos, ◌<ℤ◌, ◌<◌, ◌==◌, int_lt, Bool, List, [], ◌∷◌, ◌++◌, length, flat_map, if◌then◌else◌}
use Rattle.overlay_terms.specs.Plane.{WholePoint, Point, segments_of}
use Rattle.block_reading.specs.Terms.{Core}
use Rattle.map_window.specs.Window.{Box, Side, left_of, right_of, under, over, IsIn, AreAlike}
use Rattle.feature_windows.specs.Shown.{rings_at}
use Rattle.feature_windows.specs.declared.window.Near.{Near}
use Rattle.feature_windows.specs.declared.sides.CoreSide.{CoreSide}
use Rattle.feature_windows.specs.declared.sides.CoreSide.TheVariants.{Left, Right, Under, Over}

-- the rings of a feature if it counts for a layer; a feature that is not there has none
abbrev pub rings_for : List (List (List WholePoint)) → Near → ℕ → List (List WholePoint)
rings_for features m layer = if m.layer == layer then rings_at m.feature features else []

-- the rings of all features that count for a layer
abbrev pub layer_rings : List (List (List WholePoint)) → List Near → ℕ → List (List WholePoint)
layer_rings features members layer = flat_map (λ m. rings_for features m layer) members

-- rings look like others from within a core: each of its points is inside, even-odd, and on an edge, of both or of neither
pub record LookLike (core : Box) (rings kept : List (List WholePoint)) : Type 0 where
  pub shows : (q : Point) → pos 0 <ℤ q.w → IsIn core q → AreAlike (segments_of kept) q (segments_of rings) q

-- what looks like some rings was added to others
pub record AddsLike (core : Box) (rings old new : List (List WholePoint)) : Type 0 where
  pub more : List (List WholePoint)
  pub added : new ≡ old ++ more
  pub like : LookLike core rings more

-- the corners of a box, and the first one again
abbrev pub corners_of : Box → List WholePoint
corners_of core =
    record { x = core.low_x; y = core.low_y } ∷ record { x = core.high_x; y = core.low_y } ∷ record { x = core.high_x; y = core.high_y }
    ∷ record { x = core.low_x; y = core.high_y } ∷ record { x = core.low_x; y = core.low_y } ∷ []

-- from within a core the first layers look like so many that rings are given for, and the last one is the core's border
pub record HasLayers (core : Box) (count : ℕ) (rings : ℕ → List (List WholePoint)) (layers : List (List (List WholePoint))) : Type 0 where
  pub kept : List (List (List WholePoint))
  pub count_is : length kept ≡ count
  pub each : (k : ℕ) → k < count → LookLike core (rings k) (rings_at k kept)
  pub all : layers ≡ kept ++ (corners_of core ∷ []) ∷ []

-- the side of a box that a name stands for
abbrev pub side_of : CoreSide → Side
side_of Left = left_of
side_of Right = right_of
side_of Under = under
side_of Over = over

-- whether a point lies off a core on that side
abbrev pub lies : Core → CoreSide → WholePoint → Bool
lies core Left p = int_lt p.x core.low_x
lies core Right p = int_lt core.high_x p.x
lies core Under p = int_lt p.y core.low_y
lies core Over p = int_lt core.high_y p.y
