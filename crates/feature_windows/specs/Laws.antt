-- What windows say of the features of their core, and how they add up to it.
use Rattle.std.specs.Prelude.{◌≡◌, ℕ, pos, ◌-ℤ◌, ◌<ℤ◌, ◌≤ℤ◌, ◌&&◌, ◌==◌, nat_lt, Bool, false, List, [], ◌∷◌, count_by, if◌then◌else◌}
use Rattle.overlay_terms.specs.Plane.{WholePoint, Point, is_inside, segments_of}
use Rattle.overlay_terms.specs.Column.{IsInColumn}
use Rattle.overlay_terms.specs.Layers.{Marked}
use Rattle.overlay_terms.specs.Tiles.{below_bits}
use Rattle.overlay_terms.specs.Trees.{Steps, steps_value}
use Rattle.block_reading.specs.Terms.{Core}
use Rattle.crossing_sweep.specs.StripInput.{Span}
use Rattle.map_window.specs.Window.{Box, IsIn, moved}
use Rattle.near_steps.specs.Cores.{box_of, low_of}
use Rattle.swept_area.specs.Swept.{Sided}
use Rattle.sided_pieces.specs.Sided.{AreSided}
use Rattle.feature_windows.specs.Boundary.{AreBoundary}
use Rattle.feature_windows.specs.Layers.{corners_of, layer_rings}
use Rattle.feature_windows.specs.Parts.{holds}
use Rattle.feature_windows.specs.Windows.{AreWindows, ShowsFeatures}
use Rattle.feature_windows.specs.declared.window.Near.{Near}
use Rattle.feature_windows.specs.declared.window.Window.{Window}

-- what the layers of an expression are at a point: whether it is inside of the features that count for each, even-odd, and last
-- whether a core has it for its own
abbrev pub layer_bits : Box → ℕ → (ℕ → List (List WholePoint)) → Point → ℕ → Bool
layer_bits core count rings q k = if nat_lt k count then is_inside (segments_of (rings k)) q else ((k == count) && holds core q)

-- the border of a core, drawn as a ring, has inside what the core has for its own
abbrev pub BorderIsCore : Type 0
BorderIsCore =
    (core : Box) (q : Point) → core.low_x ≤ℤ core.high_x → core.low_y ≤ℤ core.high_y → pos 0 <ℤ q.w
    → is_inside (segments_of (corners_of core ∷ [])) q ≡ holds core q

-- all boundary pieces of an expression over features within a core
pub record AreOverFeatures (features : List (List (List WholePoint))) (members : List Near) (count : ℕ) (core : Core) (steps : Steps) (pieces : List Sided) : Type 0 where
  pub strip : Span
  pub first : strip.first ≡ 0
  pub last : IsInColumn strip.last (core.high_x -ℤ core.low_x) (pos 1)
  pub marked : List Marked
  pub sided : AreSided (record { strip = strip; marked = marked; steps = steps }) pieces
  -- each point of the core has the expression over these segments where it has that over the features
  pub shows : (q : Point) → pos 0 <ℤ q.w → IsIn (box_of core) q
      → steps_value steps (below_bits marked (moved (low_of (box_of core)) q)) ≡ steps_value steps (layer_bits (box_of core) count (layer_rings features members) q)

-- what is found in a window is of the features, as far as it goes
abbrev pub PiecesAreOfFeatures : Type 0
PiecesAreOfFeatures =
    (features : List (List (List WholePoint))) (members : List Near) (count : ℕ) (window : Window) (steps : Steps) (pieces : List Sided)
    → ShowsFeatures features members count window → AreBoundary window.core window.layers.items steps pieces → AreOverFeatures features members count window.core steps pieces

-- an expression is nowhere where the core's own layer is not
abbrev pub IsWithinCore : Steps → ℕ → Type 0
IsWithinCore steps count = (bits : ℕ → Bool) → bits count ≡ false → steps_value steps bits ≡ false

-- what such an expression has in a core, just one of the windows has, and no window has more: the areas of windows add up to
-- the area of the core, wherever it is cut
abbrev pub WindowsAddUp : Type 0
WindowsAddUp =
    (features : List (List (List WholePoint))) (members : List Near) (count : ℕ) (core : Core) (windows : List Window) (steps : Steps) (q : Point)
    → AreWindows features members count core windows → IsWithinCore steps count → pos 0 <ℤ q.w
    → count_by (λ w. steps_value steps (layer_bits (box_of w.core) count (layer_rings features members) q)) windows
    ≡ (if steps_value steps (layer_bits (box_of core) count (layer_rings features members) q) then 1 else 0)
