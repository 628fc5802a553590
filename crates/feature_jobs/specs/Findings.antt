-- What was found of an expression over features, in windows of a core.
use Rattle.std.specs.Prelude.{ℕ, List, [], All}
use Rattle.overlay_terms.specs.Plane.{WholePoint}
use Rattle.overlay_terms.specs.Trees.{Steps}
use Rattle.block_reading.specs.Terms.{Core}
use Rattle.feature_windows.specs.Boundary.{AreBoundary}
use Rattle.feature_windows.specs.Sums.{AreFoundIn}
use Rattle.feature_windows.specs.Windows.{AreWindows}
use Rattle.feature_windows.specs.declared.found.Found.{Found}
use Rattle.feature_windows.specs.declared.window.Near.{Near}
use Rattle.feature_windows.specs.declared.window.Window.{Window}

-- this was found of an expression over so many layers and the core's own, in windows that make up a core and show the features
-- that count for these layers, seen from the core's low corner
pub record IsFoundOf (features : List (List (List WholePoint))) (members : List Near) (count : ℕ) (core : Core) (steps : Steps) (found : Found) : Type 0 where
  pub windows : List Window
  pub are : AreWindows features members count core windows
  pub in_all : AreFoundIn windows steps core.low_x core.low_y found

-- a window has no boundary of an expression
abbrev pub HasNoPiece : Steps → Window → Type 0
HasNoPiece steps window = AreBoundary window.core window.layers.items steps []

-- no boundary of an expression was found in such windows
pub record HasNone (features : List (List (List WholePoint))) (members : List Near) (count : ℕ) (core : Core) (steps : Steps) : Type 0 where
  pub windows : List Window
  pub are : AreWindows features members count core windows
  pub none : All (HasNoPiece steps) windows
