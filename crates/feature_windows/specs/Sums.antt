-- What several windows have in all.
use Rattle.std.specs.Prelude.{◌≡◌, ℤ, pos, ◌+ℤ◌, List, [], ◌∷◌}
use Rattle.std.specs.List.{AllZip}
use Rattle.overlay_terms.specs.Trees.{Steps}
use Rattle.feature_windows.specs.Boundary.{IsFoundIn}
use Rattle.feature_windows.specs.declared.found.Found.{Found}
use Rattle.feature_windows.specs.declared.window.Window.{Window}

-- twice several areas in all
abbrev pub twice_in_all : List Found → ℤ
twice_in_all [] = pos 0
twice_in_all (one ∷ others) = one.twice +ℤ twice_in_all others

-- this was found in a window, seen from the place (x, y)
abbrev pub IsOf : Steps → ℤ → ℤ → Window → Found → Type 0
IsOf steps x y window found = IsFoundIn window.core window.layers.items steps x y found

-- something was found in each window, and this has twice the area of all of it
pub record AreFoundIn (windows : List Window) (steps : Steps) (x y : ℤ) (all : Found) : Type 0 where
  pub parts : List Found
  pub each : AllZip (IsOf steps x y) windows parts
  pub twice : all.twice ≡ twice_in_all parts
