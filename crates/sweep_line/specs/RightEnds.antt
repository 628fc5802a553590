-- The right ends of the pieces over an x.
use Rattle.std.specs.Prelude.{◌≡◌, ◌-◌, ◌*ℤ◌, int_lt, Bool, false, List, [], ◌∷◌, ◌++◌, length, take}
use Rattle.std.specs.List.{AllPairs}
use Rattle.overlay_terms.specs.Plane.{Point}
use Rattle.exact_point.specs.Place.{place}
use Rattle.exact_point.specs.declared.point.HPoint.{HPoint}

-- a right end lies right of a point, by x
abbrev pub lies_right : Point → HPoint → Bool
lies_right q v = int_lt (q.x *ℤ (place v).w) ((place v).x *ℤ q.w)

-- none lies right of an earlier one
abbrev pub AreLeftmostLast : List HPoint → Type 0
AreLeftmostLast ends = AllPairs (λ v u. lies_right (place v) u ≡ false) ends

-- the last of some
abbrev pub IsLast : List HPoint → HPoint → Type 0
IsLast ends v = take (length ends - 1) ends ++ v ∷ [] ≡ ends
