-- The one text that is written for the rings of a base layer.
use Rattle.std.specs.Prelude.{ℕ, ◌==◌, List, [], ◌∷◌, ◌++◌, map, codes, if◌then◌else◌}
use Rattle.std.specs.Fmt.{signed_decimal}
use Rattle.overlay_terms.specs.Plane.{WholePoint}

-- members parted by a comma and one space
abbrev pub comma_listed : List (List ℕ) → List ℕ
comma_listed [] = []
comma_listed (member ∷ []) = member
comma_listed (member ∷ next ∷ members) = member ++ (codes ", " ++ comma_listed (next ∷ members))

-- what comes before the member of a number, counted from 0
abbrev pub listed_front : ℕ → List ℕ
listed_front number = if number == 0 then [] else codes ", "

-- a point is written as x, a space, and y
abbrev pub wkt_point : WholePoint → List ℕ
wkt_point p = signed_decimal p.x ++ (codes " " ++ signed_decimal p.y)

-- a ring as a polygon of its own
abbrev pub ring_text : List WholePoint → List ℕ
ring_text points = codes "((" ++ (comma_listed (map wkt_point points) ++ codes "))")

-- the rings of a layer are written as a MULTIPOLYGON, with each ring as a polygon of its own
abbrev pub wkt_text : List (List WholePoint) → List ℕ
wkt_text [] = codes "MULTIPOLYGON EMPTY"
wkt_text (ring ∷ rings) = codes "MULTIPOLYGON (" ++ (comma_listed (map ring_text (ring ∷ rings)) ++ codes ")")
