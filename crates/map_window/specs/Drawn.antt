-- What is drawn of a map: tests of its points, rings clamped into a frame, and rings without the
-- points that nothing of is seen.
use Rattle.std.specs.Prelude.{ℤ, ◌-ℤ◌, ◌&&◌, ◌||◌, [], ◌∷◌, ◌++◌, if◌then◌else◌}
use Rattle.std.specs.Prelude.{int_lt, int_le, Bool, true, List, fold, filter_map, Option, Some, None}
use Rattle.overlay_terms.specs.Plane.{WholePoint, is_coordinate}
use Rattle.map_window.specs.Window.{Box, whole_moved}

-- numbers in this order: the middle two strictly between the others
abbrev pub are_nested : ℤ → ℤ → ℤ → ℤ → Bool
are_nested a b c d = int_lt a b && int_le b c && int_lt c d

-- whether a core is a box in the open inside of a frame
abbrev pub is_framed : Box → Box → Bool
is_framed core frame = are_nested frame.low_x core.low_x core.high_x frame.high_x && are_nested frame.low_y core.low_y core.high_y frame.high_y

-- whether two numbers are coordinates, seen from a third
abbrev pub are_coordinates : ℤ → ℤ → ℤ → Bool
are_coordinates low high from = is_coordinate (low -ℤ from) && is_coordinate (high -ℤ from)

-- whether a box lies in the plane that has this origin
abbrev pub lies_in_plane : Box → WholePoint → Bool
lies_in_plane box o =
    are_coordinates box.low_x box.high_x o.x && are_coordinates box.low_y box.high_y o.y

-- whether three numbers are less than a fourth
abbrev pub are_less : ℤ → ℤ → ℤ → ℤ → Bool
are_less a b c limit = int_lt a limit && int_lt b limit && int_lt c limit

-- whether three numbers are more than a first one
abbrev pub are_more : ℤ → ℤ → ℤ → ℤ → Bool
are_more limit a b c = int_lt limit a && int_lt limit b && int_lt limit c

-- whether three points lie off a box on one side
abbrev pub share_side : Box → WholePoint → WholePoint → WholePoint → Bool
share_side box a b c =
    (are_less a.x b.x c.x box.low_x || are_more box.high_x a.x b.x c.x)
    || (are_less a.y b.y c.y box.low_y || are_more box.high_y a.y b.y c.y)

-- whether a point lies in a box or on its border
abbrev pub is_held : Box → WholePoint → Bool
is_held box a = (int_le box.low_x a.x && int_le a.x box.high_x) && (int_le box.low_y a.y && int_le a.y box.high_y)

-- whether a step may be drawn in: both ends lie off the core on one side, or both in the frame
abbrev pub is_short : Box → Box → WholePoint → WholePoint → Bool
is_short core frame a b = share_side core a b b || (is_held frame a && is_held frame b)

-- whether each step of a ring may be drawn in
abbrev pub are_short : Box → Box → List WholePoint → Bool
are_short core frame (a ∷ b ∷ rest) = is_short core frame a b && are_short core frame (b ∷ rest)
are_short core frame points = true

-- the number of a range next to a number
abbrev pub clamped : ℤ → ℤ → ℤ → ℤ
clamped low high x = if int_lt x low then low else (if int_lt high x then high else x)

-- the point of a box next to a point, by x and by y
abbrev pub into : Box → WholePoint → WholePoint
into box a = record { x = clamped box.low_x box.high_x a.x; y = clamped box.low_y box.high_y a.y }

-- where a point of the map lies in the plane: clamped into the frame, seen from the origin
abbrev pub placed : Box → WholePoint → WholePoint → WholePoint
placed frame o a = whole_moved o (into frame a)

-- a box seen from an origin
abbrev pub box_moved : WholePoint → Box → Box
box_moved o box =
    record {
      low_x = box.low_x -ℤ o.x;
      high_x = box.high_x -ℤ o.x;
      low_y = box.low_y -ℤ o.y;
      high_y = box.high_y -ℤ o.y;
    }

-- a line with its last two points apart
pub record Line : Type 0 where
  pub done : List WholePoint
  pub before : WholePoint
  pub last : WholePoint

-- all points of a line
abbrev pub points_of : Line → List WholePoint
points_of line = line.done ++ line.before ∷ line.last ∷ []

-- a line with one more point, in the place of the last one where the last two and it lie off the core on one side
abbrev pub added : Box → Line → WholePoint → Line
added core line p =
    if share_side core line.before line.last p then record { done = line.done; before = line.before; last = p }
    else record { done = line.done ++ line.before ∷ []; before = line.last; last = p }

-- a line as a ring: none where it has two points, and with its last point twice where it has three
abbrev pub ring_of : List WholePoint → WholePoint → WholePoint → Option (List WholePoint)
ring_of [] before last = None
ring_of (a ∷ []) before last = Some (a ∷ before ∷ last ∷ last ∷ [])
ring_of (a ∷ b ∷ done) before last = Some ((a ∷ b ∷ done) ++ before ∷ last ∷ [])

-- a line with one more point of the map
abbrev pub extended : Box → Box → WholePoint → Line → WholePoint → Line
extended near frame o line a = added near line (placed frame o a)

-- what is drawn of a ring, if anything; the core is seen from the origin
abbrev pub ring_drawn : Box → Box → WholePoint → List WholePoint → Option (List WholePoint)
ring_drawn near frame o [] = None
ring_drawn near frame o (a ∷ []) = None
ring_drawn near frame o (a ∷ b ∷ rest) =
    let line = fold (extended near frame o) (record { done = []; before = placed frame o a; last = placed frame o b }) rest in
    ring_of line.done line.before line.last

-- what is drawn of a map
abbrev pub rings_drawn : Box → Box → WholePoint → List (List WholePoint) → List (List WholePoint)
rings_drawn core frame o rings = filter_map (ring_drawn (box_moved o core) frame o) rings
