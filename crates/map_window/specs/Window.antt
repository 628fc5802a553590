-- What a map of any size looks like from within a box: inside even-odd, and on an edge, as the plane defines both.
use Rattle.std.specs.Prelude.{◌≡◌, ℤ, pos, ◌<ℤ◌, ◌≤ℤ◌, ◌*ℤ◌, ◌-ℤ◌, List, [], All}
use Rattle.overlay_terms.specs.Plane.{WholePoint, Point, Segment, segments_of, is_inside}
use Rattle.overlay_terms.specs.Laws.{is_on_any}

-- an upright box, whose borders belong to it
pub record Box : Type 0 where
  pub low_x : ℤ
  pub high_x : ℤ
  pub low_y : ℤ
  pub high_y : ℤ

-- a point lies in a box or on its border
pub record IsIn (box : Box) (q : Point) : Type 0 where
  pub left : (box.low_x *ℤ q.w) ≤ℤ q.x
  pub right : q.x ≤ℤ (box.high_x *ℤ q.w)
  pub low : (box.low_y *ℤ q.w) ≤ℤ q.y
  pub high : q.y ≤ℤ (box.high_y *ℤ q.w)

-- the four sides of a box
pub data Side : Type 0 where
  left_of : Side
  right_of : Side
  under : Side
  over : Side

-- a point lies off a box, on that side
abbrev pub IsOff : Box → Side → Point → Type 0
IsOff box left_of q = q.x <ℤ (box.low_x *ℤ q.w)
IsOff box right_of q = (box.high_x *ℤ q.w) <ℤ q.x
IsOff box under q = q.y <ℤ (box.low_y *ℤ q.w)
IsOff box over q = (box.high_y *ℤ q.w) <ℤ q.y

-- a whole point lies off a box, on that side
abbrev pub Lies : Box → Side → WholePoint → Type 0
Lies box left_of a = a.x <ℤ box.low_x
Lies box right_of a = box.high_x <ℤ a.x
Lies box under a = a.y <ℤ box.low_y
Lies box over a = box.high_y <ℤ a.y

-- a whole point does not lie off a box on that side
abbrev pub StaysWithin : Box → Side → WholePoint → Type 0
StaysWithin box left_of a = box.low_x ≤ℤ a.x
StaysWithin box right_of a = a.x ≤ℤ box.high_x
StaysWithin box under a = box.low_y ≤ℤ a.y
StaysWithin box over a = a.y ≤ℤ box.high_y

-- a whole point, seen from another origin
abbrev pub whole_moved : WholePoint → WholePoint → WholePoint
whole_moved o a = record { x = a.x -ℤ o.x; y = a.y -ℤ o.y }

-- a point, seen from another origin
abbrev pub moved : WholePoint → Point → Point
moved o q = record { x = q.x -ℤ o.x *ℤ q.w; y = q.y -ℤ o.y *ℤ q.w; w = q.w }

-- segments seen from a point are like others seen from another; nothing is seen of those that are like none
pub record AreAlike (xs : List Segment) (p : Point) (ys : List Segment) (q : Point) : Type 0 where
  pub inside : is_inside xs p ≡ is_inside ys q
  pub edge : is_on_any xs p ≡ is_on_any ys q

-- a layer shows a map within a core: each point of the core is inside, and on an edge, of both or of neither
abbrev pub Shows : Box → WholePoint → List (List WholePoint) → List (List WholePoint) → Type 0
Shows core o map layer = (q : Point) → pos 0 <ℤ q.w → IsIn core q → AreAlike (segments_of layer) (moved o q) (segments_of map) q

-- where no point of a map lies off the core on one side, nothing of the layer is seen from off it on that side
abbrev pub NothingBeyond : Box → WholePoint → List (List WholePoint) → List (List WholePoint) → Type 0
NothingBeyond core o map layer =
    (side : Side) (q : Point) → pos 0 <ℤ q.w → All (All (StaysWithin core side)) map → IsOff core side q →
    AreAlike (segments_of layer) (moved o q) [] (moved o q)

-- nothing of the layer is seen from off the frame
abbrev pub NothingOff : Box → WholePoint → List (List WholePoint) → Type 0
NothingOff frame o layer =
    (side : Side) (q : Point) → pos 0 <ℤ q.w → IsOff frame side q → AreAlike (segments_of layer) (moved o q) [] (moved o q)
