-- Cores within frames: what their tests say, and on which side of a point the points of a map lie.
use Rattle.std.proofs.Common.{◌≡◌, ℤ, pos, ◌-ℤ◌, ◌*ℤ◌, ◌<ℤ◌, ◌≤ℤ◌, refl, sym, ◌∙◌, arith, true, ◌&&◌}
use Rattle.std.proofs.lemmas.Bool.{and_parts, and_from}
use Rattle.std.proofs.lemmas.Int.{ints}
use Rattle.std.specs.Prelude.{int_lt, int_le, neg_ℤ}
use Rattle.overlay_terms.specs.Plane.{WholePoint, Point, coordinate_max, is_coordinate}
use Rattle.overlay_terms.proofs.Difference.{mul_mono}
use Rattle.overlay_terms.proofs.InputNumbers.{lt_true, le_true, true_le, less_times}
use Rattle.exact_point.proofs.OnSegment.{and3_parts}
use Rattle.exact_point.proofs.Tests.{le_no}
use Rattle.map_window.specs.Window.{Box, IsIn, Side, left_of, right_of, under, over, IsOff, Lies, StaysWithin, whole_moved, moved}
use Rattle.map_window.specs.Drawn.{are_nested, is_framed, lies_in_plane, into, box_moved, is_held, clamped}
use Rattle.map_window.proofs.Clamping.{clamped_below, clamped_above, clamped_at_most, clamped_at_least, clamped_low, clamped_high, clamped_none, box_in_range, by_clamped}
use Rattle.map_window.proofs.Moves.{times_moved}
use Rattle.map_window.proofs.Sides.{Aside, mark}

-- a core is a box in the open inside of a frame
pub record IsFramed (core frame : Box) : Type 0 where
  pub left : frame.low_x <ℤ core.low_x
  pub wide : core.low_x ≤ℤ core.high_x
  pub right : core.high_x <ℤ frame.high_x
  pub low : frame.low_y <ℤ core.low_y
  pub tall : core.low_y ≤ℤ core.high_y
  pub high : core.high_y <ℤ frame.high_y

nested : (a b c d : ℤ) → are_nested a b c d ≡ true → (a <ℤ b) × (b ≤ℤ c) × (c <ℤ d)
nested a b c d h = let k = and3_parts (int_lt a b) (int_le b c) (int_lt c d) h in (lt_true a b k.0, le_true b c k.1, lt_true c d k.2)

-- what the test says
pub framed : (core frame : Box) → is_framed core frame ≡ true → IsFramed core frame
framed core frame h =
    let parts = and_parts (are_nested frame.low_x core.low_x core.high_x frame.high_x) (are_nested frame.low_y core.low_y core.high_y frame.high_y) h in
    let x = nested frame.low_x core.low_x core.high_x frame.high_x parts.0 in
    let y = nested frame.low_y core.low_y core.high_y frame.high_y parts.1 in
    record { left = x.0; wide = x.1; right = x.2; low = y.0; tall = y.1; high = y.2 }

coordinate : (z low high : ℤ) → low ≤ℤ z → z ≤ℤ high → neg_ℤ (pos coordinate_max) ≤ℤ low → high ≤ℤ (pos coordinate_max) → is_coordinate z ≡ true
coordinate z low high h k l m = and_from _ _ (true_le (neg_ℤ (pos coordinate_max)) z (omega (arith, ints))) (true_le z (pos coordinate_max) (omega (arith, ints)))

-- a core lies in the plane where its frame does
pub core_placed : (core frame : Box) (o : WholePoint) → is_framed core frame ≡ true → lies_in_plane frame o ≡ true → lies_in_plane core o ≡ true
core_placed core frame o h k =
    let f = framed core frame h in
    let r = box_in_range frame o k in
    let lx = f.left in let wx = f.wide in let hx = f.right in
    let ly = f.low in let wy = f.tall in let hy = f.high in
    and_from _ _
    (and_from _ _
    (coordinate (core.low_x -ℤ o.x) (frame.low_x -ℤ o.x) (frame.high_x -ℤ o.x) (omega (arith, ints)) (omega (arith, ints)) r.0.0.0 r.0.1.1)
    (coordinate (core.high_x -ℤ o.x) (frame.low_x -ℤ o.x) (frame.high_x -ℤ o.x) (omega (arith, ints)) (omega (arith, ints)) r.0.0.0 r.0.1.1))
    (and_from _ _
    (coordinate (core.low_y -ℤ o.y) (frame.low_y -ℤ o.y) (frame.high_y -ℤ o.y) (omega (arith, ints)) (omega (arith, ints)) r.1.0.0 r.1.1.1)
    (coordinate (core.high_y -ℤ o.y) (frame.low_y -ℤ o.y) (frame.high_y -ℤ o.y) (omega (arith, ints)) (omega (arith, ints)) r.1.0.0 r.1.1.1))

-- a point of a box is itself when clamped into it
pub held : (frame : Box) (a : WholePoint) → is_held frame a ≡ true → into frame a ≡ a
held frame a h =
    let both = and_parts (int_le frame.low_x a.x && int_le a.x frame.high_x) (int_le frame.low_y a.y && int_le a.y frame.high_y) h in
    let wide = and_parts (int_le frame.low_x a.x) (int_le a.x frame.high_x) both.0 in
    let tall = and_parts (int_le frame.low_y a.y) (int_le a.y frame.high_y) both.1 in
    let ex : clamped frame.low_x frame.high_x a.x ≡ a.x = clamped_none frame.low_x frame.high_x a.x (le_true frame.low_x a.x wide.0) (le_true a.x frame.high_x wide.1) in
    let ey : clamped frame.low_y frame.high_y a.y ≡ a.y = clamped_none frame.low_y frame.high_y a.y (le_true frame.low_y a.y tall.0) (le_true a.y frame.high_y tall.1) in
    λ i. record { x = ex i; y = ey i }

-- ---- sides of a core
module _ (core frame : Box) (f : IsFramed core frame) where
  -- a clamped point lies on the side of the core that it lay on
  pub lies_still : (side : Side) (a : WholePoint) → Lies core side a → Lies core side (into frame a)
  lies_still left_of a l = clamped_below frame.low_x frame.high_x a.x core.low_x f.left l
  lies_still right_of a l = clamped_above frame.low_x frame.high_x a.x core.high_x f.right l
  lies_still under a l = clamped_below frame.low_y frame.high_y a.y core.low_y f.low l
  lies_still over a l = clamped_above frame.low_y frame.high_y a.y core.high_y f.high l

  -- and does not lie off the core on a side where it did not
  pub stays_still : (side : Side) (a : WholePoint) → StaysWithin core side a → StaysWithin core side (into frame a)
  stays_still left_of a l = let w = f.wide in let r = f.right in clamped_at_least frame.low_x frame.high_x a.x core.low_x (omega (arith, ints)) l
  stays_still right_of a l = let w = f.wide in let r = f.left in clamped_at_most frame.low_x frame.high_x a.x core.high_x (omega (arith, ints)) l
  stays_still under a l = let w = f.tall in let r = f.high in clamped_at_least frame.low_y frame.high_y a.y core.low_y (omega (arith, ints)) l
  stays_still over a l = let w = f.tall in let r = f.low in clamped_at_most frame.low_y frame.high_y a.y core.high_y (omega (arith, ints)) l

  wide_frame : frame.low_x ≤ℤ frame.high_x
  wide_frame = let a = f.left in let b = f.wide in let c = f.right in omega (arith, ints)

  tall_frame : frame.low_y ≤ℤ frame.high_y
  tall_frame = let a = f.low in let b = f.tall in let c = f.high in omega (arith, ints)

  -- no clamped point lies off the frame
  pub stays_framed : (side : Side) (a : WholePoint) → StaysWithin frame side (into frame a)
  stays_framed left_of a = clamped_low frame.low_x frame.high_x a.x wide_frame
  stays_framed right_of a = clamped_high frame.low_x frame.high_x a.x wide_frame
  stays_framed under a = clamped_low frame.low_y frame.high_y a.y tall_frame
  stays_framed over a = clamped_high frame.low_y frame.high_y a.y tall_frame

-- ---- sides of a point
before : (a k w x : ℤ) → pos 0 <ℤ w → a <ℤ k → (k *ℤ w) ≤ℤ x → (a *ℤ w) <ℤ x
before a k w x h l m = let s = less_times a k w h l in omega (arith, ints)

after : (a k w x : ℤ) → pos 0 <ℤ w → k <ℤ a → x ≤ℤ (k *ℤ w) → x <ℤ (a *ℤ w)
after a k w x h l m = let s = less_times k a w h l in omega (arith, ints)

-- what lies off a core lies on that side of each point of the core
pub aside : (core : Box) (side : Side) (q : Point) (a : WholePoint) → pos 0 <ℤ q.w → IsIn core q → Lies core side a → Aside side q a
aside core left_of q a h here l = before a.x core.low_x q.w q.x h l here.left
aside core right_of q a h here l = after a.x core.high_x q.w q.x h l here.right
aside core under q a h here l = before a.y core.low_y q.w q.y h l here.low
aside core over q a h here l = after a.y core.high_y q.w q.y h l here.high

-- a point of a box, seen from an origin, is in the box seen from it
pub in_moved : (core : Box) (o : WholePoint) (q : Point) → IsIn core q → IsIn (box_moved o core) (moved o q)
in_moved core o q h =
    let l = h.left in let r = h.right in let d = h.low in let u = h.high in
    let a = times_moved core.low_x o.x q.w in let b = times_moved core.high_x o.x q.w in
    let c = times_moved core.low_y o.y q.w in let e = times_moved core.high_y o.y q.w in
    record { left = omega (arith, ints); right = omega (arith, ints); low = omega (arith, ints); high = omega (arith, ints) }

-- the side across
abbrev pub across : Side → Side
across left_of = right_of
across right_of = left_of
across under = over
across over = under

past : (a k o w x : ℤ) → pos 0 <ℤ w → k ≤ℤ a → x <ℤ (k *ℤ w) → (x -ℤ o *ℤ w) <ℤ ((a -ℤ o) *ℤ w)
past a k o w x h l m = let s = mul_mono k a w (omega (arith, ints)) l in let t = times_moved a o w in omega (arith, ints)

short_of : (a k o w x : ℤ) → pos 0 <ℤ w → a ≤ℤ k → (k *ℤ w) <ℤ x → ((a -ℤ o) *ℤ w) <ℤ (x -ℤ o *ℤ w)
short_of a k o w x h l m = let s = mul_mono a k w (omega (arith, ints)) l in let t = times_moved a o w in omega (arith, ints)

-- from off a box, a point that does not lie off it there is seen across
pub seen_across : (box : Box) (side : Side) (o : WholePoint) (q : Point) (a : WholePoint) → pos 0 <ℤ q.w → StaysWithin box side a → IsOff box side q → Aside (across side) (moved o q) (whole_moved o a)
seen_across box left_of o q a h l m = past a.x box.low_x o.x q.w q.x h l m
seen_across box right_of o q a h l m = short_of a.x box.high_x o.x q.w q.x h l m
seen_across box under o q a h l m = past a.y box.low_y o.y q.w q.y h l m
seen_across box over o q a h l m = short_of a.y box.high_y o.y q.w q.y h l m

-- ---- what an end shows, clamped
module _ (core frame : Box) (f : IsFramed core frame) (q : Point) (positive : pos 0 <ℤ q.w) (here : IsIn core q) where
  passed : (frame.low_x *ℤ q.w) <ℤ q.x
  passed = before frame.low_x core.low_x q.w q.x positive f.left here.left

  ahead : q.x <ℤ (frame.high_x *ℤ q.w)
  ahead = after frame.high_x core.high_x q.w q.x positive f.right here.right

  passed_alike : (x : ℤ) → int_le (clamped frame.low_x frame.high_x x *ℤ q.w) q.x ≡ int_le (x *ℤ q.w) q.x
  passed_alike x =
      by_clamped (λ z. int_le (z *ℤ q.w) q.x ≡ int_le (x *ℤ q.w) q.x) frame.low_x frame.high_x x
      (λ l. let far : (x *ℤ q.w) ≤ℤ q.x = omega (arith, ints, less_times x frame.low_x q.w positive l, passed) in
      let near : (frame.low_x *ℤ q.w) ≤ℤ q.x = omega (arith, ints, passed) in
      true_le (frame.low_x *ℤ q.w) q.x near ∙ sym (true_le (x *ℤ q.w) q.x far))
      (λ l m. let far : q.x <ℤ (x *ℤ q.w) = omega (arith, ints, less_times frame.high_x x q.w positive m, ahead) in
      le_no (frame.high_x *ℤ q.w) q.x ahead ∙ sym (le_no (x *ℤ q.w) q.x far))
      (λ l m. refl)

  pub mark_still : (side : Side) (a : WholePoint) → mark side q (into frame a) ≡ mark side q a
  mark_still left_of a = refl
  mark_still right_of a = refl
  mark_still under a = passed_alike a.x
  mark_still over a = refl
