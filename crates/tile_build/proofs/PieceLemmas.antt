-- A piece is below a point between its ends by x exactly where the point is above the line of its segment.
use Rattle.std.proofs.Common.{◌≡◌, ℤ, pos, ◌*ℤ◌, ◌<ℤ◌, sym, ◌∙◌, refl, arith, true, false, Bool, not, cond}
use Rattle.std.proofs.lemmas.Int.{ints}
use Rattle.std.proofs.lemmas.Bool.{and_from}
use Rattle.std.specs.Prelude.{int_lt, int_le, IsTrue}
use Rattle.std.specs.Ordering.{int_cmp, is_gt, is_ge, MatchOrdering}
use Rattle.std.specs.Cmp.{int_ranks}
use Rattle.std.specs.declared.cmp.Ordering.{Ordering}
use Rattle.std.specs.declared.cmp.Ordering.TheVariants.{Less, Equal, Greater}
use Rattle.overlay_terms.specs.Plane.{Point, Segment, height_over, is_on}
use Rattle.overlay_terms.specs.TileLaws.{is_pair_below}
use Rattle.exact_point.proofs.Comparing.{last_decides, first_fails}
use Rattle.exact_point.proofs.MiddleLemmas.{second_fails}
use Rattle.exact_point.proofs.OnLine.{on_line}
use Rattle.tile_laws.proofs.UnderLemmas.{over_wide}
use Rattle.tile_laws.proofs.Stretches.{IsStretch, stretch_told, stretch_over, pair_over, above_alike}

-- with p not right of q and q left of r, the pair is below q where q is above the line
pub below_by_height : (s : Segment) (p r q : Point) → pos 0 <ℤ p.w → pos 0 <ℤ r.w → pos 0 <ℤ q.w → IsTrue (is_on s p) → IsTrue (is_on s r)
    → int_le (p.x *ℤ q.w) (q.x *ℤ p.w) ≡ true → int_lt (q.x *ℤ r.w) (r.x *ℤ q.w) ≡ true → int_lt (pos 0) (height_over s q) ≡ is_pair_below q (p, r)
below_by_height s p r q hp hr hq on_p on_r left right =
    let h : IsStretch p r q = stretch_told p r q hp hr hq (and_from (int_le (p.x *ℤ q.w) (q.x *ℤ p.w)) (int_lt (q.x *ℤ r.w) (r.x *ℤ q.w)) left right) in
    let above = above_alike s p r q h (over_wide q hq s (stretch_over s p r q h on_p on_r)) (on_line s p on_p) (on_line s r on_r) in
    last_decides (int_le (p.x *ℤ q.w) (q.x *ℤ p.w)) (int_lt (q.x *ℤ r.w) (r.x *ℤ q.w)) (int_lt (pos 0) (pair_over p r q)) _ left right (sym above)

-- ---- the tests of the code
gt_by : (x y : ℤ) (o : Ordering) → MatchOrdering o (x <ℤ y) (x ≡ y) (y <ℤ x) → is_gt o ≡ int_lt y x
gt_by x y Less h = not_lt x y h
  where
    not_lt : (x y : ℤ) → x <ℤ y → false ≡ int_lt y x
    not_lt x y h = grind (arith, ints)
gt_by x y Equal h = not_lt x y h
  where
    not_lt : (x y : ℤ) → x ≡ y → false ≡ int_lt y x
    not_lt x y h = grind (arith, ints)
gt_by x y Greater h = is_lt_so x y h
  where
    is_lt_so : (x y : ℤ) → y <ℤ x → true ≡ int_lt y x
    is_lt_so x y h = grind (arith, ints)

-- the code's tests of comparisons
pub gt_is : (x y : ℤ) → is_gt (int_cmp x y) ≡ int_lt y x
gt_is x y = gt_by x y (int_cmp x y) (int_ranks x y)

pub le_from : (x y : ℤ) → is_gt (int_cmp x y) ≡ false → int_le x y ≡ true
le_from x y h = turned x y (sym (gt_is x y) ∙ h)
  where
    turned : (x y : ℤ) → int_lt y x ≡ false → int_le x y ≡ true
    turned x y h = grind (arith, ints)

pub not_le_from : (x y : ℤ) → is_gt (int_cmp x y) ≡ true → int_le x y ≡ false
not_le_from x y h = turned x y (sym (gt_is x y) ∙ h)
  where
    turned : (x y : ℤ) → int_lt y x ≡ true → int_le x y ≡ false
    turned x y h = grind (arith, ints)

lt_of : (b c : Bool) → is_ge (cond b Less (cond c Greater Equal)) ≡ not b
lt_of true c = refl
lt_of false true = refl
lt_of false false = refl

pub lt_from : (x y : ℤ) → is_ge (int_cmp x y) ≡ false → int_lt x y ≡ true
lt_from x y h = back (int_lt x y) (sym (lt_of (int_lt x y) (int_lt y x)) ∙ h)
  where
    back : (b : Bool) → not b ≡ false → b ≡ true
    back true e = refl
    back false e = cc

pub not_lt_from : (x y : ℤ) → is_ge (int_cmp x y) ≡ true → int_lt x y ≡ false
not_lt_from x y h = back (int_lt x y) (sym (lt_of (int_lt x y) (int_lt y x)) ∙ h)
  where
    back : (b : Bool) → not b ≡ true → b ≡ false
    back true e = cc
    back false e = refl

pub right_of : (p r q : Point) → int_le (p.x *ℤ q.w) (q.x *ℤ p.w) ≡ false → false ≡ is_pair_below q (p, r)
right_of p r q e = first_fails (int_le (p.x *ℤ q.w) (q.x *ℤ p.w)) _ _ e

pub left_of : (p r q : Point) → int_lt (q.x *ℤ r.w) (r.x *ℤ q.w) ≡ false → false ≡ is_pair_below q (p, r)
left_of p r q e = second_fails (int_le (p.x *ℤ q.w) (q.x *ℤ p.w)) (int_lt (q.x *ℤ r.w) (r.x *ℤ q.w)) _ e
