-- Two pieces on one line over one x are one.
use Rattle.std.specs.Prelude.{◌≡◌, pos, ◌*ℤ◌, ◌≤ℤ◌, ◌<ℤ◌, int_le, int_lt, IsTrue, List}
use Rattle.std.proofs.Common.{arith}
use Rattle.std.proofs.lemmas.Int.{ints}
use Rattle.std.proofs.lemmas.Bool.{and_parts}
use Rattle.overlay_terms.specs.Plane.{Point, Segment, height_over, point_cmp, same_place, is_on}
use Rattle.overlay_terms.specs.Tiles.{IsPiece}
use Rattle.overlay_terms.proofs.InputNumbers.{last_turned, most_times, less_back, le_true, lt_true, in_order_by_x, IsWithinEnds, between_from_on}
use Rattle.std.specs.declared.cmp.Ordering.TheVariants.{Less}
use Rattle.exact_point.proofs.ByX.{less_after_most}
use Rattle.exact_point.proofs.Lines.{width}
use Rattle.exact_point.proofs.OnLine.{between_on, on_line}
use Rattle.exact_point.proofs.PlaceOrder.{Way, before, at, after, way_of, not_after_less}
use Rattle.tile_laws.proofs.JustRight.{is_stretch_over}
use Rattle.tile_laws.proofs.Statements.{segments_in, OnePieceOver}
use Rattle.tile_laws.proofs.OneLine.{AreOnOneLine, level_parts, on_first_line, on_second_line}

-- the ends of a stretch over the x of q
record IsOver (p r q : Point) : Type 0 where
  pub up_to : (p.x *ℤ q.w) ≤ℤ (q.x *ℤ p.w)
  pub past : (q.x *ℤ r.w) <ℤ (r.x *ℤ q.w)

-- what the test says
over_from : (p r q : Point) → IsTrue (is_stretch_over (p, r) q) → IsOver p r q
over_from p r q e =
    let parts = and_parts (int_le (p.x *ℤ q.w) (q.x *ℤ p.w)) (int_lt (q.x *ℤ r.w) (r.x *ℤ q.w)) e in
    record { up_to = le_true (p.x *ℤ q.w) (q.x *ℤ p.w) parts.0; past = lt_true (q.x *ℤ r.w) (r.x *ℤ q.w) parts.1 }

module _ (segments : List Segment) (q : Point) (hq : pos 0 <ℤ q.w) where
  -- the begin of a stretch over the x of q comes before the end of another
  crosses : (p r u v : Point) → pos 0 <ℤ u.w → pos 0 <ℤ r.w → IsOver p r q → IsOver u v q → point_cmp u r ≡ Less
  crosses p r u v hu hr a b = in_order_by_x u r (less_after_most u.x u.w q.x q.w r.x r.w hu hq hr b.up_to a.past)

  -- a segment with a stretch over the x of q is not vertical
  wide : (s : Segment) (p r : Point) → pos 0 <ℤ p.w → pos 0 <ℤ r.w → IsTrue (is_on s p) → IsTrue (is_on s r) → IsOver p r q → pos 0 <ℤ width s
  wide s p r hp hr on_p on_r over =
      let from : IsWithinEnds s p = between_from_on s p on_p in
      let to : IsWithinEnds s r = between_from_on s r on_r in
      let l : (s.left.x *ℤ p.w) ≤ℤ p.x = from.from_left in
      let m : r.x ≤ℤ (s.right.x *ℤ r.w) = to.to_right in
      let order : (p.x *ℤ r.w) <ℤ (r.x *ℤ p.w) = less_after_most p.x p.w q.x q.w r.x r.w hp hq hr over.up_to over.past in
      let low : ((s.left.x *ℤ p.w) *ℤ r.w) ≤ℤ (p.x *ℤ r.w) = most_times (s.left.x *ℤ p.w) p.x r.w hr l in
      let high : (r.x *ℤ p.w) ≤ℤ ((s.right.x *ℤ r.w) *ℤ p.w) = most_times r.x (s.right.x *ℤ r.w) p.w hp m in
      let both : ((s.left.x *ℤ p.w) *ℤ r.w) <ℤ ((s.right.x *ℤ p.w) *ℤ r.w) = omega (arith, ints, last_turned s.right.x r.w p.w) in
      let near : (s.left.x *ℤ p.w) <ℤ (s.right.x *ℤ p.w) = less_back (s.left.x *ℤ p.w) (s.right.x *ℤ p.w) r.w hr both in
      let narrow : s.left.x <ℤ s.right.x = less_back s.left.x s.right.x p.w hp near in
      omega (arith, ints)

  module _ (p r u v : Point) (a : IsPiece segments p r) (b : IsPiece segments u v) (over_a : IsOver p r q) (over_b : IsOver u v q)
      (same_line : (z : Point) → height_over b.support z ≡ pos 0 → height_over a.support z ≡ pos 0) where
    -- the other's begin is not after this one's: it would be a node between its ends
    begin_not_after : point_cmp p u ≡ Less → ⊥
    begin_not_after l =
        let m : point_cmp u r ≡ Less = crosses p r u v b.from_positive a.to_positive over_a over_b in
        let on = between_on a.support p u r a.from_positive b.from_positive a.to_positive a.from_on a.to_on (same_line u (on_line b.support u b.from_on))
        (not_after_less p u a.from_positive b.from_positive l) (not_after_less u r b.from_positive a.to_positive m) in
        a.none_between u b.from_positive on l m b.from_node

    -- the other's end is not before this one's
    end_not_before : point_cmp v r ≡ Less → ⊥
    end_not_before l =
        let m : point_cmp p v ≡ Less = crosses u v p r a.from_positive b.to_positive over_b over_a in
        let on = between_on a.support p v r a.from_positive b.to_positive a.to_positive a.from_on a.to_on (same_line v (on_line b.support v b.to_on))
        (not_after_less p v a.from_positive b.to_positive m) (not_after_less v r b.to_positive a.to_positive l) in
        a.none_between v b.to_positive on m l b.to_node

-- of two points neither of which is before the other, the place is one
one_place : (p u : Point) → pos 0 <ℤ p.w → pos 0 <ℤ u.w → (point_cmp p u ≡ Less → ⊥) → (point_cmp u p ≡ Less → ⊥) → IsTrue (same_place p u)
one_place p u hp hu f g = by (way_of p u hp hu) where
  by : Way p u → IsTrue (same_place p u)
  by (before e) = absurd (f e)
  by (at e) = e
  by (after e) = absurd (g e)

-- two pieces on one line over one x are one
pub one_piece_over : OnePieceOver
one_piece_over input p r u v q a b valid hq stretch_a stretch_b level =
    let segments : List Segment = segments_in input in
    let s : Segment = a.support in
    let t : Segment = b.support in
    let over_a : IsOver p r q = over_from p r q stretch_a in
    let over_b : IsOver u v q = over_from u v q stretch_b in
    let line : AreOnOneLine s t q = level_parts s t q level in
    let wide_s : pos 0 <ℤ width s = wide segments q hq s p r a.from_positive a.to_positive a.from_on a.to_on over_a in
    let wide_t : pos 0 <ℤ width t = wide segments q hq t u v b.from_positive b.to_positive b.from_on b.to_on over_b in
    let first : (z : Point) → height_over t z ≡ pos 0 → height_over s z ≡ pos 0 = λ z. on_first_line s t q z hq wide_t line in
    let second : (z : Point) → height_over s z ≡ pos 0 → height_over t z ≡ pos 0 = λ z. on_second_line s t q z hq wide_s line in (
      one_place p u a.from_positive b.from_positive (begin_not_after segments q hq p r u v a b over_a over_b first) (begin_not_after segments q hq u v p r b a over_b over_a second),
      one_place r v a.to_positive b.to_positive (end_not_before segments q hq u v p r b a over_b over_a second) (end_not_before segments q hq p r u v a b over_a over_b first),
    )
