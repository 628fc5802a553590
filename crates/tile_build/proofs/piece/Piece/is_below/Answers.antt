use Rattle.std.proofs.Common.{◌≡◌, ◌*ℤ◌, ◌<ℤ◌, pos, true, false, ap, sym, ◌∙◌, arith}
use Rattle.std.proofs.lemmas.Int.{ints}
use Rattle.std.specs.Ordering.{int_cmp, is_gt, is_ge}
use Rattle.overlay_terms.specs.Plane.{Point, height_over}
use Rattle.overlay_terms.specs.TileLaws.{is_pair_below}
use Rattle.exact_point.specs.Place.{place}
use Rattle.exact_point.specs.PlaceOf.{place_of}
use Rattle.exact_point.specs.NamedPiece.{NamedPiece, ends_of}
use Rattle.tile_build.proofs.PieceLemmas.{below_by_height, right_of, left_of, gt_is, le_from, not_le_from, lt_from, not_lt_from}
use Rattle.tile_build.proofs.piece.Piece.is_below.Goals as goal

pub returns-then-is_gt : goal.returns-then-is_gt
returns-then-is_gt c =
    let p = place_of c.self.inside.from in
    let r = place_of c.self.inside.to in
    let q = place c.args.query.now in
    let x : c.x_cmp.result ≡ int_cmp (p.x *ℤ q.w) (q.x *ℤ p.w) = c.x_cmp.ensures ∙ ap (λ (z : Point). int_cmp (z.x *ℤ q.w) (q.x *ℤ z.w)) c.known_point.ensures.value in
    let e : is_gt (int_cmp (p.x *ℤ q.w) (q.x *ℤ p.w)) ≡ true = sym (ap is_gt x) ∙ sym c.is_gt.ensures ∙ c.if-is_gt.true in
    right_of p r q (not_le_from (p.x *ℤ q.w) (q.x *ℤ p.w) e) ∙ ap (λ (n : NamedPiece). is_pair_below q (ends_of n)) c.self.view_is

pub returns-then-is_ge : goal.returns-then-is_ge
returns-then-is_ge c =
    let p = place_of c.self.inside.from in
    let r = place_of c.self.inside.to in
    let q = place c.args.query.now in
    let x : c.x_cmp-2.result ≡ int_cmp (q.x *ℤ r.w) (r.x *ℤ q.w) = c.x_cmp-2.ensures ∙ ap (λ (z : Point). int_cmp (q.x *ℤ z.w) (z.x *ℤ q.w)) c.known_point-2.ensures.value in
    let e : is_ge (int_cmp (q.x *ℤ r.w) (r.x *ℤ q.w)) ≡ true = sym (ap is_ge x) ∙ sym c.is_ge.ensures ∙ c.if-is_ge.true in
    left_of p r q (not_lt_from (q.x *ℤ r.w) (r.x *ℤ q.w) e) ∙ ap (λ (n : NamedPiece). is_pair_below q (ends_of n)) c.self.view_is

pub returns : goal.returns
returns c =
    let s = c.self.inside.support in
    let p = place_of c.self.inside.from in
    let r = place_of c.self.inside.to in
    let q = place c.args.query.now in
    let x : c.x_cmp.result ≡ int_cmp (p.x *ℤ q.w) (q.x *ℤ p.w) = c.x_cmp.ensures ∙ ap (λ (z : Point). int_cmp (z.x *ℤ q.w) (q.x *ℤ z.w)) c.known_point.ensures.value in
    let left : is_gt (int_cmp (p.x *ℤ q.w) (q.x *ℤ p.w)) ≡ false = sym (ap is_gt x) ∙ sym c.is_gt.ensures ∙ c.if-is_gt.false in
    let z : c.x_cmp-2.result ≡ int_cmp (q.x *ℤ r.w) (r.x *ℤ q.w) = c.x_cmp-2.ensures ∙ ap (λ (z : Point). int_cmp (q.x *ℤ z.w) (z.x *ℤ q.w)) c.known_point-2.ensures.value in
    let right : is_ge (int_cmp (q.x *ℤ r.w) (r.x *ℤ q.w)) ≡ false = sym (ap is_ge z) ∙ sym c.is_ge.ensures ∙ c.if-is_ge.false in
    let positive : pos 0 <ℤ q.w = omega (arith, ints, c.args.query.now.w_low) in
    c.is_gt-2.ensures ∙ ap is_gt c.side.ensures ∙ gt_is (height_over s q) (pos 0)
    ∙ below_by_height s p r q c.self.invariant.from_positive c.self.invariant.to_positive positive c.self.invariant.from_on c.self.invariant.to_on (le_from (p.x *ℤ q.w) (q.x *ℤ p.w) left) (lt_from (q.x *ℤ r.w) (r.x *ℤ q.w) right)
    ∙ ap (λ (n : NamedPiece). is_pair_below q (ends_of n)) c.self.view_is
