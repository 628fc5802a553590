-- The order of pairs of points, for pairs with positive denominators, and its agreement with their sameness.
use Rattle.std.specs.Prelude.{◌≡◌, pos, ◌<ℤ◌, IsTrue}
use Rattle.std.specs.Cmp.{IsTotalOrder}
use Rattle.std.specs.Ordering.{ordering_then, ordering_reverse}
use Rattle.std.specs.declared.cmp.Ordering.{Ordering}
use Rattle.std.specs.declared.cmp.Ordering.TheVariants.{Less, Equal, Greater}
use Rattle.std.proofs.Common.{refl, ap, sym, ◌∙◌}
use Rattle.std.proofs.lemmas.Bool.{and_parts, and_from}
use Rattle.std.proofs.lemmas.Cmp.{on_total, then_total}
use Rattle.overlay_terms.specs.Plane.{Point, point_cmp, same_place}
use Rattle.overlay_terms.specs.Tiles.{pair_cmp}
use Rattle.overlay_terms.proofs.PointOrder.{both_equal}
use Rattle.exact_point.proofs.PlaceOrder.{same_self, less_through, alike_left, turned, same_from_equal, equal_from_same}
use Rattle.tile_laws.specs.SameTile.{same_pair, IsPositivePair}
use Rattle.tile_laws.proofs.AlikeLists.{Ranks}
use Rattle.tile_laws.proofs.Gathered.{Compared, lower, level, higher}

-- a point whose denominator is positive
record Placed : Type 0 where
  pub point : Point
  pub positive : pos 0 <ℤ point.w

-- such points are in total order
placed_total : IsTotalOrder (λ (p q : Placed). point_cmp p.point q.point)
placed_total = record {
  antisymm = λ p q. turned q.point p.point q.positive p.positive;
  trans = λ p q r. less_through p.point q.point r.point p.positive q.positive r.positive;
  congr = λ p q r e. alike_left p.point q.point r.point p.positive q.positive r.positive (same_from_equal p.point q.point p.positive q.positive e);
}

-- a pair whose denominators are positive
record PlacedPair : Type 0 where
  pub ends : Point × Point
  pub positive : IsPositivePair ends

-- its first point
abbrev first_of : PlacedPair → Placed
first_of a = record { point = a.ends.0; positive = a.positive.0 }

-- its second point
abbrev second_of : PlacedPair → Placed
second_of a = record { point = a.ends.1; positive = a.positive.1 }

-- such pairs are in total order
pair_total : IsTotalOrder (λ (a b : PlacedPair). pair_cmp a.ends b.ends)
pair_total = then_total (on_total first_of placed_total) (on_total second_of placed_total)

-- a pair as one of them
abbrev placed : (a : Point × Point) → IsPositivePair a → PlacedPair
placed a h = record { ends = a; positive = h }

-- the order of pairs, turned round
pub pair_turned : (a b : Point × Point) → IsPositivePair a → IsPositivePair b → pair_cmp a b ≡ ordering_reverse (pair_cmp b a)
pair_turned a b h k = pair_total.antisymm (placed a h) (placed b k)

-- a pair before one that is before a third
pub pair_through : (a b c : Point × Point) → IsPositivePair a → IsPositivePair b → IsPositivePair c → pair_cmp a b ≡ Less → pair_cmp b c ≡ Less → pair_cmp a c ≡ Less
pair_through a b c h k l = pair_total.trans (placed a h) (placed b k) (placed c l)

-- pairs at the same places are equal in the order
equal_pair : (a b : Point × Point) → IsPositivePair a → IsPositivePair b → IsTrue (same_pair a b) → pair_cmp a b ≡ Equal
equal_pair a b h k e =
    let parts = and_parts (same_place a.0 b.0) (same_place a.1 b.1) e in
    ap (λ o. ordering_then o (point_cmp a.1 b.1)) (equal_from_same a.0 b.0 h.0 k.0 parts.0) ∙ equal_from_same a.1 b.1 h.1 k.1 parts.1

-- and the other way
same_from : (a b : Point × Point) → IsPositivePair a → IsPositivePair b → pair_cmp a b ≡ Equal → IsTrue (same_pair a b)
same_from a b h k e =
    let parts = both_equal (point_cmp a.0 b.0) (point_cmp a.1 b.1) e in
    and_from (same_place a.0 b.0) (same_place a.1 b.1) (same_from_equal a.0 b.0 h.0 k.0 parts.0) (same_from_equal a.1 b.1 h.1 k.1 parts.1)

-- equal is not less
not_both : (o : Ordering) → o ≡ Equal → o ≡ Less → ⊥
not_both o e l = differ (sym e ∙ l) where
  differ : Equal ≡ Less → ⊥
  differ e = cc

-- sameness and order of pairs agree
pub pairs_rank : Ranks IsPositivePair same_pair (λ a b. pair_cmp a b ≡ Less)
pairs_rank = record {
  turned = λ a b h k e. same_from b a k h (pair_total.antisymm (placed b k) (placed a h) ∙ ap ordering_reverse (equal_pair a b h k e));
  same_through = λ a b c h k l e f. same_from a c h l (pair_total.congr (placed a h) (placed b k) (placed c l) (equal_pair a b h k e) ∙ equal_pair b c k l f);
  apart = λ a b h k e. not_both (pair_cmp a b) (equal_pair a b h k e);
  through = pair_through;
  alike_left = λ a b c h k l e less. sym (pair_total.congr (placed a h) (placed b k) (placed c l) (equal_pair a b h k e)) ∙ less;
  alike_right = λ a b c h k l e less.
      pair_total.antisymm (placed c l) (placed b k)
      ∙ ap ordering_reverse (sym (pair_total.congr (placed a h) (placed b k) (placed c l) (equal_pair a b h k e)))
      ∙ sym (pair_total.antisymm (placed c l) (placed a h))
      ∙ less;
}

-- a pair is at its own places
pub pair_itself : (a : Point × Point) → IsPositivePair a → IsTrue (same_pair a a)
pair_itself a h = and_from (same_place a.0 a.0) (same_place a.1 a.1) (same_self a.0) (same_self a.1)

-- two pairs are compared
pub pairs_compared : (a b : Point × Point) → IsPositivePair a → IsPositivePair b → Compared same_pair (λ a b. pair_cmp a b ≡ Less) a b
pairs_compared a b h k = by (pair_cmp a b) refl where
  by : (o : Ordering) → pair_cmp a b ≡ o → Compared same_pair (λ a b. pair_cmp a b ≡ Less) a b
  by Less e = lower e
  by Equal e = level (same_from a b h k e)
  by Greater e = higher (pair_total.antisymm (placed b k) (placed a h) ∙ ap ordering_reverse e)
