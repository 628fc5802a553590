-- Where two lines meet, and when that place lies on both segments. The ways (a, b) and (c, d) of two segments,
-- the way (e, f) from the left end of the first to that of the second, the way (x, y) from there to a place.
use Rattle.std.proofs.Common.{◌≡◌, ℤ, pos, ◌+ℤ◌, ◌-ℤ◌, ◌*ℤ◌, ◌<ℤ◌, ◌≤ℤ◌, ap, sym, subst, ◌∙◌, arith, Bool, true, false, int_lt}
use Rattle.std.specs.Prelude.{if◌then◌else◌}
use Rattle.std.proofs.lemmas.Int.{ints, by_lt_z}
use Rattle.std.proofs.lemmas.Bool.{false_from_ne_true, and_from, both_ways}
use Rattle.std.proofs.lemmas.Bool.Decides.{Decides-int_eq}
use Rattle.std.proofs.Math.IntN.{*ℤ_comm, *ℤ-zero}
use Rattle.std.specs.Bool.{IsTrue}
use Rattle.overlay_terms.specs.Plane.{Point, Segment, same_place, whole_cmp}
use Rattle.std.specs.declared.cmp.Ordering.TheVariants.{Less}
use Rattle.overlay_terms.specs.Tiles.{is_parallel}
use Rattle.overlay_terms.proofs.Difference.{split, differences, same, mul_mono}
use Rattle.exact_point.proofs.Signs.{no_negative_factor}
use Rattle.exact_point.proofs.Lexical.{Forward, NotBack, no_negative}
use Rattle.exact_point.proofs.OnSegment.{IsReached, reached, is_reached, part_reached, leads}
use Rattle.exact_point.specs.Crossing.{IsCrossingOf, IsOnlyCrossingOf, CrossNowhere, IsPartWay, turn_of, lead_of}
use Rattle.exact_point.specs.PlaceOf.{part_way, crossing_place}
use Rattle.exact_point.proofs.OnLine.{less_none}

-- ---- identities
second_way : (a b c d e f : ℤ) → a *ℤ ((e *ℤ d) -ℤ (f *ℤ c)) ≡ (e *ℤ ((a *ℤ d) -ℤ (b *ℤ c))) +ℤ (c *ℤ ((e *ℤ b) -ℤ (f *ℤ a)))
second_way a b c d e f = rw (split a, split b, split c, split d, split e, split f) (simp differences (same _ _ _ _ (omega arith)))

second_up : (a b c d e f : ℤ) → b *ℤ ((e *ℤ d) -ℤ (f *ℤ c)) ≡ (f *ℤ ((a *ℤ d) -ℤ (b *ℤ c))) +ℤ (d *ℤ ((e *ℤ b) -ℤ (f *ℤ a)))
second_up a b c d e f = rw (split a, split b, split c, split d, split e, split f) (simp differences (same _ _ _ _ (omega arith)))

from_other : (p r w z : ℤ) → (p *ℤ w) +ℤ (((r -ℤ p) *ℤ w) +ℤ z) ≡ (r *ℤ w) +ℤ z
from_other p r w z = rw (split p, split r, split w, split z) (simp differences (same _ _ _ _ (omega arith)))

across_by : (a b c d x y : ℤ) → ((d *ℤ x) -ℤ (c *ℤ y)) *ℤ a ≡ (((a *ℤ d) -ℤ (b *ℤ c)) *ℤ x) -ℤ (c *ℤ ((a *ℤ y) -ℤ (b *ℤ x)))
across_by a b c d x y = rw (split a, split b, split c, split d, split x, split y) (simp differences (same _ _ _ _ (omega arith)))

along_by : (a b c d x y : ℤ) → ((d *ℤ x) -ℤ (c *ℤ y)) *ℤ b ≡ (((a *ℤ d) -ℤ (b *ℤ c)) *ℤ y) -ℤ (d *ℤ ((a *ℤ y) -ℤ (b *ℤ x)))
along_by a b c d x y = rw (split a, split b, split c, split d, split x, split y) (simp differences (same _ _ _ _ (omega arith)))

-- the height over the second line, from the first one's left end
lead_by : (c d e f x y w : ℤ) → ((e *ℤ d) -ℤ (f *ℤ c)) *ℤ w ≡ ((d *ℤ x) -ℤ (c *ℤ y)) +ℤ ((c *ℤ (y -ℤ (f *ℤ w))) -ℤ (d *ℤ (x -ℤ (e *ℤ w))))
lead_by c d e f x y w = rw (split c, split d, split e, split f, split x, split y, split w) (simp differences (same _ _ _ _ (omega arith)))

moved_end : (x p r w : ℤ) → (x -ℤ (p *ℤ w)) -ℤ ((r -ℤ p) *ℤ w) ≡ x -ℤ (r *ℤ w)
moved_end x p r w = rw (split x, split p, split r, split w) (simp differences (same _ _ _ _ (omega arith)))

lead_back : (a b e f x y w : ℤ) → ((e *ℤ b) -ℤ (f *ℤ a)) *ℤ w ≡ ((a *ℤ (y -ℤ (f *ℤ w))) -ℤ (b *ℤ (x -ℤ (e *ℤ w)))) -ℤ ((a *ℤ y) -ℤ (b *ℤ x))
lead_back a b e f x y w = rw (split a, split b, split e, split f, split x, split y, split w) (simp differences (same _ _ _ _ (omega arith)))

across_back : (a b c d x y : ℤ) → ((a *ℤ y) -ℤ (b *ℤ x)) *ℤ c ≡ (((a *ℤ d) -ℤ (b *ℤ c)) *ℤ x) +ℤ (a *ℤ ((c *ℤ y) -ℤ (d *ℤ x)))
across_back a b c d x y = rw (split a, split b, split c, split d, split x, split y) (simp differences (same _ _ _ _ (omega arith)))

along_back : (a b c d x y : ℤ) → ((a *ℤ y) -ℤ (b *ℤ x)) *ℤ d ≡ (((a *ℤ d) -ℤ (b *ℤ c)) *ℤ y) +ℤ (b *ℤ ((c *ℤ y) -ℤ (d *ℤ x)))
along_back a b c d x y = rw (split a, split b, split c, split d, split x, split y) (simp differences (same _ _ _ _ (omega arith)))

rest_of : (w t v a : ℤ) → ((w -ℤ t) *ℤ v) *ℤ a ≡ (w *ℤ (a *ℤ v)) -ℤ ((t *ℤ v) *ℤ a)
rest_of w t v a = rw (split w, split t, split v, split a) (simp differences (same _ _ _ _ (omega arith)))

spread : (w y x : ℤ) → w *ℤ (y -ℤ x) ≡ (w *ℤ y) -ℤ (w *ℤ x)
spread w y x = rw (split w, split y, split x) (simp differences (same _ _ _ _ (omega arith)))

-- from a place on to the right end
pub to_end : (l r w x : ℤ) → ((r -ℤ l) *ℤ w) -ℤ (x -ℤ (l *ℤ w)) ≡ (r *ℤ w) -ℤ x
to_end l r w x = rw (split l, split r, split w, split x) (simp differences (same _ _ _ _ (omega arith)))

one_place : (l a t w v x : ℤ) → ((l *ℤ w) +ℤ (a *ℤ t)) *ℤ v ≡ ((x *ℤ w) -ℤ (w *ℤ (x -ℤ (l *ℤ v)))) +ℤ ((t *ℤ v) *ℤ a)
one_place l a t w v x = rw (split l, split a, split t, split w, split v, split x) (simp differences (same _ _ _ _ (omega arith)))

-- ---- signs
-- a place v times (x, y) / w along the way (a, b) that is not back from its begin, nor its end back from it, is t / w of it
pub within_way : (a b t w v x y : ℤ) → pos 0 <ℤ w → pos 0 <ℤ v → Forward a b → NotBack x y → NotBack ((a *ℤ v) -ℤ x) ((b *ℤ v) -ℤ y) → (t *ℤ v) *ℤ a ≡ w *ℤ x → (t *ℤ v) *ℤ b ≡ w *ℤ y → (pos 0 ≤ℤ t) × (t ≤ℤ w)
within_way a b t w v x y hw hv f begin end ex ey =
    let from : pos 0 ≤ℤ (t *ℤ v) = no_negative (t *ℤ v) a b w x y hw f begin ex ey in
    let rest_x : ((w -ℤ t) *ℤ v) *ℤ a ≡ w *ℤ ((a *ℤ v) -ℤ x) = rest_of w t v a ∙ ap (λ z. (w *ℤ (a *ℤ v)) -ℤ z) ex ∙ sym (spread w (a *ℤ v) x) in
    let rest_y : ((w -ℤ t) *ℤ v) *ℤ b ≡ w *ℤ ((b *ℤ v) -ℤ y) = rest_of w t v b ∙ ap (λ z. (w *ℤ (b *ℤ v)) -ℤ z) ey ∙ sym (spread w (b *ℤ v) y) in
    let to : pos 0 ≤ℤ ((w -ℤ t) *ℤ v) = no_negative ((w -ℤ t) *ℤ v) a b w ((a *ℤ v) -ℤ x) ((b *ℤ v) -ℤ y) hw f end rest_x rest_y in
    let short : pos 0 ≤ℤ (w -ℤ t) = no_negative_factor (w -ℤ t) v hv to in
    (no_negative_factor t v hv from, omega (arith, ints))

and_none : (z c : ℤ) → z +ℤ (c *ℤ pos 0) ≡ z
and_none z c = omega (arith, ints, *ℤ-zero c)

plus_none : (z : ℤ) → z +ℤ pos 0 ≡ z
plus_none z = omega (arith, ints)

minus_none : (z : ℤ) → z -ℤ pos 0 ≡ z
minus_none z = omega (arith, ints)

cancel : (n m : ℤ) → (n -ℤ m) +ℤ m ≡ n
cancel n m = omega (arith, ints)

-- ---- a point of both lines: (p, q) and (r, s) are the left ends, x / w and y / w the point
first_lead : (c d p q r s x y w : ℤ) → (c *ℤ (y -ℤ (s *ℤ w))) -ℤ (d *ℤ (x -ℤ (r *ℤ w))) ≡ pos 0 → (((r -ℤ p) *ℤ d) -ℤ ((s -ℤ q) *ℤ c)) *ℤ w ≡ (d *ℤ (x -ℤ (p *ℤ w))) -ℤ (c *ℤ (y -ℤ (q *ℤ w)))
first_lead c d p q r s x y w h =
    let k : ℤ = (d *ℤ (x -ℤ (p *ℤ w))) -ℤ (c *ℤ (y -ℤ (q *ℤ w))) in
    lead_by c d (r -ℤ p) (s -ℤ q) (x -ℤ (p *ℤ w)) (y -ℤ (q *ℤ w)) w
    ∙ ap (λ z. k +ℤ ((c *ℤ z) -ℤ (d *ℤ ((x -ℤ (p *ℤ w)) -ℤ ((r -ℤ p) *ℤ w))))) (moved_end y q s w)
    ∙ ap (λ z. k +ℤ ((c *ℤ (y -ℤ (s *ℤ w))) -ℤ (d *ℤ z))) (moved_end x p r w)
    ∙ ap (λ z. k +ℤ z) h
    ∙ plus_none k

second_lead : (a b p q r s x y w : ℤ) → (a *ℤ (y -ℤ (q *ℤ w))) -ℤ (b *ℤ (x -ℤ (p *ℤ w))) ≡ pos 0 → (((r -ℤ p) *ℤ b) -ℤ ((s -ℤ q) *ℤ a)) *ℤ w ≡ (a *ℤ (y -ℤ (s *ℤ w))) -ℤ (b *ℤ (x -ℤ (r *ℤ w)))
second_lead a b p q r s x y w h =
    let k : ℤ = (a *ℤ (y -ℤ (s *ℤ w))) -ℤ (b *ℤ (x -ℤ (r *ℤ w))) in
    let l : ℤ = (a *ℤ (y -ℤ (q *ℤ w))) -ℤ (b *ℤ (x -ℤ (p *ℤ w))) in
    lead_back a b (r -ℤ p) (s -ℤ q) (x -ℤ (p *ℤ w)) (y -ℤ (q *ℤ w)) w
    ∙ ap (λ z. ((a *ℤ z) -ℤ (b *ℤ ((x -ℤ (p *ℤ w)) -ℤ ((r -ℤ p) *ℤ w)))) -ℤ l) (moved_end y q s w)
    ∙ ap (λ z. ((a *ℤ (y -ℤ (s *ℤ w))) -ℤ (b *ℤ z)) -ℤ l) (moved_end x p r w)
    ∙ ap (λ z. k -ℤ z) h
    ∙ minus_none k

-- how far along the first segment a point of both lies, and how far along the second
pub record IsShared (a b : Segment) (p : Point) : Type 0 where
  pub first_across : (lead_of a b b *ℤ p.w) *ℤ (a.right.x -ℤ a.left.x) ≡ turn_of a b *ℤ (p.x -ℤ a.left.x *ℤ p.w)
  pub first_along : (lead_of a b b *ℤ p.w) *ℤ (a.right.y -ℤ a.left.y) ≡ turn_of a b *ℤ (p.y -ℤ a.left.y *ℤ p.w)
  pub second_across : (lead_of a b a *ℤ p.w) *ℤ (b.right.x -ℤ b.left.x) ≡ turn_of a b *ℤ (p.x -ℤ b.left.x *ℤ p.w)
  pub second_along : (lead_of a b a *ℤ p.w) *ℤ (b.right.y -ℤ b.left.y) ≡ turn_of a b *ℤ (p.y -ℤ b.left.y *ℤ p.w)

pub shared : (a b : Segment) (p : Point) → IsReached a p → IsReached b p → IsShared a b p
shared s t p h k =
    let a : ℤ = s.right.x -ℤ s.left.x in
    let b : ℤ = s.right.y -ℤ s.left.y in
    let c : ℤ = t.right.x -ℤ t.left.x in
    let d : ℤ = t.right.y -ℤ t.left.y in
    let x : ℤ = p.x -ℤ (s.left.x *ℤ p.w) in
    let y : ℤ = p.y -ℤ (s.left.y *ℤ p.w) in
    let u : ℤ = p.x -ℤ (t.left.x *ℤ p.w) in
    let v : ℤ = p.y -ℤ (t.left.y *ℤ p.w) in
    let first = first_lead c d s.left.x s.left.y t.left.x t.left.y p.x p.y p.w k.level in
    let second = second_lead a b s.left.x s.left.y t.left.x t.left.y p.x p.y p.w h.level in
    let turn : ℤ = (a *ℤ d) -ℤ (b *ℤ c) in
    record {
      first_across = ap (λ z. z *ℤ a) first ∙ across_by a b c d x y ∙ ap (λ z. (turn *ℤ x) -ℤ (c *ℤ z)) h.level ∙ less_none (turn *ℤ x) c;
      first_along = ap (λ z. z *ℤ b) first ∙ along_by a b c d x y ∙ ap (λ z. (turn *ℤ y) -ℤ (d *ℤ z)) h.level ∙ less_none (turn *ℤ y) d;
      second_across = ap (λ z. z *ℤ c) second ∙ across_back a b c d u v ∙ ap (λ z. (turn *ℤ u) +ℤ (a *ℤ z)) k.level ∙ and_none (turn *ℤ u) a;
      second_along = ap (λ z. z *ℤ d) second ∙ along_back a b c d u v ∙ ap (λ z. (turn *ℤ v) +ℤ (b *ℤ z)) k.level ∙ and_none (turn *ℤ v) b;
    }

-- t / w is a part of a way
pub record IsPart (t w : ℤ) : Type 0 where
  pub low : pos 0 ≤ℤ t
  pub high : t ≤ℤ w

part_of : (s : Segment) (p : Point) (t w : ℤ) → pos 0 <ℤ w → pos 0 <ℤ p.w → Forward (s.right.x -ℤ s.left.x) (s.right.y -ℤ s.left.y) → IsReached s p → (t *ℤ p.w) *ℤ (s.right.x -ℤ s.left.x) ≡ w *ℤ (p.x -ℤ s.left.x *ℤ p.w) → (t *ℤ p.w) *ℤ (s.right.y -ℤ s.left.y) ≡ w *ℤ (p.y -ℤ s.left.y *ℤ p.w) → IsPart t w
part_of s p t w hw hv f h ex ey =
    let end : NotBack (((s.right.x -ℤ s.left.x) *ℤ p.w) -ℤ (p.x -ℤ s.left.x *ℤ p.w)) (((s.right.y -ℤ s.left.y) *ℤ p.w) -ℤ (p.y -ℤ s.left.y *ℤ p.w)) =
    rw (to_end s.left.x s.right.x p.w p.x, to_end s.left.y s.right.y p.w p.y) h.to_right in
    let both = within_way (s.right.x -ℤ s.left.x) (s.right.y -ℤ s.left.y) t w p.w (p.x -ℤ s.left.x *ℤ p.w) (p.y -ℤ s.left.y *ℤ p.w) hw hv f h.from_left end ex ey in
    record { low = both.0; high = both.1 }

-- the place that part of the way along the first is that part of the way along the second
pub part_of_other : (a b : Segment) (p : Point) → IsPartWay a (lead_of a b b) (turn_of a b) p → IsPartWay b (lead_of a b a) (turn_of a b) p
part_of_other s t p h =
    let a : ℤ = s.right.x -ℤ s.left.x in
    let b : ℤ = s.right.y -ℤ s.left.y in
    let c : ℤ = t.right.x -ℤ t.left.x in
    let d : ℤ = t.right.y -ℤ t.left.y in
    let e : ℤ = t.left.x -ℤ s.left.x in
    let f : ℤ = t.left.y -ℤ s.left.y in
    let w : ℤ = turn_of s t in
    record {
      over = h.over;
      across = h.across ∙ ap (λ z. (s.left.x *ℤ w) +ℤ z) (second_way a b c d e f) ∙ from_other s.left.x t.left.x w (c *ℤ lead_of s t s);
      along = h.along ∙ ap (λ z. (s.left.y *ℤ w) +ℤ z) (second_up a b c d e f) ∙ from_other s.left.y t.left.y w (d *ℤ lead_of s t s);
    }

-- a common point is at the place that part of the way along the first
pub one_crossing : (a b : Segment) (z p : Point) → IsPartWay a (lead_of a b b) (turn_of a b) z → IsReached a p → IsReached b p → IsTrue (same_place z p)
one_crossing a b z p h k l =
    let all = shared a b p k l in
    let w : ℤ = turn_of a b in
    let t : ℤ = lead_of a b b in
    let ex : z.x *ℤ p.w ≡ p.x *ℤ z.w =
    ap (λ n. n *ℤ p.w) h.across ∙ one_place a.left.x (a.right.x -ℤ a.left.x) t w p.w p.x
    ∙ ap (λ n. ((p.x *ℤ w) -ℤ (w *ℤ (p.x -ℤ (a.left.x *ℤ p.w)))) +ℤ n) all.first_across
    ∙ cancel (p.x *ℤ w) (w *ℤ (p.x -ℤ (a.left.x *ℤ p.w))) ∙ ap (λ n. p.x *ℤ n) (sym h.over) in
    let ey : z.y *ℤ p.w ≡ p.y *ℤ z.w =
    ap (λ n. n *ℤ p.w) h.along ∙ one_place a.left.y (a.right.y -ℤ a.left.y) t w p.w p.y
    ∙ ap (λ n. ((p.y *ℤ w) -ℤ (w *ℤ (p.y -ℤ (a.left.y *ℤ p.w)))) +ℤ n) all.first_along
    ∙ cancel (p.y *ℤ w) (w *ℤ (p.y -ℤ (a.left.y *ℤ p.w))) ∙ ap (λ n. p.y *ℤ n) (sym h.over) in
    and_from _ _ ((Decides-int_eq (z.x *ℤ p.w) (p.x *ℤ z.w)).1 ex) ((Decides-int_eq (z.y *ℤ p.w) (p.y *ℤ z.w)).1 ey)

-- ---- crossings
not_parallel : (a b : Segment) → pos 0 <ℤ turn_of a b → is_parallel a b ≡ false
not_parallel a b h =
    false_from_ne_true _ (λ e. let level = (Decides-int_eq ((a.right.x -ℤ a.left.x) *ℤ (b.right.y -ℤ b.left.y)) ((a.right.y -ℤ a.left.y) *ℤ (b.right.x -ℤ b.left.x))).0 e in omega (arith, ints, level, h))

pub crossing_at_part : (a b : Segment) (p : Point) → pos 0 <ℤ turn_of a b → Forward (a.right.x -ℤ a.left.x) (a.right.y -ℤ a.left.y) → Forward (b.right.x -ℤ b.left.x) (b.right.y -ℤ b.left.y) → IsPart (lead_of a b b) (turn_of a b) → IsPart (lead_of a b a) (turn_of a b) → IsPartWay a (lead_of a b b) (turn_of a b) p → IsCrossingOf a b p
crossing_at_part a b p h f g k l m = record {
  not_parallel = not_parallel a b h;
  on_first = is_reached a p (part_reached a (lead_of a b b) (turn_of a b) p f k.low k.high m);
  on_second = is_reached b p (part_reached b (lead_of a b a) (turn_of a b) p g l.low l.high (part_of_other a b p m));
}

parallel_turned : (a b : Segment) → is_parallel b a ≡ true → is_parallel a b ≡ true
parallel_turned a b e =
    let level = (Decides-int_eq ((b.right.x -ℤ b.left.x) *ℤ (a.right.y -ℤ a.left.y)) ((b.right.y -ℤ b.left.y) *ℤ (a.right.x -ℤ a.left.x))).0 e in
    (Decides-int_eq ((a.right.x -ℤ a.left.x) *ℤ (b.right.y -ℤ b.left.y)) ((a.right.y -ℤ a.left.y) *ℤ (b.right.x -ℤ b.left.x))).1
    (*ℤ_comm (a.right.x -ℤ a.left.x) (b.right.y -ℤ b.left.y) ∙ sym level ∙ *ℤ_comm (b.right.x -ℤ b.left.x) (a.right.y -ℤ a.left.y))

-- a crossing of two segments is one of them in the other order
pub crossing_turned : (a b : Segment) (p : Point) → IsCrossingOf a b p → IsCrossingOf b a p
crossing_turned a b p h = record {
  not_parallel = false_from_ne_true _ (λ e. both_ways _ h.not_parallel (parallel_turned a b e));
  on_first = h.on_second;
  on_second = h.on_first;
}

pub turn_back : (a b : Segment) → turn_of a b <ℤ pos 0 → pos 0 <ℤ turn_of b a
turn_back a b h =
    omega (arith, ints, h, *ℤ_comm (a.right.x -ℤ a.left.x) (b.right.y -ℤ b.left.y), *ℤ_comm (a.right.y -ℤ a.left.y) (b.right.x -ℤ b.left.x))

pub no_turn : (a b : Segment) → turn_of a b ≡ pos 0 → CrossNowhere a b
no_turn a b e p w h =
    let level : (a.right.x -ℤ a.left.x) *ℤ (b.right.y -ℤ b.left.y) ≡ (a.right.y -ℤ a.left.y) *ℤ (b.right.x -ℤ b.left.x) = omega (arith, ints, e) in
    both_ways _ h.not_parallel ((Decides-int_eq ((a.right.x -ℤ a.left.x) *ℤ (b.right.y -ℤ b.left.y)) ((a.right.y -ℤ a.left.y) *ℤ (b.right.x -ℤ b.left.x))).1 level)

pub turn_other : (a b : Segment) → turn_of b a ≡ pos 0 -ℤ turn_of a b
turn_other a b =
    omega (arith, ints, *ℤ_comm (a.right.x -ℤ a.left.x) (b.right.y -ℤ b.left.y), *ℤ_comm (a.right.y -ℤ a.left.y) (b.right.x -ℤ b.left.x))

pub known_turn : (a b : Segment) (p : Point) → pos 0 <ℤ p.w → IsCrossingOf a b p → pos 0 ≤ℤ turn_of a b → pos 0 <ℤ turn_of a b
known_turn a b p hp k l = by_lt_z (pos 0) (turn_of a b) (λ m. m) (λ m. absurd (no_turn a b (omega (arith, ints, l, m)) p hp k))

-- ---- as the code has them: t and u are how far along, w the turn
pub not_along_first : (a b : Segment) (t w : ℤ) → t ≡ lead_of a b b → w ≡ turn_of a b → pos 0 <ℤ w → whole_cmp a.left a.right ≡ Less → ((pos 0 ≤ℤ t) × (t ≤ℤ w) → ⊥) → CrossNowhere a b
not_along_first a b t w et ew h f out p hp k =
    let first = reached a p k.on_first in
    let all = shared a b p first (reached b p k.on_second) in
    let part = part_of a p t w h hp (leads a f) first (ap (λ z. (z *ℤ p.w) *ℤ (a.right.x -ℤ a.left.x)) et ∙ all.first_across ∙ ap (λ z. z *ℤ (p.x -ℤ a.left.x *ℤ p.w)) (sym ew)) (ap (λ z. (z *ℤ p.w) *ℤ (a.right.y -ℤ a.left.y)) et ∙ all.first_along ∙ ap (λ z. z *ℤ (p.y -ℤ a.left.y *ℤ p.w)) (sym ew)) in
    out (part.low, part.high)

pub not_along_second : (a b : Segment) (t w : ℤ) → t ≡ lead_of a b a → w ≡ turn_of a b → pos 0 <ℤ w → whole_cmp b.left b.right ≡ Less → ((pos 0 ≤ℤ t) × (t ≤ℤ w) → ⊥) → CrossNowhere a b
not_along_second a b t w et ew h f out p hp k =
    let second = reached b p k.on_second in
    let all = shared a b p (reached a p k.on_first) second in
    let part = part_of b p t w h hp (leads b f) second (ap (λ z. (z *ℤ p.w) *ℤ (b.right.x -ℤ b.left.x)) et ∙ all.second_across ∙ ap (λ z. z *ℤ (p.x -ℤ b.left.x *ℤ p.w)) (sym ew)) (ap (λ z. (z *ℤ p.w) *ℤ (b.right.y -ℤ b.left.y)) et ∙ all.second_along ∙ ap (λ z. z *ℤ (p.y -ℤ b.left.y *ℤ p.w)) (sym ew)) in
    out (part.low, part.high)

as_formed : (a b : Segment) (t w : ℤ) (p : Point) → t ≡ lead_of a b b → w ≡ turn_of a b → IsPartWay a t w p → IsPartWay a (lead_of a b b) (turn_of a b) p
as_formed a b t w p et ew h = record {
  over = h.over ∙ ew;
  across = h.across ∙ ap (λ z. (a.left.x *ℤ z) +ℤ ((a.right.x -ℤ a.left.x) *ℤ t)) ew ∙ ap (λ z. (a.left.x *ℤ turn_of a b) +ℤ ((a.right.x -ℤ a.left.x) *ℤ z)) et;
  along = h.along ∙ ap (λ z. (a.left.y *ℤ z) +ℤ ((a.right.y -ℤ a.left.y) *ℤ t)) ew ∙ ap (λ z. (a.left.y *ℤ turn_of a b) +ℤ ((a.right.y -ℤ a.left.y) *ℤ z)) et;
}

-- ---- segments that are known to cross: how far along each the place lies
along_first : (a b : Segment) (p : Point) → pos 0 <ℤ turn_of a b → whole_cmp a.left a.right ≡ Less → pos 0 <ℤ p.w → IsCrossingOf a b p → IsPart (lead_of a b b) (turn_of a b)
along_first a b p h f hp k =
    let first = reached a p k.on_first in
    let all = shared a b p first (reached b p k.on_second) in
    part_of a p (lead_of a b b) (turn_of a b) h hp (leads a f) first all.first_across all.first_along

along_second : (a b : Segment) (p : Point) → pos 0 <ℤ turn_of a b → whole_cmp b.left b.right ≡ Less → pos 0 <ℤ p.w → IsCrossingOf a b p → IsPart (lead_of a b a) (turn_of a b)
along_second a b p h g hp k =
    let second = reached b p k.on_second in
    let all = shared a b p (reached a p k.on_first) second in
    part_of b p (lead_of a b a) (turn_of a b) h hp (leads b g) second all.second_across all.second_along

pub known_part : (a b : Segment) (t w : ℤ) (p : Point) → t ≡ lead_of a b b → w ≡ turn_of a b → pos 0 <ℤ w → whole_cmp a.left a.right ≡ Less → pos 0 <ℤ p.w → IsCrossingOf a b p → (pos 0 ≤ℤ t) × (t ≤ℤ w)
known_part a b t w p et ew h f hp k =
    let part = along_first a b p (rw ew at h) f hp k in
    (omega (arith, ints, part.low), omega (arith, ints, part.high))

pub known_found : (a b : Segment) (t w : ℤ) (p z : Point) → t ≡ lead_of a b b → w ≡ turn_of a b → pos 0 <ℤ w → whole_cmp a.left a.right ≡ Less → whole_cmp b.left b.right ≡ Less → pos 0 <ℤ p.w → IsCrossingOf a b p → IsPartWay a t w z → IsCrossingOf a b z
known_found a b t w p z et ew h f g hp k m =
    let turns : pos 0 <ℤ turn_of a b = rw ew at h in
    crossing_at_part a b z turns (leads a f) (leads b g) (along_first a b p turns f hp k) (along_second a b p turns g hp k) (as_formed a b t w z et ew m)

part_formed : (t w t' w' : ℤ) → t ≡ t' → w ≡ w' → (pos 0 ≤ℤ t) × (t ≤ℤ w) → IsPart t' w'
part_formed t w t' w' et ew h = record { low = omega (arith, ints, h.0); high = omega (arith, ints, h.1) }

pub crossing_found : (a b : Segment) (t u w : ℤ) (p : Point) → t ≡ lead_of a b b → u ≡ lead_of a b a → w ≡ turn_of a b → pos 0 <ℤ w → whole_cmp a.left a.right ≡ Less → whole_cmp b.left b.right ≡ Less → (pos 0 ≤ℤ t) × (t ≤ℤ w) → (pos 0 ≤ℤ u) × (u ≤ℤ w) → IsPartWay a t w p → IsCrossingOf a b p
crossing_found a b t u w p et eu ew h f g k l m =
    crossing_at_part a b p (rw ew at h) (leads a f) (leads b g) (part_formed t w _ _ et ew k) (part_formed u w _ _ eu ew l) (as_formed a b t w p et ew m)

pub only_crossing : (a b : Segment) (t w : ℤ) (z : Point) → t ≡ lead_of a b b → w ≡ turn_of a b → IsPartWay a t w z → IsOnlyCrossingOf a b z
only_crossing a b t w z et ew m p hp k =
    one_crossing a b z p (as_formed a b t w z et ew m) (reached a p k.on_first) (reached b p k.on_second)

-- ---- the place is given along the one that the other turns left from
ahead : (t : ℤ) → pos 0 <ℤ t → int_lt (pos 0) t ≡ true
ahead t h = grind (arith, ints)

behind : (t : ℤ) → t <ℤ pos 0 → int_lt (pos 0) t ≡ false
behind t h = grind (arith, ints)

pub on_first : (a b : Segment) (w : ℤ) → w ≡ turn_of a b → pos 0 <ℤ w → part_way a (lead_of a b b) w ≡ crossing_place a b
on_first a b w e h =
    ap (part_way a (lead_of a b b)) e
    ∙ sym (ap (λ (v : Bool). if v then part_way a (lead_of a b b) (turn_of a b) else part_way b (lead_of b a a) (turn_of b a)) (ahead _ (subst (λ (t : ℤ). pos 0 <ℤ t) e h)))

pub on_second : (a b : Segment) (w : ℤ) → w ≡ turn_of b a → turn_of a b <ℤ pos 0 → part_way b (lead_of b a a) w ≡ crossing_place a b
on_second a b w e h =
    ap (part_way b (lead_of b a a)) e
    ∙ sym (ap (λ (v : Bool). if v then part_way a (lead_of a b b) (turn_of a b) else part_way b (lead_of b a a) (turn_of b a)) (behind _ h))

-- a place so far along is the one that the numbers give
pub way_at : (s : Segment) (t w t' w' : ℤ) (p : Point) → t ≡ t' → w ≡ w' → IsPartWay s t w p → p ≡ part_way s t' w'
way_at s t w t' w' p et ew h = point_by p (part_way s t w) h.across h.along h.over ∙ (λ i. part_way s (et i) (ew i))
  where
    point_by : (p r : Point) → p.x ≡ r.x → p.y ≡ r.y → p.w ≡ r.w → p ≡ r
    point_by p r ex ey ew i = record { x = ex i; y = ey i; w = ew i }

-- ---- a place part of the way lies within the coordinates
mean : (l r t w : ℤ) → (l *ℤ w) +ℤ ((r -ℤ l) *ℤ t) ≡ (l *ℤ (w -ℤ t)) +ℤ (r *ℤ t)
mean l r t w = rw (split l, split r, split t, split w) (simp differences (same _ _ _ _ (omega arith)))

whole_of : (m t w : ℤ) → (m *ℤ (w -ℤ t)) +ℤ (m *ℤ t) ≡ m *ℤ w
whole_of m t w = rw (split m, split t, split w) (simp differences (same _ _ _ _ (omega arith)))

pub mean_low : (m l r t w : ℤ) → m ≤ℤ l → m ≤ℤ r → pos 0 ≤ℤ t → t ≤ℤ w → (m *ℤ w) ≤ℤ ((l *ℤ w) +ℤ ((r -ℤ l) *ℤ t))
mean_low m l r t w h k low high =
    let rest : pos 0 ≤ℤ (w -ℤ t) = omega (arith, ints) in
    rw (mean l r t w, ← whole_of m t w) (omega (arith, ints, mul_mono m l (w -ℤ t) rest h, mul_mono m r t low k))

pub mean_high : (m l r t w : ℤ) → l ≤ℤ m → r ≤ℤ m → pos 0 ≤ℤ t → t ≤ℤ w → ((l *ℤ w) +ℤ ((r -ℤ l) *ℤ t)) ≤ℤ (m *ℤ w)
mean_high m l r t w h k low high =
    let rest : pos 0 ≤ℤ (w -ℤ t) = omega (arith, ints) in
    rw (mean l r t w, ← whole_of m t w) (omega (arith, ints, mul_mono l m (w -ℤ t) rest h, mul_mono r m t low k))
