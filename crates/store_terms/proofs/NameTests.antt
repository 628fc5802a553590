-- A name stands for a place where the test says so.
use Rattle.std.proofs.Common.{◌≡◌, ℕ, pos, ◌<ℤ◌, Bool, true, not, ◌&&◌, Option, Some, None, refl, sym, ap, ◌∙◌, arith}
use Rattle.std.specs.Prelude.{◌↔◌, IsSome, IfSome, is_some, int_lt, nat_lt}
use Rattle.std.proofs.lemmas.Int.{ints}
use Rattle.std.proofs.lemmas.Bool.{false≢true, and_parts, and_from, not-true, not_from_false, ltb-true, lt-ltb, false_from_ne_true}
use Rattle.overlay_terms.specs.Plane.{Point, Segment, is_on}
use Rattle.overlay_terms.specs.Column.{column_count, border}
use Rattle.overlay_terms.specs.Tiles.{is_parallel}
use Rattle.overlay_terms.proofs.InputNumbers.{lt_true, true_lt}
use Rattle.exact_point.specs.declared.point.HPoint.{HPoint}
use Rattle.exact_point.specs.declared.point_name.PointName.{PointName}
use Rattle.exact_point.specs.declared.point_name.PointName.TheVariants.{Vertex, Cross, Border}
use Rattle.exact_point.specs.Place.{place}
use Rattle.exact_point.specs.PlaceOf.{place_of, crossing_place}
use Rattle.exact_point.specs.Crossing.{IsCrossingOf}
use Rattle.exact_point.specs.PointName.{IsPlaceOf, HasPlace, IsCutBy}
use Rattle.store_terms.specs.TileRecord.{has_place}

positive : (z : HPoint) → pos 0 <ℤ (place z).w
positive z = omega (arith, ints)

cut_tested : (s : Segment) (k : ℕ) → IsCutBy s k → has_place (Border s k) ≡ true
cut_tested s k cut =
    and_from (nat_lt k column_count && int_lt s.left.x (border k)) (int_lt (border k) s.right.x)
    (and_from (nat_lt k column_count) (int_lt s.left.x (border k)) (lt-ltb k column_count cut.known_column) (true_lt s.left.x (border k) cut.after_left))
    (true_lt (border k) s.right.x cut.before_right)

crossing_tested : (a b : Segment) (p : Point) → pos 0 <ℤ p.w → IsCrossingOf a b p → p ≡ crossing_place a b → has_place (Cross a b) ≡ true
crossing_tested a b p w crossing is =
    let test : (q : Point) → Bool = λ q. not (is_parallel a b) && int_lt (pos 0) q.w && is_on a q && is_on b q in
    ap test (sym is)
    ∙ and_from (not (is_parallel a b) && int_lt (pos 0) p.w && is_on a p) (is_on b p)
    (and_from (not (is_parallel a b) && int_lt (pos 0) p.w) (is_on a p)
    (and_from (not (is_parallel a b)) (int_lt (pos 0) p.w) (not_from_false (is_parallel a b) crossing.not_parallel) (true_lt (pos 0) p.w w)) crossing.on_first) crossing.on_second

pub there : (n : PointName) (z : HPoint) → HasPlace n → IsPlaceOf n (place z) → place z ≡ place_of n → has_place n ≡ true
there (Vertex v) z has at is = refl
there (Cross a b) z has at is = crossing_tested a b (place z) (positive z) at is
there (Border s k) z has at is = cut_tested s k has

pub back : (n : PointName) → has_place n ≡ true → HasPlace n
back (Vertex v) e = tt
back (Cross a b) e =
    let last = and_parts (not (is_parallel a b) && int_lt (pos 0) (crossing_place a b).w && is_on a (crossing_place a b)) (is_on b (crossing_place a b)) e in
    let mid = and_parts (not (is_parallel a b) && int_lt (pos 0) (crossing_place a b).w) (is_on a (crossing_place a b)) last.0 in
    let first = and_parts (not (is_parallel a b)) (int_lt (pos 0) (crossing_place a b).w) mid.0 in
    (crossing_place a b, lt_true (pos 0) (crossing_place a b).w first.1, record { not_parallel = not-true (is_parallel a b) first.0; on_first = mid.1; on_second = last.1 })
back (Border s k) e =
    let last = and_parts (nat_lt k column_count && int_lt s.left.x (border k)) (int_lt (border k) s.right.x) e in
    let first = and_parts (nat_lt k column_count) (int_lt s.left.x (border k)) last.0 in
    record { known_column = ltb-true k column_count first.0; after_left = lt_true s.left.x (border k) first.1; before_right = lt_true (border k) s.right.x last.1 }

pub tested : (n : PointName) (o : Option HPoint) → IsSome o ↔ HasPlace n → IfSome o (λ z. IsPlaceOf n (place z)) → IfSome o (λ z. place z ≡ place_of n) → is_some o ≡ has_place n
tested n None known at is = sym (false_from_ne_true (has_place n) (λ e. false≢true (known.1 (back n e))))
tested n (Some z) known at is = sym (there n z (known.0 refl) at is)
