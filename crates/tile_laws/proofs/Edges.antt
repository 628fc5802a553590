-- The edges of a tile: its pairs of points, each with the piece of the boundary that it is.
use Rattle.std.specs.Prelude.{◌≡◌, pos, ◌*ℤ◌, ◌<ℤ◌, ◌≤ℤ◌, Bool, true, ◌||◌, IsTrue, List, [], ◌∷◌, map, get_or, All, Any, AllPairs}
use Rattle.std.specs.List.{list_any}
use Rattle.std.specs.Ordering.{ordering_then}
use Rattle.std.specs.declared.cmp.Ordering.{Ordering}
use Rattle.std.specs.declared.cmp.Ordering.TheVariants.{Less, Equal}
use Rattle.std.proofs.Common.{refl, ap, sym, ◌∙◌, arith, subst}
use Rattle.std.proofs.Math.ListN.{length-map}
use Rattle.std.proofs.lemmas.Int.{ints}
use Rattle.std.proofs.lemmas.Bool.{and_from}
use Rattle.std.proofs.lemmas.List.{get_or-map}
use Rattle.std.proofs.lemmas.List.Elements.{All-head, All-tail}
use Rattle.std.proofs.lemmas.List.Folds.{Any-from_list_any, list_any-from_Any, list_any_at}
use Rattle.overlay_terms.specs.Plane.{Point, Segment, point_cmp, same_place, is_on}
use Rattle.overlay_terms.specs.Tiles.{Input, IsBoundary, pair_cmp}
use Rattle.overlay_terms.proofs.InputNumbers.{last_turned, less_times, most_times, most_back, less_back, true_le, true_lt}
use Rattle.overlay_terms.proofs.PlaceLemmas.{places_alike, on_alike}
use Rattle.overlay_terms.proofs.PointOrder.{order_is_total}
use Rattle.tile_laws.proofs.JustRight.{is_stretch_over}
use Rattle.tile_laws.proofs.Stretches.{IsStretch}

-- a pair of points that is a piece of the boundary
pub record Edge (input : Input) : Type 0 where
  pub from : Point
  pub to : Point
  pub boundary : IsBoundary input.marked input.steps input.column from to

-- its points
abbrev pub ends : {input : Input} → Edge input → Point × Point
ends e = (e.from, e.to)

-- the segment that it is on
abbrev pub support_of : {input : Input} → Edge input → Segment
support_of e = e.boundary.piece.support

module _ (input : Input) where
  -- the edges of a tile
  abbrev pub edges : (tile : List (Point × Point)) → All (λ a. IsBoundary input.marked input.steps input.column a.0 a.1) tile → List (Edge input)
  edges [] sound = []
  edges (a ∷ tile) sound =
      record { from = a.0; to = a.1; boundary = All-head (λ a. IsBoundary input.marked input.steps input.column a.0 a.1) a tile sound }
      ∷ edges tile (All-tail (λ a. IsBoundary input.marked input.steps input.column a.0 a.1) a tile sound)

  -- their points are the tile
  pub ends_are : (tile : List (Point × Point)) (sound : All (λ a. IsBoundary input.marked input.steps input.column a.0 a.1) tile) → map ends (edges tile sound) ≡ tile
  ends_are [] sound = refl
  ends_are (a ∷ tile) sound = ap (λ rest. a ∷ rest) (ends_are tile (All-tail (λ a. IsBoundary input.marked input.steps input.column a.0 a.1) a tile sound))

module _ {X Y : Type 0} (v : X → Y) where
  -- what holds of each value and each later one
  pub pairs_from_map : (R : Y → Y → Type 0) (xs : List X) → AllPairs R (map v xs) → AllPairs (λ a b. R (v a) (v b)) xs
  pairs_from_map R xs h =
      λ i j d l m.
      subst (λ y. R (v (get_or xs i d)) y) (get_or-map v xs j d (v d) m)
      (subst (λ y. R y (get_or (map v xs) j (v d))) (get_or-map v xs i d (v d) (omega (arith, l, m))) (h i j (v d) l (omega (arith, m, length-map xs v))))

  -- a test of the values
  any_from_map : (f : Y → Bool) (xs : List X) → list_any f (map v xs) ≡ list_any (λ x. f (v x)) xs
  any_from_map f [] = refl
  any_from_map f (x ∷ xs) = ap (λ b. f (v x) || b) (any_from_map f xs)

  -- where some value passes a test and what it says of an element makes another pass, the other passes somewhere
  pub any_behind : (f : Y → Bool) (g : X → Bool) (xs : List X) → Any (λ y. IsTrue (f y)) (map v xs) → ((x : X) → f (v x) ≡ true → g x ≡ true) → list_any g xs ≡ true
  any_behind f g xs found h =
      let there = Any-from_list_any (λ x. f (v x)) xs (sym (any_from_map f xs) ∙ list_any-from_Any f (map v xs) found) in
      list_any_at g xs there.0 there.1 there.2 (ap g there.3 ∙ h there.1 there.4)

-- ---- points at one place

module _ (p u : Point) (hp : pos 0 <ℤ p.w) (hu : pos 0 <ℤ u.w) (same : IsTrue (same_place p u)) where
  -- a segment with the one on it has the other on it
  pub on_other : (s : Segment) → is_on s u ≡ true → is_on s p ≡ true
  on_other s on = on_alike p u (places_alike p u hp hu same) s same ∙ on

  -- they compare Equal
  pub equal_places : point_cmp p u ≡ Equal
  equal_places = (order_is_total p u u hp hu hu).same.1 same

-- pairs of points at the same two places compare Equal
pub equal_pairs : (p r u v : Point) → point_cmp p u ≡ Equal → point_cmp r v ≡ Equal → pair_cmp (p, r) (u, v) ≡ Less → ⊥
equal_pairs p r u v e f less = absurd (two (point_cmp p u) (point_cmp r v) e f less)
  where
    two : (o c : Ordering) → o ≡ Equal → c ≡ Equal → ordering_then o c ≡ Less → ⊥
    two o c e f l = let k : ordering_then o c ≡ Equal = ap (λ z. ordering_then z c) e ∙ f in absurd (cc)

-- a stretch over an x between other points at the same places is over it
pub same_stretch : (p r u v q : Point) → IsStretch p r q → pos 0 <ℤ u.w → pos 0 <ℤ v.w → IsTrue (same_place p u) → IsTrue (same_place r v) → is_stretch_over (u, v) q ≡ true
same_stretch p r u v q h hu hv from to =
    let x_from : p.x *ℤ u.w ≡ u.x *ℤ p.w = (places_alike p u h.from_positive hu from).x_level in
    let x_to : r.x *ℤ v.w ≡ v.x *ℤ r.w = (places_alike r v h.to_positive hv to).x_level in
    let low : ((p.x *ℤ q.w) *ℤ u.w) ≤ℤ ((q.x *ℤ p.w) *ℤ u.w) = most_times (p.x *ℤ q.w) (q.x *ℤ p.w) u.w hu h.from_left in
    let high : ((q.x *ℤ r.w) *ℤ v.w) <ℤ ((r.x *ℤ q.w) *ℤ v.w) = less_times (q.x *ℤ r.w) (r.x *ℤ q.w) v.w hv h.before_right in
    let one : (p.x *ℤ q.w) *ℤ u.w ≡ (u.x *ℤ q.w) *ℤ p.w = last_turned p.x q.w u.w ∙ ap (λ z. z *ℤ q.w) x_from ∙ last_turned u.x p.w q.w in
    let two : (q.x *ℤ p.w) *ℤ u.w ≡ (q.x *ℤ u.w) *ℤ p.w = last_turned q.x p.w u.w in
    let three : (r.x *ℤ q.w) *ℤ v.w ≡ (v.x *ℤ q.w) *ℤ r.w = last_turned r.x q.w v.w ∙ ap (λ z. z *ℤ q.w) x_to ∙ last_turned v.x r.w q.w in
    let four : (q.x *ℤ r.w) *ℤ v.w ≡ (q.x *ℤ v.w) *ℤ r.w = last_turned q.x r.w v.w in
    let left : (u.x *ℤ q.w) ≤ℤ (q.x *ℤ u.w) = most_back (u.x *ℤ q.w) (q.x *ℤ u.w) p.w h.from_positive (omega (arith, ints)) in
    let right : (q.x *ℤ v.w) <ℤ (v.x *ℤ q.w) = less_back (q.x *ℤ v.w) (v.x *ℤ q.w) r.w h.to_positive (omega (arith, ints)) in
    and_from _ _ (true_le (u.x *ℤ q.w) (q.x *ℤ u.w) left) (true_lt (q.x *ℤ v.w) (v.x *ℤ q.w) right)
