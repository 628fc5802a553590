-- Closed rings leave each whole point an end of an even number of segments.
use Rattle.std.specs.Prelude.{◌≡◌, ℕ, ◌+◌, ◌-◌, ◌%◌, Bool, ◌&&◌, List, [], ◌∷◌, ◌++◌, length, count_by, slice_get, Some}
use Rattle.std.specs.List.{cons_option}
use Rattle.std.specs.Ordering.{int_cmp, int_eq}
use Rattle.std.specs.Cmp.{int_ranked}
use Rattle.std.specs.declared.cmp.Ordering.{Ordering}
use Rattle.std.specs.declared.cmp.Ordering.TheVariants.{Less, Equal, Greater}
use Rattle.std.proofs.Common.{suc, refl, ap, sym, ◌∙◌, cond, arith}
use Rattle.std.proofs.lemmas.List.Elements.{All-head, All-tail}
use Rattle.std.proofs.lemmas.List.Sums.{sum_by-cons, sum_by-append}
use Rattle.overlay_terms.specs.Plane.{WholePoint, Segment, whole_cmp, same_whole, segment_between, ring_segments, segments_of}
use Rattle.overlay_terms.specs.InputLaws.{IsClosed, segment_ends_at, RingsAreClosed}
use Rattle.overlay_terms.proofs.PointOrder.{both_equal, same_points}

-- one where a test holds
abbrev pub bit : Bool → ℕ
bit b = cond b 1 0

-- one where two whole points are one
abbrev pub at : WholePoint → WholePoint → ℕ
at a v = bit (same_whole a v)

-- a count over one element more
pub count-cons : {X : Type 0} (f : X → Bool) (x : X) (xs : List X) → count_by f (x ∷ xs) ≡ bit (f x) + count_by f xs
count-cons f x xs = sum_by-cons (λ y. bit (f y)) x xs

-- a count over two lists
pub count-append : {X : Type 0} (f : X → Bool) (xs ys : List X) → count_by f (xs ++ ys) ≡ count_by f xs + count_by f ys
count-append f xs ys = sum_by-append (λ y. bit (f y)) xs ys

-- the ends of one segment more
ends-cons : (s : Segment) (rest : List Segment) (v : WholePoint) → segment_ends_at (s ∷ rest) v ≡ (at s.left v + at s.right v) + segment_ends_at rest v
ends-cons s rest v =
    let l : count_by (λ (t : Segment). same_whole t.left v) (s ∷ rest) ≡ at s.left v + count_by (λ t. same_whole t.left v) rest = count-cons (λ t. same_whole t.left v) s rest in
    let r : count_by (λ (t : Segment). same_whole t.right v) (s ∷ rest) ≡ at s.right v + count_by (λ t. same_whole t.right v) rest = count-cons (λ t. same_whole t.right v) s rest in
    omega arith

-- whole points that compare Equal are at the same places
at_same : (a b v : WholePoint) → whole_cmp a b ≡ Equal → at a v ≡ at b v
at_same a b v e =
    let parts : (int_cmp a.x b.x ≡ Equal) × (int_cmp a.y b.y ≡ Equal) = both_equal (int_cmp a.x b.x) (int_cmp a.y b.y) e in
    let ex : a.x ≡ b.x = int_ranked a.x b.x Equal (sym parts.0) in
    let ey : a.y ≡ b.y = int_ranked a.y b.y Equal (sym parts.1) in
    ap (λ z. bit (int_eq z v.x && int_eq a.y v.y)) ex ∙ ap (λ z. bit (int_eq b.x v.x && int_eq z v.y)) ey

-- the ends of the segments from a step on
step_ends : (a b v : WholePoint) (rest : List Segment) (o : Ordering) → whole_cmp a b ≡ o → segment_ends_at (cons_option (segment_between (a, b)) rest) v % 2 ≡ ((at a v + at b v) + segment_ends_at rest v) % 2
step_ends a b v rest Less e = rw e (ap (λ n. n % 2) (ends-cons (record { left = a; right = b }) rest v))
step_ends a b v rest Equal e =
    let same : at a v ≡ at b v = at_same a b v e in
    rw e (omega arith)
step_ends a b v rest Greater e =
    rw e (let more : segment_ends_at (record { left = b; right = a } ∷ rest) v ≡ (at b v + at a v) + segment_ends_at rest v = ends-cons (record { left = b; right = a }) rest v in omega arith)

-- the last of some points, the first of which is given apart
last_of : WholePoint → List WholePoint → WholePoint
last_of a [] = a
last_of a (b ∷ rest) = last_of b rest

-- the last point is the one at the greatest place
last_is : (a : WholePoint) (rest : List WholePoint) → slice_get (a ∷ rest) (length rest) ≡ Some (last_of a rest)
unfolding last_of
last_is a [] = refl
last_is a (b ∷ rest) = last_is b rest

-- the ends along a path are even but for its first and last points
path_ends : (a v : WholePoint) (rest : List WholePoint) → segment_ends_at (ring_segments (a ∷ rest)) v % 2 ≡ (at a v + at (last_of a rest) v) % 2
unfolding last_of
path_ends a v [] = omega arith
path_ends a v (b ∷ rest) =
    let step : segment_ends_at (ring_segments (a ∷ b ∷ rest)) v % 2 ≡ ((at a v + at b v) + segment_ends_at (ring_segments (b ∷ rest)) v) % 2 = step_ends a b v (ring_segments (b ∷ rest)) (whole_cmp a b) refl in
    let more : segment_ends_at (ring_segments (b ∷ rest)) v % 2 ≡ (at b v + at (last_of b rest) v) % 2 = path_ends b v rest in
    omega arith

-- a place before the end of a list that has one more
one_less : (n : ℕ) → suc n - 1 ≡ n
one_less n = omega arith

-- the ends of a closed ring are even
ring_ends : (ring : List WholePoint) (v : WholePoint) → IsClosed ring → segment_ends_at (ring_segments ring) v % 2 ≡ 0
ring_ends [] v closed = refl
ring_ends (a ∷ rest) v closed =
    let back : a ≡ last_of a rest = same_points a (last_of a rest) (rw (one_less (length rest), last_is a rest) at closed) in
    let path : segment_ends_at (ring_segments (a ∷ rest)) v % 2 ≡ (at a v + at (last_of a rest) v) % 2 = path_ends a v rest in
    let same : at a v ≡ at (last_of a rest) v = ap (λ b. at b v) back in
    omega arith

-- the ends of two lists of segments
ends-append : (xs ys : List Segment) (v : WholePoint) → segment_ends_at (xs ++ ys) v ≡ segment_ends_at xs v + segment_ends_at ys v
ends-append xs ys v =
    let l : count_by (λ (t : Segment). same_whole t.left v) (xs ++ ys) ≡ count_by (λ t. same_whole t.left v) xs + count_by (λ t. same_whole t.left v) ys = count-append (λ t. same_whole t.left v) xs ys in
    let r : count_by (λ (t : Segment). same_whole t.right v) (xs ++ ys) ≡ count_by (λ t. same_whole t.right v) xs + count_by (λ t. same_whole t.right v) ys = count-append (λ t. same_whole t.right v) xs ys in
    omega arith

-- closed rings leave each whole point an end of an even number of segments
pub rings_are_closed : RingsAreClosed
rings_are_closed [] v closed = refl
rings_are_closed (ring ∷ rings) v closed =
    let more : segment_ends_at (ring_segments ring ++ segments_of rings) v ≡ segment_ends_at (ring_segments ring) v + segment_ends_at (segments_of rings) v = ends-append (ring_segments ring) (segments_of rings) v in
    let one : segment_ends_at (ring_segments ring) v % 2 ≡ 0 = ring_ends ring v (All-head IsClosed ring rings closed) in
    let rest : segment_ends_at (segments_of rings) v % 2 ≡ 0 = rings_are_closed rings v (All-tail IsClosed ring rings closed) in
    omega arith
