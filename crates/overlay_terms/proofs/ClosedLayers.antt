-- The segments of base layers are proper, and each whole point is an end of an even number of each layer's segments.
use Rattle.std.specs.Prelude.{◌≡◌, ℕ, ◌+◌, ◌%◌, ◌==◌, Bool, true, false, ◌&&◌, List, [], ◌∷◌, ◌++◌, map, flat_map, count_by, All}
use Rattle.std.specs.List.{cons_option, enumerate_from}
use Rattle.std.specs.Ordering.{ordering_reverse}
use Rattle.std.specs.declared.cmp.Ordering.{Ordering}
use Rattle.std.specs.declared.cmp.Ordering.TheVariants.{Less, Equal, Greater}
use Rattle.std.proofs.Common.{refl, ap, sym, ◌∙◌, arith}
use Rattle.std.proofs.lemmas.List.Elements.{All-nil, All-cons, All-head, All-tail, All-append, All-map, All-weaker, All-same}
use Rattle.overlay_terms.specs.Plane.{WholePoint, Segment, whole_cmp, same_whole, segment_between, ring_segments, segments_of, InRange}
use Rattle.overlay_terms.specs.Layers.{Marked}
use Rattle.overlay_terms.specs.TileLaws.{ends_at, IsProper}
use Rattle.overlay_terms.specs.InputLaws.{IsClosed, IsRing, segment_ends_at, LayersAreClosed}
use Rattle.overlay_terms.proofs.ClosedRings.{bit, count-cons, count-append, rings_are_closed}
use Rattle.overlay_terms.proofs.PointOrder.{whole_cmp_total}

-- a whole point with coordinates in range
abbrev IsPlaced : WholePoint → Type 0
IsPlaced p = InRange p.x × InRange p.y

-- the segment from one point to a later one is proper
proper_between : (a b : WholePoint) → whole_cmp a b ≡ Less → IsPlaced a → IsPlaced b → IsProper (record { left = a; right = b })
proper_between a b e left right =
    record { first = e; left_x = left.0; left_y = left.1; right_x = right.0; right_y = right.1 }

-- what a step adds is proper
step_proper : (a b : WholePoint) (rest : List Segment) (o : Ordering) → whole_cmp a b ≡ o → IsPlaced a → IsPlaced b → All IsProper rest → All IsProper (cons_option (segment_between (a, b)) rest)
step_proper a b rest Less e left right more =
    let same : cons_option (segment_between (a, b)) rest ≡ record { left = a; right = b } ∷ rest = rw e in
    All-same IsProper _ _ same (All-cons IsProper (record { left = a; right = b }) rest (proper_between a b e left right) more)
step_proper a b rest Equal e left right more =
    let same : cons_option (segment_between (a, b)) rest ≡ rest = rw e in
    All-same IsProper _ _ same more
step_proper a b rest Greater e left right more =
    let same : cons_option (segment_between (a, b)) rest ≡ record { left = b; right = a } ∷ rest = rw e in
    let back : whole_cmp b a ≡ Less = whole_cmp_total.antisymm b a ∙ ap ordering_reverse e in
    All-same IsProper _ _ same (All-cons IsProper (record { left = b; right = a }) rest (proper_between b a back right left) more)

-- the segments of points in range are proper
ring_proper : (ring : List WholePoint) → All IsPlaced ring → All IsProper (ring_segments ring)
ring_proper [] placed = All-nil IsProper
ring_proper (a ∷ []) placed = All-nil IsProper
ring_proper (a ∷ b ∷ rest) placed =
    let more : All IsPlaced (b ∷ rest) = All-tail IsPlaced a (b ∷ rest) placed in
    step_proper a b (ring_segments (b ∷ rest)) (whole_cmp a b) refl (All-head IsPlaced a (b ∷ rest) placed) (All-head IsPlaced b rest more) (ring_proper (b ∷ rest) more)

-- the segments of rings are proper
rings_proper : (rings : List (List WholePoint)) → All IsRing rings → All IsProper (segments_of rings)
rings_proper [] valid = All-nil IsProper
rings_proper (ring ∷ rings) valid =
    let first : IsRing ring = All-head IsRing ring rings valid in
    All-append IsProper (ring_segments ring) (segments_of rings) (ring_proper ring first.in_range) (rings_proper rings (All-tail IsRing ring rings valid))

-- a count over a map
pub count-map : {X Y : Type 0} (f : Y → Bool) (g : X → Y) (xs : List X) → count_by f (map g xs) ≡ count_by (λ x. f (g x)) xs
count-map f g [] = refl
count-map f g (x ∷ xs) =
    count-cons f (g x) (map g xs) ∙ ap (λ n. bit (f (g x)) + n) (count-map f g xs) ∙ sym (count-cons (λ y. f (g y)) x xs)

-- nothing passes a test that is false
count_none : {X : Type 0} (xs : List X) → count_by (λ _. false) xs ≡ 0
count_none [] = refl
count_none (x ∷ xs) =
    let one : count_by (λ _. false) (x ∷ xs) ≡ 0 + count_by (λ _. false) xs = count-cons (λ _. false) x xs in
    let rest : count_by (λ _. false) xs ≡ 0 = count_none xs in
    omega arith

-- the ends of some segments, or none of them, are even
ends_by : (b : Bool) (segments : List Segment) (v : WholePoint) → segment_ends_at segments v % 2 ≡ 0 → (count_by (λ s. b && same_whole s.left v) segments + count_by (λ s. b && same_whole s.right v) segments) % 2 ≡ 0
ends_by true segments v even = even
ends_by false segments v even = let none : count_by (λ (_ : Segment). false) segments ≡ 0 = count_none segments in rw (none)

-- segments with the number of their layer
abbrev pub numbered : ℕ → List Segment → List Marked
numbered n segments = map (λ s. record { layer = n; segment = s }) segments

-- the ends of one layer's segments
numbered_even : (n k : ℕ) (segments : List Segment) (v : WholePoint) → segment_ends_at segments v % 2 ≡ 0 → ends_at (numbered n segments) k v % 2 ≡ 0
numbered_even n k segments v even =
    let left : count_by (λ (m : Marked). (m.layer == k) && same_whole m.segment.left v) (numbered n segments) ≡ count_by (λ s. (n == k) && same_whole s.left v) segments = count-map (λ (m : Marked). (m.layer == k) && same_whole m.segment.left v) (λ s. record { layer = n; segment = s }) segments in
    let right : count_by (λ (m : Marked). (m.layer == k) && same_whole m.segment.right v) (numbered n segments) ≡ count_by (λ s. (n == k) && same_whole s.right v) segments = count-map (λ (m : Marked). (m.layer == k) && same_whole m.segment.right v) (λ s. record { layer = n; segment = s }) segments in
    let both : (count_by (λ s. (n == k) && same_whole s.left v) segments + count_by (λ s. (n == k) && same_whole s.right v) segments) % 2 ≡ 0 = ends_by (n == k) segments v even in
    omega arith

-- the ends of two lists of marked segments
marked-append : (xs ys : List Marked) (k : ℕ) (v : WholePoint) → ends_at (xs ++ ys) k v ≡ ends_at xs k v + ends_at ys k v
marked-append xs ys k v =
    let l : count_by (λ (m : Marked). (m.layer == k) && same_whole m.segment.left v) (xs ++ ys) ≡ count_by (λ m. (m.layer == k) && same_whole m.segment.left v) xs + count_by (λ m. (m.layer == k) && same_whole m.segment.left v) ys = count-append (λ m. (m.layer == k) && same_whole m.segment.left v) xs ys in
    let r : count_by (λ (m : Marked). (m.layer == k) && same_whole m.segment.right v) (xs ++ ys) ≡ count_by (λ m. (m.layer == k) && same_whole m.segment.right v) xs + count_by (λ m. (m.layer == k) && same_whole m.segment.right v) ys = count-append (λ m. (m.layer == k) && same_whole m.segment.right v) xs ys in
    omega arith

-- the segments of base layers numbered from a place on
abbrev pub marked_from : ℕ → List (List (List WholePoint)) → List Marked
marked_from n bases = flat_map (λ entry. numbered entry.0 (segments_of entry.1)) (enumerate_from n bases)

-- they are proper
from_proper : (n : ℕ) (bases : List (List (List WholePoint))) → All (All IsRing) bases → All (λ m. IsProper m.segment) (marked_from n bases)
from_proper n [] valid = All-nil (λ m. IsProper m.segment)
from_proper n (rings ∷ bases) valid =
    All-append (λ m. IsProper m.segment) (numbered n (segments_of rings)) (marked_from (n + 1) bases)
    (All-map (λ m. IsProper m.segment) (λ s. record { layer = n; segment = s }) (segments_of rings) (rings_proper rings (All-head (All IsRing) rings bases valid)))
    (from_proper (n + 1) bases (All-tail (All IsRing) rings bases valid))

-- closed rings leave each layer an even number of ends at a whole point
pub from_even : (n : ℕ) (bases : List (List (List WholePoint))) (k : ℕ) (v : WholePoint) → All (All IsClosed) bases → ends_at (marked_from n bases) k v % 2 ≡ 0
from_even n [] k v closed = refl
from_even n (rings ∷ bases) k v closed =
    let one : ends_at (numbered n (segments_of rings)) k v % 2 ≡ 0 = numbered_even n k (segments_of rings) v (rings_are_closed rings v (All-head (All IsClosed) rings bases closed)) in
    let rest : ends_at (marked_from (n + 1) bases) k v % 2 ≡ 0 = from_even (n + 1) bases k v (All-tail (All IsClosed) rings bases closed) in
    let both : ends_at (numbered n (segments_of rings) ++ marked_from (n + 1) bases) k v ≡ ends_at (numbered n (segments_of rings)) k v + ends_at (marked_from (n + 1) bases) k v = marked-append (numbered n (segments_of rings)) (marked_from (n + 1) bases) k v in
    omega arith

-- the segments of base layers are closed
pub layers_are_closed : LayersAreClosed
layers_are_closed bases valid =
    let closed : All (All IsClosed) bases = All-weaker (All IsRing) (All IsClosed) (λ rings all. All-weaker IsRing IsClosed (λ ring is. is.closed) rings all) bases valid in
    record { proper = from_proper 0 bases valid; even = λ k v. from_even 0 bases k v closed }
