-- Rings turned round, and rings given twice: what they do to the parity of the segments below a point.
use Rattle.std.specs.Prelude.{◌≡◌, ℕ, ◌+◌, ◌%◌, ◌==◌, Bool, ◌||◌, List, [], ◌∷◌, ◌++◌, reverse, sum_by, Option, Some, None}
use Rattle.std.specs.List.{list_any, cons_option}
use Rattle.std.specs.Ordering.{ordering_reverse}
use Rattle.std.specs.declared.cmp.Ordering.{Ordering}
use Rattle.std.specs.declared.cmp.Ordering.TheVariants.{Less, Equal, Greater}
use Rattle.std.proofs.Common.{refl, ap, sym, ◌∙◌, cond, arith, append_assoc}
use Rattle.std.proofs.lemmas.Bool.{or_left, or_right}
use Rattle.std.proofs.lemmas.Grind.{flat_map-append, reverse_onto}
use Rattle.std.proofs.lemmas.List.{reverse-append}
use Rattle.std.proofs.lemmas.List.Folds.{list_any-append}
use Rattle.std.proofs.lemmas.List.Sorted.{IsPermutation-reverse, list_any-IsPermutation, sum_by-IsPermutation}
use Rattle.std.proofs.lemmas.List.Sums.{sum_by-append}
use Rattle.overlay_terms.specs.Plane.{WholePoint, Point, Segment, whole_cmp, segment_between, ring_segments, segments_of, is_below, is_on}
use Rattle.overlay_terms.specs.Laws.{DirectionHasNoMeaning, TwiceIsAllEdge, is_on_any}
use Rattle.overlay_terms.proofs.PointOrder.{whole_cmp_total}

-- the same, by how the two points compare
same_by : (a b : WholePoint) (o r : Ordering) → whole_cmp a b ≡ o → whole_cmp b a ≡ r → r ≡ ordering_reverse o → segment_between (b, a) ≡ segment_between (a, b)
same_by a b Less Less e f g = absurd (cc)
same_by a b Less Equal e f g = absurd (cc)
same_by a b Less Greater e f g = rw (e, f)
same_by a b Equal Less e f g = absurd (cc)
same_by a b Equal Equal e f g = rw (e, f)
same_by a b Equal Greater e f g = absurd (cc)
same_by a b Greater Less e f g = rw (e, f)
same_by a b Greater Equal e f g = absurd (cc)
same_by a b Greater Greater e f g = absurd (cc)

-- a step gives the same segment both ways
segment_both_ways : (a b : WholePoint) → segment_between (b, a) ≡ segment_between (a, b)
segment_both_ways a b = same_by a b (whole_cmp a b) (whole_cmp b a) refl refl (whole_cmp_total.antisymm b a)

-- what a step adds, as a list
abbrev segment_list : WholePoint → WholePoint → List Segment
segment_list a b = cons_option (segment_between (a, b)) []

module _ {X : Type 0} where
  -- a step's segment, if it has one, in front of others
  cons_option-append : (o : Option X) (xs : List X) → cons_option o xs ≡ cons_option o [] ++ xs
  cons_option-append None xs = refl
  cons_option-append (Some x) xs = refl

  -- a list of at most one is its own reverse
  reverse-cons_option : (o : Option X) → reverse (cons_option o []) ≡ cons_option o []
  reverse-cons_option None = refl
  reverse-cons_option (Some x) = refl

-- the segments of a ring with two more points at its end
ring_segments-push : (xs : List WholePoint) (a b : WholePoint) → ring_segments (xs ++ a ∷ b ∷ []) ≡ ring_segments (xs ++ a ∷ []) ++ segment_list a b
ring_segments-push [] a b = refl
ring_segments-push (x ∷ []) a b =
    cons_option-append (segment_between (x, a)) (segment_list a b)
ring_segments-push (x ∷ y ∷ xs) a b =
    cons_option-append (segment_between (x, y)) _
    ∙ ap (λ ss. segment_list x y ++ ss) (ring_segments-push (y ∷ xs) a b)
    ∙ sym (append_assoc (segment_list x y) (ring_segments (y ∷ xs ++ a ∷ [])) (segment_list a b))
    ∙ ap (λ ss. ss ++ segment_list a b) (sym (cons_option-append (segment_between (x, y)) _))

-- a ring turned round has its segments in the opposite order
ring_segments-reverse : (ring : List WholePoint) → ring_segments (reverse ring) ≡ reverse (ring_segments ring)
ring_segments-reverse [] = refl
ring_segments-reverse (a ∷ []) = refl
ring_segments-reverse (a ∷ b ∷ rest) =
    ap ring_segments (reverse_onto rest b (a ∷ []))
    ∙ ring_segments-push (reverse rest) b a
    ∙ ap (λ ps. ring_segments ps ++ segment_list b a) (sym (reverse_onto rest b []))
    ∙ ap (λ ss. ss ++ segment_list b a) (ring_segments-reverse (b ∷ rest))
    ∙ ap (λ o. reverse (ring_segments (b ∷ rest)) ++ cons_option o []) (segment_both_ways a b)
    ∙ ap (λ ss. reverse (ring_segments (b ∷ rest)) ++ ss) (sym (reverse-cons_option (segment_between (a, b))))
    ∙ sym (reverse-append (segment_list a b) (ring_segments (b ∷ rest)))
    ∙ ap reverse (sym (cons_option-append (segment_between (a, b)) (ring_segments (b ∷ rest))))

-- a sum over the segments of some rings, one of them apart
sum_with_ring : (f : Segment → ℕ) (before after : List (List WholePoint)) (ring : List WholePoint) → sum_by f (segments_of (before ++ ring ∷ after)) ≡ sum_by f (segments_of before) + (sum_by f (ring_segments ring) + sum_by f (segments_of after))
sum_with_ring f before after ring =
    ap (sum_by f) (flat_map-append ring_segments before (ring ∷ after))
    ∙ sum_by-append f (segments_of before) (ring_segments ring ++ segments_of after)
    ∙ ap (λ n. sum_by f (segments_of before) + n) (sum_by-append f (ring_segments ring) (segments_of after))

-- a test over the segments of some rings, one of them apart
any_with_ring : (test : Segment → Bool) (before after : List (List WholePoint)) (ring : List WholePoint) → list_any test (segments_of (before ++ ring ∷ after)) ≡ (list_any test (segments_of before) || (list_any test (ring_segments ring) || list_any test (segments_of after)))
any_with_ring test before after ring =
    ap (list_any test) (flat_map-append ring_segments before (ring ∷ after))
    ∙ list_any-append test (segments_of before) (ring_segments ring ++ segments_of after)
    ∙ ap (λ b. list_any test (segments_of before) || b) (list_any-append test (ring_segments ring) (segments_of after))

-- a sum over the segments of a ring turned round
sum-reverse : (f : Segment → ℕ) (ring : List WholePoint) → sum_by f (ring_segments (reverse ring)) ≡ sum_by f (ring_segments ring)
sum-reverse f ring =
    ap (sum_by f) (ring_segments-reverse ring) ∙ sum_by-IsPermutation f (ring_segments ring) (reverse (ring_segments ring)) (IsPermutation-reverse (ring_segments ring))

-- a test over the segments of a ring turned round
any-reverse : (test : Segment → Bool) (ring : List WholePoint) → list_any test (ring_segments (reverse ring)) ≡ list_any test (ring_segments ring)
any-reverse test ring =
    ap (list_any test) (ring_segments-reverse ring) ∙ sym (list_any-IsPermutation test (ring_segments ring) (reverse (ring_segments ring)) (IsPermutation-reverse (ring_segments ring)))

-- twice as many change no parity
twice_even : (a r b : ℕ) → (a + (r + (r + b))) % 2 ≡ (a + b) % 2
twice_even a r b = omega arith

-- how a segment counts at a point
abbrev weight : Point → Segment → ℕ
weight p s = cond (is_below s p) 1 0

-- the direction of a ring has no meaning
pub direction_has_no_meaning : DirectionHasNoMeaning
direction_has_no_meaning before after ring p = (
  ap (λ n. n % 2 == 1)
      (sum_with_ring (weight p) before after (reverse ring)
      ∙ ap (λ n. sum_by (weight p) (segments_of before) + (n + sum_by (weight p) (segments_of after))) (sum-reverse (weight p) ring)
      ∙ sym (sum_with_ring (weight p) before after ring)),
  any_with_ring (λ s. is_on s p) before after (reverse ring)
      ∙ ap (λ b. is_on_any (segments_of before) p || (b || is_on_any (segments_of after) p)) (any-reverse (λ s. is_on s p) ring)
      ∙ sym (any_with_ring (λ s. is_on s p) before after ring),
)

-- a ring given twice changes no inside, and all of it is edge
pub twice_is_all_edge : TwiceIsAllEdge
twice_is_all_edge before after ring p = (
  ap (λ n. n == 1)
      (ap (λ n. n % 2)
      (sum_with_ring (weight p) before (ring ∷ after) ring
      ∙ ap (λ n. sum_by (weight p) (segments_of before) + (sum_by (weight p) (ring_segments ring) + n)) (sum_by-append (weight p) (ring_segments ring) (segments_of after)))
      ∙ twice_even (sum_by (weight p) (segments_of before)) (sum_by (weight p) (ring_segments ring)) (sum_by (weight p) (segments_of after))
      ∙ ap (λ n. n % 2)
      (sym (ap (sum_by (weight p)) (flat_map-append ring_segments before after) ∙ sum_by-append (weight p) (segments_of before) (segments_of after)))),
  λ on. any_with_ring (λ s. is_on s p) before (ring ∷ after) ring ∙ or_right (is_on_any (segments_of before) p) _ (or_left _ _ on),
)
