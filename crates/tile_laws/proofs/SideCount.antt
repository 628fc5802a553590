-- Counts of marked segments, by parity: where each has an even number of four signs, as many are under the line at both borders.
use Rattle.std.specs.Prelude.{◌≡◌, ℕ, ◌+◌, ◌%◌, ◌==◌, Bool, true, false, not, ◌&&◌, List, [], ◌∷◌, count_by, All}
use Rattle.std.proofs.Common.{refl, ap, sym, ◌∙◌, arith}
use Rattle.std.proofs.lemmas.List.Elements.{All-head, All-tail}
use Rattle.overlay_terms.specs.Plane.{WholePoint, same_whole}
use Rattle.overlay_terms.specs.Layers.{Marked}
use Rattle.overlay_terms.specs.TileLaws.{ends_at}
use Rattle.overlay_terms.proofs.ClosedRings.{bit, count-cons}
use Rattle.tile_laws.proofs.EvenRegion.{differ, odd, push_if, pushed}

-- ---- oddness of counts
parity_turns : (n : ℕ) → ((1 + n) % 2 == 1) ≡ not (n % 2 == 1)
parity_turns n = grind arith

-- one member more changes the oddness where it passes
one_more : (b : Bool) (n : ℕ) → ((bit b + n) % 2 == 1) ≡ differ b (n % 2 == 1)
one_more true n = parity_turns n
one_more false n = ap (λ m. m % 2 == 1) (omega arith)

-- a count is odd where an odd number passes
pub odd_count : {X : Type 0} → (f : X → Bool) (xs : List X) → (count_by f xs % 2 == 1) ≡ odd f xs
odd_count f [] = refl
odd_count f (x ∷ xs) = ap (λ n. n % 2 == 1) (count-cons f x xs) ∙ one_more (f x) (count_by f xs) ∙ ap (differ (f x)) (odd_count f xs)

-- four parities, in another order
apart_by : (a b c d : Bool) → differ (differ a b) (differ c d) ≡ differ (differ a c) (differ b d)
apart_by true true true d = refl
apart_by true true false true = refl
apart_by true true false false = refl
apart_by true false true true = refl
apart_by true false true false = refl
apart_by true false false true = refl
apart_by true false false false = refl
apart_by false true true true = refl
apart_by false true true false = refl
apart_by false true false true = refl
apart_by false true false false = refl
apart_by false false c d = refl

-- one test and not the other
pub odd_differ : {X : Type 0} → (f g : X → Bool) (xs : List X) → odd (λ x. differ (f x) (g x)) xs ≡ differ (odd f xs) (odd g xs)
odd_differ f g [] = refl
odd_differ f g (x ∷ xs) = ap (differ (differ (f x) (g x))) (odd_differ f g xs) ∙ apart_by (f x) (g x) (odd f xs) (odd g xs)

-- tests that agree on each member
pub odd_agree : {X : Type 0} → (f g : X → Bool) (xs : List X) → All (λ x. f x ≡ g x) xs → odd f xs ≡ odd g xs
odd_agree f g [] all = refl
odd_agree f g (x ∷ xs) all =
    ap (λ b. differ b (odd f xs)) (All-head (λ y. f y ≡ g y) x xs all)
    ∙ ap (differ (g x)) (odd_agree f g xs (All-tail (λ y. f y ≡ g y) x xs all))

-- a test that no member passes
pub odd_never : {X : Type 0} → (f : X → Bool) (xs : List X) → All (λ x. f x ≡ false) xs → odd f xs ≡ false
odd_never f [] all = refl
odd_never f (x ∷ xs) all =
    ap (λ b. differ b (odd f xs)) (All-head (λ y. f y ≡ false) x xs all) ∙ odd_never f xs (All-tail (λ y. f y ≡ false) x xs all)

-- ---- the ends of a layer's segments
abbrev pub layer_ends : ℕ → List Marked → List WholePoint
layer_ends k [] = []
layer_ends k (m ∷ ms) = push_if (not (m.layer == k)) m.segment.left (push_if (not (m.layer == k)) m.segment.right (layer_ends k ms))

-- the ends of one segment more
put_together : (b l r o e : Bool) → differ (not (not b) && l) (differ (not (not b) && r) (differ o e)) ≡ differ (differ (b && l) o) (differ (b && r) e)
put_together true l r o e = apart_by_two l r o e
  where
    apart_by_two : (l r o e : Bool) → differ l (differ r (differ o e)) ≡ differ (differ l o) (differ r e)
    apart_by_two l r o e = grind arith
put_together false l r o e = refl

-- a test on the ends is one on the left ends and one on the right ends
pub odd_ends : (f : WholePoint → Bool) (k : ℕ) (marked : List Marked) → odd f (layer_ends k marked) ≡ differ (odd (λ m. (m.layer == k) && f m.segment.left) marked) (odd (λ m. (m.layer == k) && f m.segment.right) marked)
odd_ends f k [] = refl
odd_ends f k (m ∷ ms) =
    pushed f (not (m.layer == k)) m.segment.left (push_if (not (m.layer == k)) m.segment.right (layer_ends k ms))
    ∙ ap (differ (not (not (m.layer == k)) && f m.segment.left))
    (pushed f (not (m.layer == k)) m.segment.right (layer_ends k ms)
    ∙ ap (differ (not (not (m.layer == k)) && f m.segment.right)) (odd_ends f k ms))
    ∙ put_together (m.layer == k) (f m.segment.left) (f m.segment.right) (odd (λ n. (n.layer == k) && f n.segment.left) ms) (odd (λ n. (n.layer == k) && f n.segment.right) ms)

-- two numbers with an even sum are both odd or both even
even_sum : (a b : ℕ) → (a + b) % 2 ≡ 0 → differ (a % 2 == 1) (b % 2 == 1) ≡ false
even_sum a b h = grind (arith, h)

-- whole points that are one
abbrev pub is_one : WholePoint → WholePoint → Bool
is_one v e = same_whole e v

-- a whole point that is an even number of ends
pub even_there : (k : ℕ) (v : WholePoint) (marked : List Marked) → ends_at marked k v % 2 ≡ 0 → odd (is_one v) (layer_ends k marked) ≡ false
even_there k v marked h =
    odd_ends (is_one v) k marked
    ∙ ap (λ b. differ b (odd (λ m. (m.layer == k) && same_whole m.segment.right v) marked)) (sym (odd_count (λ m. (m.layer == k) && same_whole m.segment.left v) marked))
    ∙ ap (differ (count_by (λ m. (m.layer == k) && same_whole m.segment.left v) marked % 2 == 1)) (sym (odd_count (λ m. (m.layer == k) && same_whole m.segment.right v) marked))
    ∙ even_sum (count_by (λ m. (m.layer == k) && same_whole m.segment.left v) marked) (count_by (λ m. (m.layer == k) && same_whole m.segment.right v) marked) h
