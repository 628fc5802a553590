-- Bits of layers: those under a line and on it, and those of tests that agree.
use Rattle.std.specs.Prelude.{◌≡◌, ℕ, ℤ, pos, suc, ◌%◌, ◌==◌, int_lt, Bool, true, false, ◌&&◌, ◌||◌, List, [], ◌∷◌, map, count_by, All, Contains}
use Rattle.std.specs.Ordering.{int_eq}
use Rattle.std.proofs.Common.{refl, ap, sym, ◌∙◌, arith}
use Rattle.std.proofs.lemmas.Int.{ints}
use Rattle.std.proofs.lemmas.List.Elements.{All-nil, All-cons, All-weaker}
use Rattle.overlay_terms.specs.Plane.{Point, Segment}
use Rattle.overlay_terms.specs.Layers.{Marked}
use Rattle.exact_point.proofs.Lines.{gap}
use Rattle.exact_point.specs.Crossing.{turn_of}
use Rattle.tile_laws.proofs.JustRight.{is_over_x, is_under, is_level, bits_where, under_bits, up_to_bits}
use Rattle.tile_laws.proofs.EvenRegion.{differ, odd, odd_same}
use Rattle.tile_laws.proofs.SideCount.{odd_count, odd_differ, odd_agree}

-- ---- lists
-- each member's image is among the images
pub all_in_map : {X Y : Type 0} → (f : X → Y) (xs : List X) → All (λ x. Contains (map f xs) (f x)) xs
all_in_map f [] = All-nil (λ x. Contains (map f []) (f x))
all_in_map f (x ∷ xs) =
    All-cons (λ y. Contains (map f (x ∷ xs)) (f y)) x xs (0, omega arith, refl)
    (All-weaker (λ y. Contains (map f xs) (f y)) (λ y. Contains (map f (x ∷ xs)) (f y)) (λ y c. (suc c.0, omega (arith, c.1), c.2)) xs (all_in_map f xs))

-- ---- tests
exclusive : (o : Bool) (g a : ℤ) → (o && ((int_lt (pos 0) g || (int_eq g (pos 0) && int_lt (pos 0) a)) || (int_eq g (pos 0) && int_eq a (pos 0)))) ≡ differ (o && (int_lt (pos 0) g || (int_eq g (pos 0) && int_lt (pos 0) a))) (o && (int_eq g (pos 0) && int_eq a (pos 0)))
exclusive true g a = of_numbers g a
  where
    of_numbers : (g a : ℤ) → ((int_lt (pos 0) g || (int_eq g (pos 0) && int_lt (pos 0) a)) || (int_eq g (pos 0) && int_eq a (pos 0))) ≡ differ (int_lt (pos 0) g || (int_eq g (pos 0) && int_lt (pos 0) a)) (int_eq g (pos 0) && int_eq a (pos 0))
    of_numbers g a = grind (arith, ints)
exclusive false g a = refl

-- the same in one layer
in_layer : (b x y z : Bool) → x ≡ differ y z → (b && x) ≡ differ (b && y) (b && z)
in_layer true x y z h = h
in_layer false x y z h = refl

-- the bits under a line and on it are those under it, changed by those on it
pub up_to_split : (marked : List Marked) (s : Segment) (q : Point) (k : ℕ) → up_to_bits marked s q k ≡ differ (under_bits marked s q k) (bits_where (λ t. is_level t s q) marked q k)
up_to_split marked s q k =
    odd_count (λ m. (m.layer == k) && (is_over_x m.segment q && (is_under m.segment s q || is_level m.segment s q))) marked
    ∙ odd_same (λ m. (m.layer == k) && (is_over_x m.segment q && (is_under m.segment s q || is_level m.segment s q))) (λ m. differ ((m.layer == k) && (is_over_x m.segment q && is_under m.segment s q)) ((m.layer == k) && (is_over_x m.segment q && is_level m.segment s q))) marked
    (λ m. in_layer (m.layer == k) (is_over_x m.segment q && (is_under m.segment s q || is_level m.segment s q)) (is_over_x m.segment q && is_under m.segment s q) (is_over_x m.segment q && is_level m.segment s q)
    (exclusive (is_over_x m.segment q) (gap m.segment s q) (turn_of m.segment s)))
    ∙ odd_differ (λ m. (m.layer == k) && (is_over_x m.segment q && is_under m.segment s q)) (λ m. (m.layer == k) && (is_over_x m.segment q && is_level m.segment s q)) marked
    ∙ ap (λ b. differ b (odd (λ m. (m.layer == k) && (is_over_x m.segment q && is_level m.segment s q)) marked)) (sym (odd_count (λ m. (m.layer == k) && (is_over_x m.segment q && is_under m.segment s q)) marked))
    ∙ ap (differ (under_bits marked s q k)) (sym (odd_count (λ m. (m.layer == k) && (is_over_x m.segment q && is_level m.segment s q)) marked))

-- counts of tests that agree on each member have one parity
pub bits_agree : (f g : Marked → Bool) (marked : List Marked) → All (λ m. f m ≡ g m) marked → (count_by f marked % 2 == 1) ≡ (count_by g marked % 2 == 1)
bits_agree f g marked all = odd_count f marked ∙ odd_agree f g marked all ∙ sym (odd_count g marked)
