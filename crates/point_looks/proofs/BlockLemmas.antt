-- What is seen of segments, block after block.
use Rattle.std.proofs.Common.{◌≡◌, ℕ, ap, sym, ◌∙◌, arith, Bool, ◌||◌, not, List, [], ◌∷◌, ◌++◌, pos, ◌+◌, ◌*◌, ◌<◌, ◌≤◌, ◌%◌, ◌==◌, if◌then◌else◌, count_by, suc, length, get_or, take, drop, drop-cons}
use Rattle.std.specs.List.{AllByRecursion}
use Rattle.std.specs.List.Sorted.{IsPermutation}
use Rattle.std.proofs.lemmas.List.{append-nil, take-append-drop}
use Rattle.std.proofs.lemmas.List.Folds.{list_any-append}
use Rattle.std.proofs.lemmas.List.Sorted.{list_any-IsPermutation, sum_by-IsPermutation}
use Rattle.std.proofs.Math.ListN.{drop_of_length-le}
use Rattle.overlay_terms.specs.Plane.{Point, Segment, is_below, is_on, is_inside}
use Rattle.overlay_terms.specs.Laws.{is_on_any}
use Rattle.overlay_terms.proofs.ClosedRings.{bit, count-append}
use Rattle.plane_base.specs.Bounds.{Holds, Cover}
use Rattle.plane_base.specs.declared.bounds.Bounds.{Bounds}

parity : (a b : ℕ) (o t : Bool) → o ≡ (a % 2 == 1) → t ≡ (b % 2 == 1) → (if t then not o else o) ≡ ((a + b) % 2 == 1)
parity a b o t e f = grind (arith)

-- what is seen of a list, and then of more
module _ (p : Point) (xs ys : List Segment) (o t : Bool) where
  pub more_inside : o ≡ is_inside xs p → t ≡ is_inside ys p → (if t then not o else o) ≡ is_inside (xs ++ ys) p
  more_inside e f = parity (count_by (λ s. is_below s p) xs) (count_by (λ s. is_below s p) ys) o t e f ∙ ap (λ n. n % 2 == 1) (sym (count-append (λ s. is_below s p) xs ys))

  pub more_edge : o ≡ is_on_any xs p → t ≡ is_on_any ys p → (o || t) ≡ is_on_any (xs ++ ys) p
  more_edge e f = ap (λ b. b || t) e ∙ ap (λ b. is_on_any xs p || b) f ∙ sym (list_any-append (λ s. is_on s p) xs ys)

-- the order of segments has no meaning
module _ (p : Point) (xs ys : List Segment) (same : IsPermutation xs ys) where
  pub same_inside : is_inside ys p ≡ is_inside xs p
  same_inside = ap (λ n. n % 2 == 1) (sum_by-IsPermutation (λ s. bit (is_below s p)) xs ys same)

  pub same_edge : is_on_any ys p ≡ is_on_any xs p
  same_edge = sym (list_any-IsPermutation (λ s. is_on s p) xs ys same)

-- the next ranges and the next block
module _ (bounds : List Bounds) (rest : List Segment) (i : ℕ) (less : i < length bounds) (cover : Cover (drop i bounds) rest) where
  next : (b : Bounds) → drop i bounds ≡ get_or bounds i b ∷ drop (i + 1) bounds
  next b = let more : suc i ≡ i + 1 = omega arith in drop-cons bounds i b less ∙ ap (λ n. get_or bounds i b ∷ drop n bounds) more

  pub next_ranges : (b : Bounds) → AllByRecursion (Holds (get_or bounds i b)) (take 32 rest)
  next_ranges b = by_first (rw (next b) at cover) where
    by_first : Cover (get_or bounds i b ∷ drop (i + 1) bounds) rest → AllByRecursion (Holds (get_or bounds i b)) (take 32 rest)
    by_first k = k.0

  pub next_cover : Cover (drop (i + 1) bounds) (drop 32 rest)
  next_cover = by_first (rw (next b) at cover) where
    b : Bounds
    b = record { low_x = pos 0; high_x = pos 0; low_y = pos 0; high_y = pos 0 }

    by_first : Cover (get_or bounds i b ∷ drop (i + 1) bounds) rest → Cover (drop (i + 1) bounds) (drop 32 rest)
    by_first k = k.1

-- where no block is left, all have been seen
pub all_seen : (bounds : List Bounds) (segs rest : List Segment) (i : ℕ) → length bounds ≤ i → rest ≡ drop (32 * i) segs → Cover (drop i bounds) rest → take (32 * i) segs ≡ segs
all_seen bounds segs rest i l e h =
    let none : rest ≡ [] = rw (drop_of_length-le bounds l) at h in
    sym (append-nil (take (32 * i) segs)) ∙ ap (λ r. take (32 * i) segs ++ r) (sym none ∙ e) ∙ take-append-drop (32 * i) segs
