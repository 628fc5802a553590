-- Coordinates at equal steps: all are in range where the first and the last are.
use Rattle.std.specs.Prelude.{◌≡◌, ℕ, ℤ, pos, negsuc, ◌+◌, ◌-◌, ◌*◌, ◌<◌, ◌≤◌, ◌+ℤ◌, ◌*ℤ◌, ◌≤ℤ◌, int_le, Bool, true, false}
use Rattle.std.specs.List.{list_all, range_with_len}
use Rattle.std.specs.Cmp.{both_ways}
use Rattle.std.proofs.Common.{zero, suc, refl, ap, sym, ◌∙◌, arith}
use Rattle.std.proofs.lemmas.Bool.{and_parts, and_from, false≢true, true_from_ne_false}
use Rattle.std.proofs.lemmas.Int.{ints}
use Rattle.std.proofs.lemmas.List.Folds.{list_all_at}
use Rattle.std.proofs.lemmas.List.FromFn.{length-range_with_len, get_or-range_with_len}
use Rattle.std.proofs.Math.Nat.{mul-le-mul_left}
use Rattle.overlay_terms.specs.Plane.{InRange, is_coordinate}
use Rattle.overlay_terms.proofs.Coordinates.{passes_in_range, in_range_passes}
use Rattle.overlay_terms.proofs.InputNumbers.{le_true, true_le}
use Rattle.overlay_grid.proofs.RisingLemmas.{first_is}
use Rattle.overlay_grid.specs.Grid.{Grid, all_in_range, is_within_range}

-- ---- a test at each place
all_true : (p : ℕ → Bool) (a n : ℕ) → ((i : ℕ) → i < a + n → p i ≡ true) → list_all p (range_with_len a n) ≡ true
all_true p a zero h = refl
all_true p a (suc n) h = and_from (p a) (list_all p (range_with_len (a + 1) n)) (h a (omega arith)) (all_true p (a + 1) n (λ i l. h i (omega arith)))

one_false : (p : ℕ → Bool) (n i : ℕ) → i < n → p i ≡ false → list_all p (range_with_len 0 n) ≡ false
one_false p n i h e =
    let here : 0 + i ≡ i = omega arith in
    list_all_at p (range_with_len 0 n) i 0 (omega (arith, length-range_with_len 0 n)) (ap p (get_or-range_with_len 0 n i 0 h ∙ here) ∙ e)

one_true : (p : ℕ → Bool) (n i : ℕ) → i < n → list_all p (range_with_len 0 n) ≡ true → p i ≡ true
one_true p n i h e = true_from_ne_false (p i) (λ f. false≢true (sym (one_false p n i h f) ∙ e))

-- a coordinate of those in range
pub one_in_range : (from step : ℤ) (count i : ℕ) → i < count → all_in_range from step count ≡ true → InRange (from +ℤ (step *ℤ pos i))
one_in_range from step count i h e = passes_in_range (from +ℤ (step *ℤ pos i)) (one_true (λ i. is_coordinate (from +ℤ (step *ℤ pos i))) count i h e)

pub first_in_range : (from step : ℤ) (count : ℕ) → 1 ≤ count → all_in_range from step count ≡ true → InRange from
first_in_range from step count some e =
    let first = first_is from step in
    let there = one_in_range from step count 0 (omega arith) e in
    rw (← first) at there

between : (from step : ℤ) (i last : ℕ) → pos 1 ≤ℤ step → i ≤ last → InRange from → (from +ℤ (step *ℤ pos last)) ≤ℤ pos 1048576 → InRange (from +ℤ (step *ℤ pos i))
between from (pos s) i last low h in_from most =
    let here : pos s *ℤ pos i ≡ pos (s * i) = refl in
    let there : pos s *ℤ pos last ≡ pos (s * last) = refl in
    let more : s * i ≤ s * last = mul-le-mul_left s h in
    (omega (arith, ints, in_from.0), omega (arith, ints))
between from (negsuc s) i last low h in_from most = absurd (omega (arith, ints))

-- where the first is in range, the last one decides
pub last_tells : (from step : ℤ) (count : ℕ) → pos 1 ≤ℤ step → 1 ≤ count → InRange from → int_le (from +ℤ (step *ℤ pos (count - 1))) (pos 1048576) ≡ all_in_range from step count
last_tells from step count low some in_from =
    both_ways (int_le (from +ℤ (step *ℤ pos (count - 1))) (pos 1048576)) (all_in_range from step count)
    (λ t. all_true (λ i. is_coordinate (from +ℤ (step *ℤ pos i))) 0 count
    (λ i l. in_range_passes (from +ℤ (step *ℤ pos i)) (between from step i (count - 1) low (omega arith) in_from (le_true (from +ℤ (step *ℤ pos (count - 1))) (pos 1048576) t))))
    (λ t. true_le (from +ℤ (step *ℤ pos (count - 1))) (pos 1048576) (one_in_range from step count (count - 1) (omega arith) t).1)

-- the points of a grid within range
pub row_in_range : (g : Grid) → is_within_range g ≡ true → all_in_range g.x g.step g.nx ≡ true
row_in_range g e = (and_parts (all_in_range g.x g.step g.nx) (all_in_range g.y g.step g.ny) e).0

pub column_in_range : (g : Grid) → is_within_range g ≡ true → all_in_range g.y g.step g.ny ≡ true
column_in_range g e = (and_parts (all_in_range g.x g.step g.nx) (all_in_range g.y g.step g.ny) e).1
