-- Pieces in their order, split by the columns in which they begin.
use Rattle.std.proofs.Common.{◌≡◌, ℕ, zero, suc, ℤ, pos, ◌+◌, ◌-◌, ◌<◌, ◌≤◌, ◌*ℤ◌, ◌<ℤ◌, ◌≤ℤ◌, Bool, true, false, cond, List, [], ◌∷◌, map, filter, take, drop, length, get_or, refl, ap, sym, subst, ◌∙◌, arith, inl, inr, ◌⊎◌}
use Rattle.std.specs.Prelude.{IsTrue, All, AllPairs, int_le, int_lt}
use Rattle.std.specs.List.{slice_range}
use Rattle.std.specs.Ordering.{ordering_then}
use Rattle.std.specs.declared.cmp.Ordering.{Ordering}
use Rattle.std.specs.declared.cmp.Ordering.TheVariants.{Less, Greater}
use Rattle.std.proofs.lemmas.Bool.{and_parts, and_from, both_ways}
use Rattle.std.proofs.lemmas.Int.{ints, by_lt_z}
use Rattle.overlay_terms.specs.Plane.{Point, point_cmp}
use Rattle.overlay_terms.specs.Column.{border, is_in_column}
use Rattle.overlay_terms.specs.Tiles.{pair_cmp}
use Rattle.std.proofs.lemmas.List.{get_or_default, get_or-map, length-map}
use Rattle.overlay_terms.proofs.InputLists.{map-filter}
use Rattle.overlay_terms.proofs.InputNumbers.{out_of_order_by_x, most_times, least_through, le_true, lt_true, true_le, true_lt}
use Rattle.crossing_sweep.specs.StripInput.{Span, is_in_strip}
use Rattle.tile_laws.proofs.Ranks.{Told, yes, no, told}

-- ---- lists
filter_none : {X : Type 0} (p : X → Bool) (xs : List X) → ((i : ℕ) (d : X) → i < length xs → p (get_or xs i d) ≡ false) → filter p xs ≡ []
filter_none p [] h = refl
filter_none p (x ∷ xs) h = ap (λ b. cond b (x ∷ filter p xs) (filter p xs)) (h 0 x (omega arith)) ∙ filter_none p xs (λ i d l. h (suc i) d (omega (arith, l)))

filter_first : {X : Type 0} (p : X → Bool) (xs : List X) (n : ℕ) → n ≤ length xs → ((i : ℕ) (d : X) → i < n → p (get_or xs i d) ≡ true) → ((i : ℕ) (d : X) → n ≤ i → i < length xs → p (get_or xs i d) ≡ false)
    → filter p xs ≡ take n xs
filter_first p xs zero fits h k = filter_none p xs (λ i d l. k i d (omega arith) l)
filter_first p [] (suc n) fits h k = absurd (omega (arith, fits))
filter_first p (x ∷ xs) (suc n) fits h k =
    ap (λ b. cond b (x ∷ filter p xs) (filter p xs)) (h 0 x (omega arith))
    ∙ ap (λ l. x ∷ l) (filter_first p xs n (omega (arith, fits)) (λ i d l. h (suc i) d (omega (arith, l))) (λ i d f l. k (suc i) d (omega (arith, f)) (omega (arith, l))))

-- what passes a test, where that is one stretch
filter_part : {X : Type 0} (p : X → Bool) (xs : List X) (s n : ℕ) → s + n ≤ length xs → ((i : ℕ) (d : X) → i < s → p (get_or xs i d) ≡ false)
    → ((i : ℕ) (d : X) → s ≤ i → i < s + n → p (get_or xs i d) ≡ true) → ((i : ℕ) (d : X) → s + n ≤ i → i < length xs → p (get_or xs i d) ≡ false) → filter p xs ≡ take n (drop s xs)
filter_part p xs zero n fits before h k = filter_first p xs n (omega (arith, fits)) (λ i d l. h i d (omega arith) (omega (arith, l))) (λ i d f l. k i d (omega (arith, f)) l)
filter_part p [] (suc s) n fits before h k = absurd (omega (arith, fits))
filter_part p (x ∷ xs) (suc s) n fits before h k =
    ap (λ b. cond b (x ∷ filter p xs) (filter p xs)) (before 0 x (omega arith))
    ∙ filter_part p xs s n (omega (arith, fits)) (λ i d l. before (suc i) d (omega (arith, l))) (λ i d f l. h (suc i) d (omega (arith, f)) (omega (arith, l))) (λ i d f l. k (suc i) d (omega (arith, f)) (omega (arith, l)))

-- ---- pairs in order begin from left to right
greater_is_not : (o : Ordering) → ordering_then Greater o ≡ Less → ⊥
greater_is_not o h = absurd (let e : Greater ≡ Less = h in cc)

from_left : (a b : Point × Point) → pair_cmp a b ≡ Less → (a.0.x *ℤ b.0.w) ≤ℤ (b.0.x *ℤ a.0.w)
from_left a b e =
    by_lt_z (b.0.x *ℤ a.0.w) (a.0.x *ℤ b.0.w)
    (λ h. absurd (greater_is_not (point_cmp a.1 b.1) (sym (ap (λ o. ordering_then o (point_cmp a.1 b.1)) (out_of_order_by_x a.0 b.0 h)) ∙ e))) (λ h. h)

-- ---- rows in their order, split at a border
module _ {X : Type 0} (ends : X → Point × Point) (rows : List X) where
  -- where a row begins
  abbrev pub left_of : ℕ → X → Point
  left_of i d = (ends (get_or rows i d)).0

  -- the rows before one begin left of a border, the others from it on
  pub record IsSplitAt (number start : ℕ) : Type 0 where
    pub fits : start ≤ length rows
    pub before : (i : ℕ) (d : X) → i < start → (left_of i d).x <ℤ (border number *ℤ (left_of i d).w)
    pub after : (i : ℕ) (d : X) → start ≤ i → i < length rows → (border number *ℤ (left_of i d).w) ≤ℤ (left_of i d).x

  -- of two rows the earlier one begins no further right
  in_order : AllPairs (λ a b. pair_cmp a b ≡ Less) (map ends rows) → (i j : ℕ) (d : X) → i < j → j < length rows
      → ((left_of i d).x *ℤ (left_of j d).w) ≤ℤ ((left_of j d).x *ℤ (left_of i d).w)
  in_order sorted i j d l m =
      let a = get_or-map ends rows i d (ends d) (omega (arith, l, m)) in
      let b = get_or-map ends rows j d (ends d) m in
      from_left (ends (get_or rows i d)) (ends (get_or rows j d))
      (ap (λ z. pair_cmp z (ends (get_or rows j d))) (sym a) ∙ ap (λ z. pair_cmp (get_or (map ends rows) i (ends d)) z) (sym b)
      ∙ sorted i j (ends d) l (omega (arith, m, length-map rows ends)))

  -- a row that begins from a column's left border on, before one that begins there, begins there too
  pub begins_too : AllPairs (λ a b. pair_cmp a b ≡ Less) (map ends rows) → ((i : ℕ) (d : X) → i < length rows → pos 0 <ℤ (left_of i d).w) → (number i j : ℕ) (d : X)
      → (border number *ℤ (left_of i d).w) ≤ℤ (left_of i d).x → i < j → j < length rows → is_in_column number (left_of j d) ≡ true → is_in_column number (left_of i d) ≡ true
  begins_too sorted positive number i j d from l m e =
      by_lt_z (left_of i d).x (border (number + 1) *ℤ (left_of i d).w)
      (λ h. and_from (int_le (border number *ℤ (left_of i d).w) (left_of i d).x) (int_lt (left_of i d).x (border (number + 1) *ℤ (left_of i d).w))
      (true_le (border number *ℤ (left_of i d).w) (left_of i d).x from) (true_lt (left_of i d).x (border (number + 1) *ℤ (left_of i d).w) h))
      (λ h. absurd (not_less
      (lt_true (left_of j d).x (border (number + 1) *ℤ (left_of j d).w) (and_parts (int_le (border number *ℤ (left_of j d).w) (left_of j d).x) (int_lt (left_of j d).x (border (number + 1) *ℤ (left_of j d).w)) e).1)
      (least_through (left_of i d) (left_of j d) (border (number + 1)) (positive i d (omega (arith, l, m))) (positive j d m) (in_order sorted i j d l m) h)))
    where
      not_less : {a b : ℤ} → a <ℤ b → b ≤ℤ a → ⊥
      not_less {a} {b} h k = omega (arith, ints, h, k)

  -- those from one to another begin in a column, and no more
  pub record IsPartOf (number start end : ℕ) : Type 0 where
    pub from : start ≤ end
    pub to : end ≤ length rows
    pub within : (i : ℕ) (d : X) → start ≤ i → i < end → is_in_column number (left_of i d) ≡ true
    pub next : (d : X) → end < length rows → is_in_column number (left_of end d) ≡ false

  module _ (sorted : AllPairs (λ a b. pair_cmp a b ≡ Less) (map ends rows)) (positive : (i : ℕ) (d : X) → i < length rows → pos 0 <ℤ (left_of i d).w) (number start end : ℕ)
      (split : IsSplitAt number start) (part : IsPartOf number start end) where
    rise : (w : ℤ) → pos 0 <ℤ w → (border number *ℤ w) ≤ℤ (border (number + 1) *ℤ w)
    rise w hw = most_times (border number) (border (number + 1)) w hw (next_border number)
      where
        next_border : (k : ℕ) → border k ≤ℤ border (k + 1)
        next_border k = omega (arith, ints)

    first_after : (d : X) → end < length rows → (border (number + 1) *ℤ (left_of end d).w) ≤ℤ (left_of end d).x
    first_after d l =
        by_lt_z (left_of end d).x (border (number + 1) *ℤ (left_of end d).w)
        (λ h. absurd (both_ways (is_in_column number (left_of end d)) (part.next d l)
        (and_from (int_le (border number *ℤ (left_of end d).w) (left_of end d).x) (int_lt (left_of end d).x (border (number + 1) *ℤ (left_of end d).w))
        (true_le (border number *ℤ (left_of end d).w) (left_of end d).x (split.after end d part.from l)) (true_lt (left_of end d).x (border (number + 1) *ℤ (left_of end d).w) h)))) (λ h. h)

    pub next_split : IsSplitAt (number + 1) end
    next_split = record { fits = part.to; before = before; after = after }
      where
        less_most : {a b c : ℤ} → a <ℤ b → b ≤ℤ c → a <ℤ c
        less_most {a} {b} {c} h k = omega (arith, ints, h, k)

        before : (i : ℕ) (d : X) → i < end → (left_of i d).x <ℤ (border (number + 1) *ℤ (left_of i d).w)
        before i d l = by (below_or i start)
          where
            below_or : (i s : ℕ) → (i < s) ⊎ (s ≤ i)
            below_or i s = search arith

            by : (i < start) ⊎ (start ≤ i) → (left_of i d).x <ℤ (border (number + 1) *ℤ (left_of i d).w)
            by (inl h) = less_most (split.before i d h) (rise (left_of i d).w (positive i d (omega (arith, h, split.fits))))
            by (inr h) = lt_true (left_of i d).x (border (number + 1) *ℤ (left_of i d).w) (and_parts (int_le (border number *ℤ (left_of i d).w) (left_of i d).x) (int_lt (left_of i d).x (border (number + 1) *ℤ (left_of i d).w)) (part.within i d h l)).1

        after : (i : ℕ) (d : X) → end ≤ i → i < length rows → (border (number + 1) *ℤ (left_of i d).w) ≤ℤ (left_of i d).x
        after i d h l = by (same_or end i h)
          where
            same_or : (e i : ℕ) → e ≤ i → (e ≡ i) ⊎ (e < i)
            same_or e i h = search (arith, h)

            by : (end ≡ i) ⊎ (end < i) → (border (number + 1) *ℤ (left_of i d).w) ≤ℤ (left_of i d).x
            by (inl e) = let P : ℕ → Type 0 = λ j. (border (number + 1) *ℤ (left_of j d).w) ≤ℤ (left_of j d).x in subst P e (first_after d (omega (arith, h, l)))
            by (inr m) =
                let known : end < length rows = omega (arith, m, l) in
                least_through (left_of end d) (left_of i d) (border (number + 1)) (positive end d known) (positive i d l) (in_order sorted end i d m l) (first_after d known)

    pub column_part : filter (λ a. is_in_column number a.0) (map ends rows) ≡ map ends (slice_range rows start end)
    column_part =
        sym (map-filter (λ (a : Point × Point). is_in_column number a.0) ends rows)
        ∙ ap (map ends) (filter_part (λ (row : X). is_in_column number (ends row).0) rows start (end - start) (omega (arith, part.from, part.to)) before within after)
      where
        not_both : {a b : ℤ} → a <ℤ b → b ≤ℤ a → ⊥
        not_both {a} {b} h k = omega (arith, ints, h, k)

        off : (z : Point) → (is_in_column number z ≡ true → ⊥) → is_in_column number z ≡ false
        off z h = by (told (is_in_column number z))
          where
            by : Told (is_in_column number z) → is_in_column number z ≡ false
            by (yes e) = absurd (h e)
            by (no e) = e

        before : (i : ℕ) (d : X) → i < start → is_in_column number (left_of i d) ≡ false
        before i d l =
            off (left_of i d)
            (λ e. not_both (split.before i d l) (le_true (border number *ℤ (left_of i d).w) (left_of i d).x (and_parts (int_le (border number *ℤ (left_of i d).w) (left_of i d).x) (int_lt (left_of i d).x (border (number + 1) *ℤ (left_of i d).w)) e).0))

        within : (i : ℕ) (d : X) → start ≤ i → i < start + (end - start) → is_in_column number (left_of i d) ≡ true
        within i d h l = part.within i d h (omega (arith, l, part.from))

        after : (i : ℕ) (d : X) → start + (end - start) ≤ i → i < length rows → is_in_column number (left_of i d) ≡ false
        after i d h l =
            off (left_of i d)
            (λ e. not_both (lt_true (left_of i d).x (border (number + 1) *ℤ (left_of i d).w) (and_parts (int_le (border number *ℤ (left_of i d).w) (left_of i d).x) (int_lt (left_of i d).x (border (number + 1) *ℤ (left_of i d).w)) e).1)
            (next_split.after i d (omega (arith, h, part.from)) l))

-- all rows begin from a strip's left border on
pub first_split : {X : Type 0} (ends : X → Point × Point) (rows : List X) (strip : Span) → All (λ a. IsTrue (is_in_strip strip a.0)) (map ends rows) → IsSplitAt ends rows strip.first 0
first_split {X} ends rows strip within = record { fits = omega arith; before = λ i d l. absurd (omega (arith, l)); after = λ i d h l. after i d l }
  where
    after : (i : ℕ) (d : X) → i < length rows → (border strip.first *ℤ (left_of ends rows i d).w) ≤ℤ (left_of ends rows i d).x
    after i d l =
        let z : Point = left_of ends rows i d in
        let there : is_in_strip strip (left_of ends rows i d) ≡ true =
        ap (λ a. is_in_strip strip a.0) (sym (get_or-map ends rows i d (ends d) l)) ∙ within i (ends d) (omega (arith, l, length-map rows ends)) in
        le_true (border strip.first *ℤ z.w) z.x (and_parts (int_le (border strip.first *ℤ z.w) z.x) (int_lt z.x (border (strip.last + 1) *ℤ z.w)) there).0

-- a number is below the next one, or the one before it
pub which : (k n : ℕ) → k < n + 1 → (k < n) ⊎ (n ≡ k)
which k n l = search (arith, l)

-- what is read from a list, whatever the default
pub row_read : {X : Type 0} (rows : List X) (i : ℕ) (row : X) → i < length rows → row ≡ get_or rows i row → (d : X) → get_or rows i d ≡ row
row_read rows i row l is d = get_or_default rows i d row l ∙ sym is

-- one more of those from a place on
pub within_more : {X : Type 0} (p : X → Bool) (xs : List X) (start end : ℕ) → ((i : ℕ) (d : X) → start ≤ i → i < end → p (get_or xs i d) ≡ true) → ((d : X) → p (get_or xs end d) ≡ true)
    → (i : ℕ) (d : X) → start ≤ i → i < end + 1 → p (get_or xs i d) ≡ true
within_more p xs start end h one i d f l = by (which i end l)
  where
    by : (i < end) ⊎ (end ≡ i) → p (get_or xs i d) ≡ true
    by (inl m) = h i d f m
    by (inr e) = ap (λ j. p (get_or xs j d)) (sym e) ∙ one d

-- rows in their order from one on, none of which begins left of a column, beside one of them
module _ {X : Type 0} (ends : X → Point × Point) (rows : List X) (sorted : AllPairs (λ a b. pair_cmp a b ≡ Less) (map ends rows)) (positive : (i : ℕ) (d : X) → i < length rows → pos 0 <ℤ (left_of ends rows i d).w)
    (number start : ℕ) (after : (i : ℕ) (d : X) → start ≤ i → i < length rows → (border number *ℤ (left_of ends rows i d).w) ≤ℤ (left_of ends rows i d).x) (j : ℕ) (from : start ≤ j) (few : j < length rows) where
  -- where it begins in the column, those before it do
  pub all_before : ((d : X) → is_in_column number (left_of ends rows j d) ≡ true) → (i : ℕ) (d : X) → start ≤ i → i < j + 1 → is_in_column number (left_of ends rows i d) ≡ true
  all_before e i d h l = by (which i j l)
    where
      by : (i < j) ⊎ (j ≡ i) → is_in_column number (left_of ends rows i d) ≡ true
      by (inl m) = begins_too ends rows sorted positive number i j d (after i d h (omega (arith, m, few))) m few (e d)
      by (inr n) = ap (λ k. is_in_column number (left_of ends rows k d)) (sym n) ∙ e d

  -- where it does not, those after it do not
  pub none_after : ((d : X) → is_in_column number (left_of ends rows j d) ≡ false) → (i : ℕ) (d : X) → j ≤ i → i < length rows → is_in_column number (left_of ends rows i d) ≡ false
  none_after e i d h l = by (which j i (omega (arith, h)))
    where
      later : j < i → Told (is_in_column number (left_of ends rows i d)) → is_in_column number (left_of ends rows i d) ≡ false
      later m (yes t) = absurd (both_ways (is_in_column number (left_of ends rows j d)) (e d) (begins_too ends rows sorted positive number j i d (after j d from few) m l t))
      later m (no f) = f

      by : (j < i) ⊎ (i ≡ j) → is_in_column number (left_of ends rows i d) ≡ false
      by (inl m) = later m (told (is_in_column number (left_of ends rows i d)))
      by (inr n) = ap (λ k. is_in_column number (left_of ends rows k d)) n ∙ e d
