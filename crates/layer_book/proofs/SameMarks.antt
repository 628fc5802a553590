-- Marked segments of base layers, compared one base layer after another.
use Rattle.std.proofs.Common.{◌≡◌, ℕ, zero, suc, ◌+◌, ◌<◌, ◌≤◌, ◌==◌, Bool, true, false, cond, ◌&&◌, List, [], ◌∷◌, ◌++◌, length, map, flat_map, filter, drop, get_or, nat_le, slice_get, Some, refl, ap, sym, ◌∙◌, subst, arith, leb-false}
use borrow.Author.Tests.{leb-true}
use Rattle.std.specs.List.{enumerate_from}
use Rattle.std.specs.Cmp.Lexicographic.{pointwise}
use Rattle.std.proofs.lemmas.Bool.{false_from_ne_true, eqb-true}
use Rattle.std.proofs.lemmas.Bool.Decides.{Decides-eqb}
use Rattle.std.proofs.lemmas.List.{length-map, get_or-map}
use Rattle.std.proofs.lemmas.List.Elements.{filter-append}
use Rattle.overlay_terms.specs.Plane.{WholePoint, Segment, segments_of}
use Rattle.overlay_terms.specs.Column.{touches}
use Rattle.overlay_terms.specs.Layers.{Marked}
use Rattle.overlay_terms.specs.SameInput.{same_marked, same_segment}
use Rattle.overlay_terms.proofs.Lists.{drop_there}
use Rattle.arrange.specs.Marked.{kept_in}

-- a segment of the base layer with a number
abbrev pub mark : ℕ → Segment → Marked
mark n s = record { layer = n; segment = s }

-- the segments of base layers that have a point in a column, the layers numbered from a number on
abbrev pub marked_from : ℕ → ℕ → List (List (List WholePoint)) → List Marked
marked_from column n bases =
    kept_in column (flat_map (λ numbered. map (λ s. record { layer = numbered.0; segment = s }) (segments_of numbered.1)) (enumerate_from n bases))

-- the segments that have a point in a column, marked before or after
kept_marks : (column n : ℕ) (segs : List Segment) → kept_in column (map (mark n) segs) ≡ map (mark n) (filter (touches column) segs)
kept_marks column n [] = refl
kept_marks column n (s ∷ segs) = split (touches column s) (kept_marks column n segs) where
  split : (b : Bool) → kept_in column (map (mark n) segs) ≡ map (mark n) (filter (touches column) segs)
      → cond b (mark n s ∷ kept_in column (map (mark n) segs)) (kept_in column (map (mark n) segs)) ≡ map (mark n)
      (cond b (s ∷ filter (touches column) segs) (filter (touches column) segs))
  split true e = ap (λ ms. mark n s ∷ ms) e
  split false e = e

-- those of the first base layer, then those of the others
pub first_and_rest : (column n : ℕ) (b : List (List WholePoint)) (bs : List (List (List WholePoint)))
    → marked_from column n (b ∷ bs) ≡ map (mark n) (filter (touches column) (segments_of b)) ++ marked_from column (n + 1) bs
first_and_rest column n b bs =
    filter-append (λ (m : Marked). touches column m.segment) (map (mark n) (segments_of b))
    (flat_map (λ numbered. map (λ s. record { layer = numbered.0; segment = s }) (segments_of numbered.1)) (enumerate_from (n + 1) bs))
    ∙ ap (λ ms. ms ++ marked_from column (n + 1) bs) (kept_marks column n (segments_of b))

-- marked segments of base layers from a number on
abbrev AreFrom : ℕ → List Marked → Type 0
AreFrom n [] = Unit {0}
AreFrom n (m ∷ ms) = (n ≤ m.layer) × AreFrom n ms

from_less : (n : ℕ) (ms : List Marked) → AreFrom (n + 1) ms → AreFrom n ms
from_less n [] h = tt
from_less n (m ∷ ms) h = (omega (arith, h.0), from_less n ms h.1)

from_both : (n : ℕ) (xs ys : List Marked) → AreFrom n xs → AreFrom n ys → AreFrom n (xs ++ ys)
from_both n [] ys h k = k
from_both n (x ∷ xs) ys h k = (h.0, from_both n xs ys h.1 k)

from_marks : (n : ℕ) (segs : List Segment) → AreFrom n (map (mark n) segs)
from_marks n [] = tt
from_marks n (s ∷ segs) = (omega arith, from_marks n segs)

from_all : (column : ℕ) (bases : List (List (List WholePoint))) (n : ℕ) → AreFrom n (marked_from column n bases)
from_all column [] n = tt
from_all column (b ∷ bs) n =
    subst (AreFrom n) (sym (first_and_rest column n b bs))
    (from_both n (map (mark n) (filter (touches column) (segments_of b))) (marked_from column (n + 1) bs)
    (from_marks n (filter (touches column) (segments_of b))) (from_less n (marked_from column (n + 1) bs) (from_all column bs (n + 1))))

same_number : (n : ℕ) → (n == n) ≡ true
same_number n = (Decides-eqb n n).1 refl

other_number : (m n : ℕ) → n + 1 ≤ m → (m == n) ≡ false
other_number m n h = false_from_ne_true (m == n) (λ e. let same : m ≡ n = eqb-true m n e in absurd (omega arith))

number_other : (m n : ℕ) → n + 1 ≤ m → (n == m) ≡ false
number_other m n h = false_from_ne_true (n == m) (λ e. let same : n ≡ m = eqb-true n m e in absurd (omega arith))

and_grouped : (a b c : Bool) → (a && (b && c)) ≡ ((a && b) && c)
and_grouped true b c = refl
and_grouped false b c = refl

-- the segments of one base layer are compared apart from those of later ones
split_marks : (n : ℕ) (s t : List Segment) (x y : List Marked) → AreFrom (n + 1) x → AreFrom (n + 1) y
    → pointwise same_marked (map (mark n) s ++ x) (map (mark n) t ++ y) ≡ (pointwise same_segment s t && pointwise same_marked x y)
split_marks n [] [] x y hx hy = refl
split_marks n [] (v ∷ t) [] y hx hy = refl
split_marks n [] (v ∷ t) (m ∷ x) y hx hy =
    ap (λ b. (b && same_segment m.segment v) && pointwise same_marked x (map (mark n) t ++ y)) (other_number m.layer n hx.0)
split_marks n (u ∷ s) [] x [] hx hy = refl
split_marks n (u ∷ s) [] x (m ∷ y) hx hy =
    ap (λ b. (b && same_segment u m.segment) && pointwise same_marked (map (mark n) s ++ x) y) (number_other m.layer n hy.0)
split_marks n (u ∷ s) (v ∷ t) x y hx hy =
    ap (λ b. (b && same_segment u v) && pointwise same_marked (map (mark n) s ++ x) (map (mark n) t ++ y)) (same_number n)
    ∙ ap (λ q. same_segment u v && q) (split_marks n s t x y hx hy)
    ∙ and_grouped (same_segment u v) (pointwise same_segment s t) (pointwise same_marked x y)

-- the segments of the first base layers are compared apart
pub first_compared : (column n : ℕ) (new old : List (List WholePoint)) (news olds : List (List (List WholePoint))) →
    pointwise same_marked (marked_from column n (new ∷ news)) (marked_from column n (old ∷ olds))
    ≡ (pointwise same_segment (filter (touches column) (segments_of new)) (filter (touches column) (segments_of old)) && pointwise same_marked
    (marked_from column (n + 1) news) (marked_from column (n + 1) olds))
first_compared column n new old news olds =
    (λ i. pointwise same_marked (first_and_rest column n new news i) (first_and_rest column n old olds i))
    ∙ split_marks n (filter (touches column) (segments_of new)) (filter (touches column) (segments_of old))
    (marked_from column (n + 1) news) (marked_from column (n + 1) olds) (from_all column news (n + 1)) (from_all column olds (n + 1))

-- one base layer more is compared
pub compared_more : (column n : ℕ) (news olds : List (List (List WholePoint))) (new old : List (List WholePoint)) → drop n news ≡ new ∷ drop (n + 1) news → drop n olds ≡ old ∷ drop (n + 1) olds →
    pointwise same_marked (marked_from column n (drop n news)) (marked_from column n (drop n olds))
    ≡ (pointwise same_segment (filter (touches column) (segments_of new)) (filter (touches column) (segments_of old)) && pointwise same_marked
    (marked_from column (n + 1) (drop (n + 1) news)) (marked_from column (n + 1) (drop (n + 1) olds)))
compared_more column n news olds new old e f =
    (λ i. pointwise same_marked (marked_from column n (e i)) (marked_from column n (f i)))
    ∙ first_compared column n new old (drop (n + 1) news) (drop (n + 1) olds)

-- a segment that is next, by whether it has a point in the column
pub next_kept : (column : ℕ) (segs : List Segment) (i : ℕ) (s : Segment) → i < length segs → s ≡ get_or segs i s → touches column s ≡ true
    → filter (touches column) (drop i segs) ≡ s ∷ filter (touches column) (drop (i + 1) segs)
next_kept column segs i s h e t =
    ap (filter (touches column)) (drop_there segs i s h e) ∙ ap (λ b. cond b (s ∷ filter (touches column) (drop (i + 1) segs)) (filter (touches column) (drop (i + 1) segs))) t

pub next_skipped : (column : ℕ) (segs : List Segment) (i : ℕ) (s : Segment) → i < length segs → s ≡ get_or segs i s → touches column s ≡ false
    → filter (touches column) (drop i segs) ≡ filter (touches column) (drop (i + 1) segs)
next_skipped column segs i s h e t =
    ap (filter (touches column)) (drop_there segs i s h e) ∙ ap (λ b. cond b (s ∷ filter (touches column) (drop (i + 1) segs)) (filter (touches column) (drop (i + 1) segs))) t

-- nothing is left at the end
pub none_left : {A : Type 0} (xs : List A) (i : ℕ) → length xs ≤ i → drop i xs ≡ []
none_left [] zero h = refl
none_left [] (suc i) h = refl
none_left (x ∷ xs) zero h = absurd (omega arith)
none_left (x ∷ xs) (suc i) h = none_left xs i (omega arith)

-- what is left of a list of images
pub drop_mapped : {A B : Type 0} (f : A → B) (xs : List A) (i : ℕ) (x : A) → i < length xs → x ≡ get_or xs i x → drop i (map f xs) ≡ f x ∷ drop (i + 1) (map f xs)
drop_mapped f xs i x h e =
    drop_there (map f xs) i (f x) (subst (λ n. i < n) (sym (length-map xs f)) h) (ap f e ∙ sym (get_or-map f xs i x (f x) h))

pub read_is : {A : Type 0} (xs : List A) (i : ℕ) (x : A) → i < length xs → x ≡ get_or xs i x → slice_get xs i ≡ Some x
read_is [] i x h e = absurd (omega arith)
read_is (y ∷ xs) zero x h e = ap (λ z. Some z) (sym e)
read_is (y ∷ xs) (suc i) x h e = read_is xs i x (omega arith) e

pub read_there : {A : Type 0} (xs : List A) (i : ℕ) → i < length xs → (x : A) × (slice_get xs i ≡ Some x) × (x ≡ get_or xs i x)
read_there [] i h = absurd (omega arith)
read_there (y ∷ xs) zero h = (y, refl, refl)
read_there (y ∷ xs) (suc i) h = read_there xs i (omega arith)

-- two lists of segments are compared in a column: how far they agree
module _ (column : ℕ) (new old : List Segment) (whole : Bool) (i next : ℕ) (told : whole ≡ pointwise same_segment (filter (touches column) (drop i new)) (filter (touches column) (drop next old))) where
  pub told_skipped : (s : Segment) → i < length new → s ≡ get_or new i s → touches column s ≡ false
      → whole ≡ pointwise same_segment (filter (touches column) (drop (i + 1) new)) (filter (touches column) (drop next old))
  told_skipped s h e t = told ∙ ap (λ ss. pointwise same_segment ss (filter (touches column) (drop next old))) (next_skipped column new i s h e t)

  module _ (at : ℕ) (same : filter (touches column) (drop next old) ≡ filter (touches column) (drop at old)) (there : (s : Segment) → slice_get old at ≡ Some s → touches column s ≡ true) where
    -- both come to their next segment
    both_next : (s o : Segment) → i < length new → s ≡ get_or new i s → touches column s ≡ true → at < length old → o ≡ get_or old at o
        → whole ≡ (same_segment s o && pointwise same_segment (filter (touches column) (drop (i + 1) new))
        (filter (touches column) (drop (at + 1) old)))
    both_next s o h e t k f =
        told ∙ ap (λ ss. pointwise same_segment ss (filter (touches column) (drop next old))) (next_kept column new i s h e t)
        ∙ ap (λ os. pointwise same_segment (s ∷ filter (touches column) (drop (i + 1) new)) os) (same ∙ next_kept column old at o k f (there o (read_is old at o k f)))

    pub told_more : (s o : Segment) (r : Bool) → i < length new → s ≡ get_or new i s → touches column s ≡ true → at < length old
        → o ≡ get_or old at o → r ≡ same_segment s o → r ≡ true → whole ≡ pointwise same_segment (filter (touches column) (drop (i + 1) new))
        (filter (touches column) (drop (at + 1) old))
    told_more s o r h e t k f is holds =
        both_next s o h e t k f ∙ ap (λ b. b && pointwise same_segment (filter (touches column) (drop (i + 1) new)) (filter (touches column) (drop (at + 1) old))) (sym is ∙ holds)

    pub told_other : (s o : Segment) (r : Bool) → i < length new → s ≡ get_or new i s → touches column s ≡ true → at < length old
        → o ≡ get_or old at o → r ≡ same_segment s o → r ≡ false → false ≡ whole
    told_other s o r h e t k f is fails =
        sym (both_next s o h e t k f ∙ ap (λ b. b && pointwise same_segment (filter (touches column) (drop (i + 1) new)) (filter (touches column) (drop (at + 1) old))) (sym is ∙ fails))

    pub told_short : (s : Segment) → i < length new → s ≡ get_or new i s → touches column s ≡ true → length old ≤ at → false ≡ whole
    told_short s h e t k =
        sym (told ∙ ap (λ ss. pointwise same_segment ss (filter (touches column) (drop next old))) (next_kept column new i s h e t)
        ∙ ap (λ os. pointwise same_segment (s ∷ filter (touches column) (drop (i + 1) new)) os) (same ∙ ap (filter (touches column)) (none_left old at k)))

    pub told_all : length new ≤ i → nat_le (length old) at ≡ whole
    told_all h = split (nat_le (length old) at) refl where
      ended : whole ≡ pointwise same_segment [] (filter (touches column) (drop at old))
      ended = told ∙ (λ j. pointwise same_segment (filter (touches column) (none_left new i h j)) (same j))

      split : (b : Bool) → nat_le (length old) at ≡ b → b ≡ whole
      split true e = sym (ended ∙ ap (λ os. pointwise same_segment [] (filter (touches column) os)) (none_left old at (leb-true (length old) at e)))
      split false e =
          let k : at < length old = leb-false (length old) at e in
          let o = read_there old at k in
          sym (ended ∙ ap (λ os. pointwise same_segment [] os) (next_kept column old at o.0 k o.2 (there o.0 o.1)))
