-- What segments change among points, one segment after another, and one base layer after another.
use Rattle.std.specs.Prelude.{◌≡◌, ℕ, ◌+◌, ◌%◌, ◌*◌, ◌==◌, ◌<◌, ◌≤◌, Bool, true, false, ◌&&◌, ◌||◌, List, [], ◌∷◌, ◌++◌, map, length, take, replicate, count_by, sum_by, slice_index, Result, Ok, Err, IfOk}
use Rattle.std.specs.List.{list_any, range_with_len}
use Rattle.std.proofs.Common.{zero, suc, refl, ap, sym, subst, ◌∙◌, cond, arith, get_or, append_assoc, append-nil, take_all, Bor}
use Rattle.std.proofs.lemmas.List.{map_more, length-map, length-take-le}
use Rattle.std.proofs.lemmas.List.Folds.{fold-map, fold_stays, list_any-append, list_any_more}
use Rattle.std.proofs.lemmas.List.Sums.{sum_by-append, sum_by_more}
use Rattle.std.proofs.lemmas.List.{take-replicate, get_or-replicate, length-replicate}
use Rattle.std.proofs.lemmas.List.Folds.{sum_by-replicate}
use Rattle.std.proofs.lemmas.Nat.Bits.{bit_at_xor, bit_at-lt, bit_at-zero}
use Rattle.std.specs.Int.{bit_at}
use Rattle.std.specs.Int.RustNames.{bit_xor}
use Rattle.overlay_terms.specs.Laws.{is_on_any}
use Rattle.overlay_terms.specs.Layers.{Marked, marked_segments}
use Rattle.overlay_terms.specs.Plane.{WholePoint, Point, Segment, segments_of, is_below, is_inside, is_on}
use Rattle.overlay_terms.specs.Tiles.{below_bits}
use Rattle.overlay_terms.specs.Trees.{Steps, mask_bits, steps_value}
use Rattle.overlay_terms.proofs.Functions.{fun_ext}
use Rattle.overlay_terms.proofs.ClosedLayers.{marked_from}
use Rattle.overlay_grid.specs.declared.rising.Rise.{Rise}
use Rattle.overlay_grid.specs.Column.{AreTurnedBy, column_text, is_on_marked, mark_at, mark_by}
use Rattle.overlay_grid.specs.Rising.{point_at}
use Rattle.overlay_grid.specs.Turning.{AreMarked, AreTurned, flipped_if, is_marked, turned}
use Rattle.overlay_grid.proofs.Marked.{or_nothing}

-- ---- parities
by_two : (x y : ℕ) → x < 2 → y < 2 → ((x + y) % 2 == 1) ≡ flipped_if (y == 1) (x == 1)
by_two zero zero h k = refl
by_two zero (suc zero) h k = refl
by_two zero (suc (suc y)) h k = absurd (omega arith)
by_two (suc zero) zero h k = refl
by_two (suc zero) (suc zero) h k = refl
by_two (suc zero) (suc (suc y)) h k = absurd (omega arith)
by_two (suc (suc x)) y h k = absurd (omega arith)

odd_sum : (m n : ℕ) → ((m + n) % 2 == 1) ≡ flipped_if (n % 2 == 1) (m % 2 == 1)
odd_sum m n =
    let halves : (m + n) % 2 ≡ (m % 2 + n % 2) % 2 = omega arith in
    ap (λ r. r == 1) halves ∙ by_two (m % 2) (n % 2) (omega arith) (omega arith)

odd_one : (b : Bool) → (cond b 1 0 % 2 == 1) ≡ b
odd_one true = refl
odd_one false = refl

-- changes one after the other
flips : (s a b t : Bool) → flipped_if (s && b) (flipped_if (s && a) t) ≡ flipped_if (s && flipped_if b a) t
flips true true true true = refl
flips true true true false = refl
flips true true false t = refl
flips true false true t = refl
flips true false false t = refl
flips false a b t = refl

flips_all : (a b t : Bool) → flipped_if b (flipped_if a t) ≡ flipped_if (flipped_if b a) t
flips_all true true true = refl
flips_all true true false = refl
flips_all true false t = refl
flips_all false true t = refl
flips_all false false t = refl

-- ---- one segment after another
inside_more : (segs : List Segment) (i : ℕ) (s : Segment) (p : Point) → i < length segs → s ≡ get_or segs i s → is_inside (take (i + 1) segs) p ≡ flipped_if (is_below s p) (is_inside (take i segs) p)
inside_more segs i s p h e =
    ap (λ n. n % 2 == 1) (sum_by_more (λ t. cond (is_below t p) 1 0) segs i s h)
    ∙ odd_sum (sum_by (λ t. cond (is_below t p) 1 0) (take i segs)) (cond (is_below (get_or segs i s) p) 1 0)
    ∙ ap (λ b. flipped_if b (is_inside (take i segs) p)) (odd_one (is_below (get_or segs i s) p) ∙ ap (λ t. is_below t p) (sym e))

on_more : (segs : List Segment) (i : ℕ) (s : Segment) (p : Point) → i < length segs → s ≡ get_or segs i s → is_on_any (take (i + 1) segs) p ≡ (is_on_any (take i segs) p || is_on s p)
on_more segs i s p h e = list_any_more (λ t. is_on t p) segs i s h ∙ ap (λ t. is_on_any (take i segs) p || is_on t p) (sym e)

or_assoc : (a b c : Bool) → ((a || b) || c) ≡ (a || (b || c))
or_assoc true b c = refl
or_assoc false b c = refl

pub turned_none : (layer : ℕ) (rise : Rise) (turns : List ℕ) → AreTurned (is_inside []) layer rise turns turns
turned_none layer rise turns j k h = none (layer == k) (turned turns (j + 1) k) where
  none : (s t : Bool) → t ≡ flipped_if (s && false) t
  none true t = refl
  none false t = refl

pub marked_none_of : (rise : Rise) (edges : List Bool) → AreMarked (is_on_any []) rise edges edges
marked_none_of rise edges j h = or_nothing (is_marked edges j) false refl

pub turned_more : (layer : ℕ) (rise : Rise) (segs : List Segment) (i : ℕ) (s : Segment) (before now after : List ℕ) → i < length segs → s ≡ get_or segs i s → length now ≡ length before →
    AreTurned (is_inside (take i segs)) layer rise before now → AreTurned (is_below s) layer rise now after → AreTurned (is_inside (take (i + 1) segs)) layer rise before after
turned_more layer rise segs i s before now after h e len was new j k near =
    let p = point_at rise j in
    new j k (omega (arith, len, near))
    ∙ ap (flipped_if ((layer == k) && is_below s p)) (was j k near)
    ∙ flips (layer == k) (is_inside (take i segs) p) (is_below s p) (turned before (j + 1) k)
    ∙ ap (λ b. flipped_if ((layer == k) && b) (turned before (j + 1) k)) (sym (inside_more segs i s p h e))

pub edges_more : (rise : Rise) (segs : List Segment) (i : ℕ) (s : Segment) (before now after : List Bool) → i < length segs → s ≡ get_or segs i s → length now ≡ length before →
    AreMarked (is_on_any (take i segs)) rise before now → AreMarked (is_on s) rise now after → AreMarked (is_on_any (take (i + 1) segs)) rise before after
edges_more rise segs i s before now after h e len was new j near =
    let p = point_at rise j in
    new j (omega (arith, len, near)) ∙ ap (λ b. b || is_on s p) (was j near) ∙ or_assoc (is_marked before j) (is_on_any (take i segs) p) (is_on s p)
    ∙ ap (λ b. is_marked before j || b) (sym (on_more segs i s p h e))

-- the next mask changes the bits that it has
pub bits_more : (turns : List ℕ) (j mask k : ℕ) → j < length turns → mask_bits mask k ≡ turned turns j k → mask_bits (bit_xor mask (slice_index turns j)) k ≡ turned turns (j + 1) k
bits_more turns j mask k h e =
    let t = slice_index turns j in
    ap (λ n. n == 1) (bit_at_xor mask t k) ∙ by_two (bit_at mask k) (bit_at t k) (bit_at-lt mask k) (bit_at-lt t k)
    ∙ ap (flipped_if (mask_bits t k)) e
    ∙ ap (λ b. flipped_if b (turned turns j k)) (sym (odd_one (mask_bits t k)))
    ∙ sym (odd_sum (sum_by (λ m. cond (mask_bits m k) 1 0) (take j turns)) (cond (mask_bits t k) 1 0))
    ∙ ap (λ n. n % 2 == 1) (sym (sum_by_more (λ m. cond (mask_bits m k) 1 0) turns j 0 h))

-- ---- one base layer after another
abbrev marked_by : ℕ → List (List WholePoint) → List Marked
marked_by layer rings = map (λ s. record { layer = layer; segment = s }) (segments_of rings)

from_push : (n : ℕ) (bases : List (List (List WholePoint))) (rings : List (List WholePoint)) → marked_from n (bases ++ rings ∷ []) ≡ marked_from n bases ++ marked_by (n + length bases) rings
from_push n [] rings = let same : n ≡ n + 0 = omega arith in append-nil (marked_by n rings) ∙ ap (λ k. marked_by k rings) same
from_push n (b ∷ bases) rings =
    let same : (n + 1) + length bases ≡ n + length (b ∷ bases) = omega arith in
    ap (λ ms. marked_by n b ++ ms) (from_push (n + 1) bases rings)
    ∙ sym (append_assoc (marked_by n b) (marked_from (n + 1) bases) (marked_by ((n + 1) + length bases) rings))
    ∙ ap (λ k. (marked_by n b ++ marked_from (n + 1) bases) ++ marked_by k rings) same

segments_push : (n : ℕ) (bases : List (List (List WholePoint))) (rings : List (List WholePoint)) → length bases ≡ n → marked_segments (bases ++ rings ∷ []) ≡ marked_segments bases ++ marked_by n rings
segments_push n bases rings e =
    let same : 0 + length bases ≡ n = omega arith in
    from_push 0 bases rings ∙ ap (λ k. marked_segments bases ++ marked_by k rings) same

-- how many segments of a layer are below a point
abbrev count_of : Point → ℕ → List Marked → ℕ
count_of p k marked = count_by (λ m. (m.layer == k) && is_below m.segment p) marked

own_parity : (p : Point) (n k : ℕ) (rings : List (List WholePoint)) (b : Bool) → (n == k) ≡ b → (count_of p k (marked_by n rings) % 2 == 1) ≡ (b && is_inside (segments_of rings) p)
own_parity p n k rings true e =
    ap (λ m. m % 2 == 1)
    (fold-map (λ (a : ℕ) (m : Marked). a + cond ((m.layer == k) && is_below m.segment p) 1 0) (λ (s : Segment). record { layer = n; segment = s }) 0 (segments_of rings)
    ∙ ap (λ c. count_by (λ s. c && is_below s p) (segments_of rings)) e)
own_parity p n k rings false e =
    ap (λ m. m % 2 == 1)
    (fold-map (λ (a : ℕ) (m : Marked). a + cond ((m.layer == k) && is_below m.segment p) 1 0) (λ (s : Segment). record { layer = n; segment = s }) 0 (segments_of rings)
    ∙ ap (λ c. count_by (λ s. c && is_below s p) (segments_of rings)) e
    ∙ fold_stays (λ (a : ℕ) (s : Segment). a + cond (false && is_below s p) 1 0) 0 (λ s. refl) (segments_of rings))

bits_push : (p : Point) (n k : ℕ) (bases : List (List (List WholePoint))) (rings : List (List WholePoint)) → length bases ≡ n →
    below_bits (marked_segments (bases ++ rings ∷ [])) p k ≡ flipped_if ((n == k) && is_inside (segments_of rings) p) (below_bits (marked_segments bases) p k)
bits_push p n k bases rings e =
    ap (λ ms. below_bits ms p k) (segments_push n bases rings e)
    ∙ ap (λ m. m % 2 == 1) (sum_by-append (λ (m : Marked). cond ((m.layer == k) && is_below m.segment p) 1 0) (marked_segments bases) (marked_by n rings))
    ∙ odd_sum (count_of p k (marked_segments bases)) (count_of p k (marked_by n rings))
    ∙ ap (λ b. flipped_if b (below_bits (marked_segments bases) p k)) (own_parity p n k rings (n == k) refl)

any_by : (p : Point) (n : ℕ) (segs : List Segment) → list_any (λ (m : Marked). is_on m.segment p) (map (λ s. record { layer = n; segment = s }) segs) ≡ is_on_any segs p
any_by p n [] = refl
any_by p n (s ∷ segs) = ap (λ b. is_on s p || b) (any_by p n segs)

on_push : (p : Point) (n : ℕ) (bases : List (List (List WholePoint))) (rings : List (List WholePoint)) → length bases ≡ n →
    is_on_marked (marked_segments (bases ++ rings ∷ [])) p ≡ (is_on_marked (marked_segments bases) p || is_on_any (segments_of rings) p)
on_push p n bases rings e =
    ap (λ ms. is_on_marked ms p) (segments_push n bases rings e)
    ∙ list_any-append (λ (m : Marked). is_on m.segment p) (marked_segments bases) (marked_by n rings)
    ∙ ap (λ b. is_on_marked (marked_segments bases) p || b) (any_by p n (segments_of rings))

-- the rings behind references
abbrev pub rings_of : List (Bor (List (List WholePoint))) → List (List (List WholePoint))
rings_of bases = map (λ b. b.now) bases

taken : (bases : List (Bor (List (List WholePoint)))) (i : ℕ) → i ≤ length bases → length (rings_of (take i bases)) ≡ i
taken bases i h = length-map (take i bases) (λ (b : Bor (List (List WholePoint))). b.now) ∙ length-take-le i bases h

next : (bases : List (Bor (List (List WholePoint)))) (i : ℕ) (b : Bor (List (List WholePoint))) → i < length bases → b ≡ get_or bases i b → rings_of (take (i + 1) bases) ≡ rings_of (take i bases) ++ b.now ∷ []
next bases i b h is =
    map_more (λ (r : Bor (List (List WholePoint))). r.now) bases i b h ∙ ap (λ (r : Bor (List (List WholePoint))). rings_of (take i bases) ++ r.now ∷ []) (sym is)

-- what the base layers so far have changed
pub record AreDoneTo (rise : Rise) (bases : List (Bor (List (List WholePoint)))) (turns_before turns : List ℕ) (edges_before edges : List Bool) (i : ℕ) : Type 0 where
  pub turns_len : length turns ≡ length turns_before
  pub edges_len : length edges ≡ length edges_before
  pub turned_by : AreTurnedBy (marked_segments (rings_of (take i bases))) rise turns_before turns
  pub marked_by_all : AreMarked (is_on_marked (marked_segments (rings_of (take i bases)))) rise edges_before edges

pub done_none : (rise : Rise) (bases : List (Bor (List (List WholePoint)))) (turns : List ℕ) (edges : List Bool) → AreDoneTo rise bases turns turns edges edges 0
done_none rise bases turns edges = record {
  turns_len = refl;
  edges_len = refl;
  turned_by = λ j k h. refl;
  marked_by_all = λ j h. or_nothing (is_marked edges j) false refl;
}

pub done_more : (rise : Rise) (bases : List (Bor (List (List WholePoint)))) (t0 t1 t2 : List ℕ) (e0 e1 e2 : List Bool) (i : ℕ) (b : Bor (List (List WholePoint))) → i < length bases → b ≡ get_or bases i b →
    AreDoneTo rise bases t0 t1 e0 e1 i → length t2 ≡ length t1 → length e2 ≡ length e1 → AreTurned (is_inside (segments_of b.now)) i rise t1 t2 → AreMarked (is_on_any (segments_of b.now)) rise e1 e2 →
    AreDoneTo rise bases t0 t2 e0 e2 (i + 1)
done_more rise bases t0 t1 t2 e0 e1 e2 i b h is was tl el turn mark =
    let count : length (rings_of (take i bases)) ≡ i = taken bases i (omega arith) in
    let more = next bases i b h is in
    record {
      turns_len = tl ∙ was.turns_len;
      edges_len = el ∙ was.edges_len;
      turned_by = λ j k near.
          turn j k (omega (arith, was.turns_len, near)) ∙ ap (flipped_if ((i == k) && is_inside (segments_of b.now) (point_at rise j))) (was.turned_by j k near)
          ∙ flips_all (below_bits (marked_segments (rings_of (take i bases))) (point_at rise j) k) ((i == k) && is_inside (segments_of b.now) (point_at rise j)) (turned t0 (j + 1) k)
          ∙ ap (λ c. flipped_if c (turned t0 (j + 1) k)) (sym (bits_push (point_at rise j) i k (rings_of (take i bases)) b.now count) ∙ ap (λ rs. below_bits (marked_segments rs) (point_at rise j) k) (sym more));
      marked_by_all = λ j near.
          mark j (omega (arith, was.edges_len, near)) ∙ ap (λ c. c || is_on_any (segments_of b.now) (point_at rise j)) (was.marked_by_all j near)
          ∙ or_assoc (is_marked e0 j) (is_on_marked (marked_segments (rings_of (take i bases))) (point_at rise j)) (is_on_any (segments_of b.now) (point_at rise j))
          ∙ ap (λ c. is_marked e0 j || c) (sym (on_push (point_at rise j) i (rings_of (take i bases)) b.now count) ∙ ap (λ rs. is_on_marked (marked_segments rs) (point_at rise j)) (sym more));
    }

-- all of them
pub done_all : (rise : Rise) (bases : List (Bor (List (List WholePoint)))) (t0 t1 : List ℕ) (e0 e1 : List Bool) (i : ℕ) → length bases ≤ i → AreDoneTo rise bases t0 t1 e0 e1 i →
    AreTurnedBy (marked_segments (rings_of bases)) rise t0 t1 × AreMarked (is_on_marked (marked_segments (rings_of bases))) rise e0 e1
done_all rise bases t0 t1 e0 e1 i h was = (
  subst (λ bs. AreTurnedBy (marked_segments (rings_of bs)) rise t0 t1) (take_all i bases h) was.turned_by,
  subst (λ bs. AreMarked (is_on_marked (marked_segments (rings_of bs))) rise e0 e1) (take_all i bases h) was.marked_by_all,
)

-- ---- the answers
same_map : (f g : ℕ → ℕ) (a n : ℕ) → ((j : ℕ) → j < a + n → f j ≡ g j) → map f (range_with_len a n) ≡ map g (range_with_len a n)
same_map f g a zero h = refl
same_map f g a (suc n) h =
    ap (λ y. y ∷ map f (range_with_len (a + 1) n)) (h a (omega arith))
    ∙ ap (λ ys. g a ∷ ys) (same_map f g (a + 1) n (λ j l. h j (omega arith)))

-- how a mask counts for a bit
abbrev bit_weight : ℕ → ℕ → ℕ
bit_weight k t = cond (mask_bits t k) 1 0

no_bit : (k : ℕ) → bit_weight k 0 ≡ 0
no_bit k = ap weight (bit_at-zero k) where
  weight : ℕ → ℕ
  weight n = cond (n == 1) 1 0

times_none : (m : ℕ) → m * 0 ≡ 0
times_none m = omega arith

-- where nothing changes no bit has changed
pub turned_of_none : (n m k : ℕ) → m ≤ n → turned (replicate n 0) m k ≡ false
turned_of_none n m k h =
    ap (λ (xs : List ℕ). sum_by (bit_weight k) xs % 2 == 1) (take-replicate m n 0 h)
    ∙ ap (λ (c : ℕ). c % 2 == 1) (sum_by-replicate (bit_weight k) m 0 ∙ ap (λ b. m * b) (no_bit k) ∙ times_none m)

flipped_false : (b : Bool) → flipped_if b false ≡ b
flipped_false true = refl
flipped_false false = refl

-- where nothing had changed before, the answers are those of the segments
pub column_is : (marked : List Marked) (steps : Steps) (rise : Rise) (count : ℕ) (turns : List ℕ) (edges : List Bool) → length turns ≡ count → AreTurnedBy marked rise (replicate count 0) turns → AreMarked (is_on_marked marked) rise (replicate count false) edges →
    map (λ j. mark_by (is_marked edges j) (steps_value steps (turned turns (j + 1)))) (range_with_len 0 (length turns)) ≡ column_text marked steps rise count
column_is marked steps rise count turns edges len turn mark =
    ap (λ n. map (λ j. mark_by (is_marked edges j) (steps_value steps (turned turns (j + 1)))) (range_with_len 0 n)) len
    ∙ same_map (λ j. mark_by (is_marked edges j) (steps_value steps (turned turns (j + 1)))) (λ j. mark_at marked steps (point_at rise j)) 0 count each
  where
    on : (j : ℕ) → j < count → is_marked edges j ≡ is_on_marked marked (point_at rise j)
    on j h = mark j (omega (arith, length-replicate {A = Bool} count false)) ∙ ap (λ b. b || is_on_marked marked (point_at rise j)) (get_or-replicate count j false false h)

    bits : (j : ℕ) → j < count → turned turns (j + 1) ≡ below_bits marked (point_at rise j)
    bits j h =
        fun_ext
        (λ k. turn j k (omega (arith, length-replicate {A = ℕ} count 0)) ∙ ap (flipped_if (below_bits marked (point_at rise j) k)) (turned_of_none count (j + 1) k (omega arith)) ∙ flipped_false (below_bits marked (point_at rise j) k))

    each : (j : ℕ) → j < 0 + count → mark_by (is_marked edges j) (steps_value steps (turned turns (j + 1))) ≡ mark_at marked steps (point_at rise j)
    each j h =
        let near : j < count = omega arith in
        ap (λ b. mark_by b (steps_value steps (turned turns (j + 1)))) (on j near) ∙ ap (λ (f : ℕ → Bool). mark_by (is_on_marked marked (point_at rise j)) (steps_value steps f)) (bits j near)

-- what a call gave, where it is what was wanted
pub then_is : {V E : Type 0} (items : V → List ℕ) (r : Result V E) (x y : List ℕ) → IfOk r (λ v. items v ≡ x) → x ≡ y → IfOk r (λ v. items v ≡ y)
then_is items (Ok v) x y h e = h ∙ e
then_is items (Err f) x y h e = tt
