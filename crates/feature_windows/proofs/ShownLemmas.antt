-- Segments drawn layer after layer show these layers, and a pass may take them.
use Rattle.std.proofs.Common.{◌≡◌, ℕ, zero, suc, pos, ◌+◌, ◌<◌, ◌≤◌, ◌<ℤ◌, refl, ap, sym, subst, ◌∙◌, arith, true, false, Bool, not, ◌&&◌, ◌==◌, ◌%◌, List, [], ◌∷◌, ◌++◌, length, map, take, count_by, if◌then◌else◌}
use Rattle.std.specs.Prelude.{get_or, All}
use Rattle.std.proofs.lemmas.List.{map-append, length-take-le, take_more}
use Rattle.std.proofs.lemmas.List.Elements.{All-nil, All-cons, All-append, All-map, All-weaker}
use Rattle.std.proofs.Math.ListN.{length-append}
use Rattle.overlay_terms.specs.Plane.{WholePoint, Point, Segment, same_whole, is_below, is_inside, segments_of}
use Rattle.overlay_terms.specs.Column.{column_count}
use Rattle.overlay_terms.specs.Layers.{layers_max, Marked}
use Rattle.overlay_terms.specs.Tiles.{below_bits}
use Rattle.overlay_terms.specs.Trees.{Steps, steps_value}
use Rattle.overlay_terms.specs.TileLaws.{ends_at, AreClosed, IsProper}
use Rattle.overlay_terms.specs.InputLaws.{segment_ends_at}
use Rattle.overlay_terms.proofs.ClosedRings.{count-cons, count-append}
use Rattle.overlay_terms.proofs.ClosedLayers.{count-map, numbered}
use Rattle.arrange.specs.Marked.{marked_of}
use Rattle.arrange.specs.declared.marked_seg.MarkedSeg.{MarkedSeg}
use Rattle.map_window.specs.Window.{Box, IsIn, moved}
use Rattle.near_steps.specs.Cores.{low_of}
use Rattle.near_steps.specs.Drawn.{marks}
use Rattle.crossing_sweep.specs.StripInput.{Span, IsStripInput}
use Rattle.feature_windows.specs.Shown.{rings_at, AreShown, HasLayer}

-- ---- the rings of a layer after one more
suc_zero : (n : ℕ) → (suc n == zero) ≡ false
suc_zero n = grind (arith)

zero_suc : (n : ℕ) → (zero == suc n) ≡ false
zero_suc n = grind (arith)

eq_suc : (n m : ℕ) → (suc n == suc m) ≡ (n == m)
eq_suc n m = grind (arith)

never : (b : Bool) → b ≡ false → b ≡ true → ⊥
never true e f = cc
never false e f = cc

pub at_push : (k : ℕ) (layers : List (List (List WholePoint))) (rings : List (List WholePoint)) → rings_at k (layers ++ rings ∷ []) ≡ (if length layers == k then rings else rings_at k layers)
at_push zero [] rings = refl
at_push (suc k) [] rings = rw (zero_suc k) refl
at_push zero (one ∷ layers) rings = rw (suc_zero (length layers)) refl
at_push (suc k) (one ∷ layers) rings = rw (eq_suc (length layers) k) (at_push k layers rings)

at_end : (k : ℕ) (layers : List (List (List WholePoint))) → (length layers == k) ≡ true → rings_at k layers ≡ []
at_end k [] e = refl
at_end zero (one ∷ layers) e = absurd (never (suc (length layers) == zero) (suc_zero (length layers)) e)
at_end (suc k) (one ∷ layers) e = at_end k layers (sym (eq_suc (length layers) k) ∙ e)

-- ---- which layers are below a point
pub none : {X : Type 0} (xs : List X) → count_by (λ _. false) xs ≡ 0
none [] = refl
none (x ∷ xs) =
    let one : count_by (λ _. false) (x ∷ xs) ≡ 0 + count_by (λ _. false) xs = count-cons (λ _. false) x xs in
    let rest : count_by (λ _. false) xs ≡ 0 = none xs in
    omega arith

bits_by : (b : Bool) (segments : List Segment) (p : Point) → (count_by (λ s. b && is_below s p) segments % 2 == 1) ≡ (b && is_inside segments p)
bits_by true segments p = refl
bits_by false segments p = let nothing : count_by (λ (_ : Segment). false) segments ≡ 0 = none segments in ap (λ n. n % 2 == 1) nothing

layer_bits : (n k : ℕ) (segments : List Segment) (p : Point) → below_bits (numbered n segments) p k ≡ ((n == k) && is_inside segments p)
layer_bits n k segments p =
    ap (λ c. c % 2 == 1) (count-map (λ (m : Marked). (m.layer == k) && is_below m.segment p) (λ s. record { layer = n; segment = s }) segments)
    ∙ bits_by (n == k) segments p

parity : (a b : ℕ) (o t : Bool) → o ≡ (a % 2 == 1) → t ≡ (b % 2 == 1) → (if t then not o else o) ≡ ((a + b) % 2 == 1)
parity a b o t e f = grind (arith)

bits-append : (xs ys : List Marked) (p : Point) (k : ℕ) → below_bits (xs ++ ys) p k ≡ (if below_bits ys p k then not (below_bits xs p k) else below_bits xs p k)
bits-append xs ys p k =
    ap (λ n. n % 2 == 1) (count-append (λ (m : Marked). (m.layer == k) && is_below m.segment p) xs ys)
    ∙ sym (parity (count_by (λ (m : Marked). (m.layer == k) && is_below m.segment p) xs) (count_by (λ (m : Marked). (m.layer == k) && is_below m.segment p) ys) (below_bits xs p k) (below_bits ys p k) refl refl)

odd : (t b : Bool) → b ≡ false → (if t then not b else b) ≡ t
odd true b e = rw e refl
odd false b e = e

-- ---- the ends of a layer's segments
ends_by : (b : Bool) (segments : List Segment) (v : WholePoint) → segment_ends_at segments v % 2 ≡ 0 → (count_by (λ s. b && same_whole s.left v) segments + count_by (λ s. b && same_whole s.right v) segments) % 2 ≡ 0
ends_by true segments v even = even
ends_by false segments v even = let nothing : count_by (λ (_ : Segment). false) segments ≡ 0 = none segments in rw (nothing)

numbered_even : (n k : ℕ) (segments : List Segment) (v : WholePoint) → segment_ends_at segments v % 2 ≡ 0 → ends_at (numbered n segments) k v % 2 ≡ 0
numbered_even n k segments v even =
    let left : count_by (λ (m : Marked). (m.layer == k) && same_whole m.segment.left v) (numbered n segments) ≡ count_by (λ s. (n == k) && same_whole s.left v) segments = count-map (λ (m : Marked). (m.layer == k) && same_whole m.segment.left v) (λ s. record { layer = n; segment = s }) segments in
    let right : count_by (λ (m : Marked). (m.layer == k) && same_whole m.segment.right v) (numbered n segments) ≡ count_by (λ s. (n == k) && same_whole s.right v) segments = count-map (λ (m : Marked). (m.layer == k) && same_whole m.segment.right v) (λ s. record { layer = n; segment = s }) segments in
    let both : (count_by (λ s. (n == k) && same_whole s.left v) segments + count_by (λ s. (n == k) && same_whole s.right v) segments) % 2 ≡ 0 = ends_by (n == k) segments v even in
    omega arith

ends-append : (xs ys : List Marked) (k : ℕ) (v : WholePoint) → ends_at (xs ++ ys) k v ≡ ends_at xs k v + ends_at ys k v
ends-append xs ys k v =
    let l : count_by (λ (m : Marked). (m.layer == k) && same_whole m.segment.left v) (xs ++ ys) ≡ count_by (λ m. (m.layer == k) && same_whole m.segment.left v) xs + count_by (λ m. (m.layer == k) && same_whole m.segment.left v) ys = count-append (λ m. (m.layer == k) && same_whole m.segment.left v) xs ys in
    let r : count_by (λ (m : Marked). (m.layer == k) && same_whole m.segment.right v) (xs ++ ys) ≡ count_by (λ m. (m.layer == k) && same_whole m.segment.right v) xs + count_by (λ m. (m.layer == k) && same_whole m.segment.right v) ys = count-append (λ m. (m.layer == k) && same_whole m.segment.right v) xs ys in
    omega arith

-- ---- one layer more
marks_are : (n : ℕ) (segments : List Segment) → map marked_of (marks n segments) ≡ numbered n segments
marks_are n [] = refl
marks_are n (s ∷ segments) = ap (λ (ms : List Marked). record { layer = n; segment = s } ∷ ms) (marks_are n segments)

numbered_known : (n limit : ℕ) → n < limit → (segments : List Segment) → All (λ m. m.layer < limit) (numbered n segments)
numbered_known n limit h [] = All-nil (λ m. m.layer < limit)
numbered_known n limit h (s ∷ segments) = All-cons (λ m. m.layer < limit) (record { layer = n; segment = s }) (numbered n segments) h (numbered_known n limit h segments)

pub nothing_shown : (core : Box) → AreShown core [] []
nothing_shown core = record {
  shows = λ q positive here k. refl;
  closed = record { proper = All-nil (λ m. IsProper m.segment); even = λ k v. refl };
  known = All-nil (λ m. m.layer < 0);
}

module _ (core : Box) (layers : List (List (List WholePoint))) (rings : List (List WholePoint)) (old new : List MarkedSeg) (before : AreShown core layers (map marked_of old)) (more : HasLayer core (length layers) rings old new) where
  all_are : map marked_of new ≡ map marked_of old ++ numbered (length layers) more.drawn.segments
  all_are =
      ap (map marked_of) more.drawn.added ∙ map-append marked_of old (marks (length layers) more.drawn.segments)
      ∙ ap (λ ms. map marked_of old ++ ms) (marks_are (length layers) more.drawn.segments)

  step_bits : (q : Point) → pos 0 <ℤ q.w → IsIn core q → (k : ℕ) (e : Bool) → (length layers == k) ≡ e
      → (if e && is_inside more.drawn.segments (moved (low_of core) q) then not (below_bits (map marked_of old) (moved (low_of core) q) k) else below_bits (map marked_of old) (moved (low_of core) q) k)
      ≡ is_inside (segments_of (if e then rings else rings_at k layers)) q
  step_bits q positive here k true h =
      odd (is_inside more.drawn.segments (moved (low_of core) q)) (below_bits (map marked_of old) (moved (low_of core) q) k)
      (before.shows q positive here k ∙ ap (λ rs. is_inside (segments_of rs) q) (at_end k layers h))
      ∙ (more.drawn.are.shows q positive here).inside
  step_bits q positive here k false h = before.shows q positive here k

  bits : (q : Point) → pos 0 <ℤ q.w → IsIn core q → (k : ℕ) → below_bits (map marked_of new) (moved (low_of core) q) k ≡ is_inside (segments_of (rings_at k (layers ++ rings ∷ []))) q
  bits q positive here k =
      let p : Point = moved (low_of core) q in
      let b : Bool = below_bits (map marked_of old) p k in
      ap (λ ms. below_bits ms p k) all_are ∙ bits-append (map marked_of old) (numbered (length layers) more.drawn.segments) p k
      ∙ ap (λ t. if t then not b else b) (layer_bits (length layers) k more.drawn.segments p) ∙ step_bits q positive here k (length layers == k) refl
      ∙ sym (ap (λ rs. is_inside (segments_of rs) q) (at_push k layers rings))

  even : (k : ℕ) (v : WholePoint) → ends_at (map marked_of old ++ numbered (length layers) more.drawn.segments) k v % 2 ≡ 0
  even k v =
      let one : ends_at (map marked_of old) k v % 2 ≡ 0 = before.closed.even k v in
      let rest : ends_at (numbered (length layers) more.drawn.segments) k v % 2 ≡ 0 = numbered_even (length layers) k more.drawn.segments v (more.drawn.are.even more.closed v) in
      let both : ends_at (map marked_of old ++ numbered (length layers) more.drawn.segments) k v ≡ ends_at (map marked_of old) k v + ends_at (numbered (length layers) more.drawn.segments) k v = ends-append (map marked_of old) (numbered (length layers) more.drawn.segments) k v in
      omega arith

  known : All (λ m. m.layer < length (layers ++ rings ∷ [])) (map marked_of old ++ numbered (length layers) more.drawn.segments)
  known =
      let longer : length (layers ++ rings ∷ []) ≡ length layers + 1 = length-append layers (rings ∷ []) in
      All-append (λ m. m.layer < length (layers ++ rings ∷ [])) (map marked_of old) (numbered (length layers) more.drawn.segments)
      (All-weaker (λ m. m.layer < length layers) (λ m. m.layer < length (layers ++ rings ∷ [])) (λ m h. omega (arith, h, longer)) (map marked_of old) before.known)
      (numbered_known (length layers) (length (layers ++ rings ∷ [])) (omega (arith, longer)) more.drawn.segments)

  pub layer_shown : AreShown core (layers ++ rings ∷ []) (map marked_of new)
  layer_shown = record {
    shows = bits;
    closed = subst AreClosed (sym all_are) (record {
      proper = All-append (λ m. IsProper m.segment) (map marked_of old) (numbered (length layers) more.drawn.segments) before.closed.proper
          (All-map (λ m. IsProper m.segment) (λ s. record { layer = length layers; segment = s }) more.drawn.segments more.drawn.are.proper);
      even = even;
    });
    known = subst (All (λ m. m.layer < length (layers ++ rings ∷ []))) (sym all_are) known;
  }

-- the first layers, and one more
pub layers_more : (core : Box) (layers : List (List (List WholePoint))) (i number : ℕ) (rings : List (List WholePoint)) (old new : List MarkedSeg) → i < length layers → rings ≡ get_or layers i rings → number ≡ i
    → AreShown core (take i layers) (map marked_of old) → HasLayer core number rings old new → AreShown core (take (i + 1) layers) (map marked_of new)
layers_more core layers i number rings old new lt is same before more =
    let count : length (take i layers) ≡ i = length-take-le i layers (omega (arith, lt)) in
    let own : HasLayer core (length (take i layers)) rings old new = subst (λ n. HasLayer core n rings old new) (same ∙ sym count) more in
    subst (λ ls. AreShown core ls (map marked_of new)) (ap (λ z. take i layers ++ z ∷ []) is ∙ sym (take_more layers i rings lt))
    (layer_shown core (take i layers) rings old new before own)

-- ---- what a pass takes
pub shown_valid : (core : Box) (layers : List (List (List WholePoint))) (marked : List Marked) (strip : Span) (steps : Steps) → strip.first ≤ strip.last → strip.last < column_count → steps.bases ≤ layers_max
    → length layers ≡ steps.bases → AreShown core layers marked → IsStripInput (record { strip = strip; marked = marked; steps = steps })
shown_valid core layers marked strip steps in_order known few count shown = record {
  in_order = in_order;
  known = known;
  few = few;
  known_layers = subst (λ n. All (λ m. m.layer < n) marked) count shown.known;
  proper = shown.closed.proper;
  even = λ k v h. shown.closed.even k v;
}

-- the expression over what is drawn is that over the layers
pub value_shown : (core : Box) (layers : List (List (List WholePoint))) (marked : List Marked) (steps : Steps) → AreShown core layers marked → (q : Point) → pos 0 <ℤ q.w → IsIn core q
    → steps_value steps (below_bits marked (moved (low_of core) q)) ≡ steps_value steps (λ k. is_inside (segments_of (rings_at k layers)) q)
value_shown core layers marked steps shown q positive here =
    let same : below_bits marked (moved (low_of core) q) ≡ (λ k. is_inside (segments_of (rings_at k layers)) q) = λ i k. shown.shows q positive here k i in
    ap (steps_value steps) same
