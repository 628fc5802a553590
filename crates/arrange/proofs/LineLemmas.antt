-- Runs of segments on one line, among segments in the order of their lines.
use Rattle.std.proofs.Common.{◌≡◌, ℕ, pos, zero, suc, ◌+◌, ◌-◌, ◌<◌, ◌≤◌, ◌⊎◌, zero-add, take_all, inl, inr, true, false, Bool, not, List, [], ◌∷◌, ◌++◌, length, map, take, drop, get_or, refl, ap, sym, ◌∙◌, subst, arith}
use Rattle.std.specs.Prelude.{Contains, slice_range}
use Rattle.std.specs.List.Sorted.{IsSorted}
use Rattle.std.specs.Ordering.{int_eq, int_cmp, is_lt, is_ne, ordering_then, ordering_reverse}
use Rattle.std.specs.declared.cmp.Ordering.{Ordering}
use Rattle.std.specs.declared.cmp.Ordering.TheVariants.{Less, Equal, Greater}
use Rattle.std.proofs.lemmas.Bool.{and_parts, cases_lt, cases_eq}
use Rattle.std.proofs.lemmas.Cmp.{tied_itself}
use Rattle.std.proofs.lemmas.List.{map-append, get_or_default, get_or-take, length-take-le, length-drop, get_or-drop, get_or-map, length-map, get_or_read}
use Rattle.std.proofs.lemmas.List.Elements.{All-nil, Contains-append_cases}
use Rattle.std.proofs.lemmas.List.Sorted.{sorted_far, ranks_by}
use Rattle.overlay_terms.specs.Plane.{Segment, whole, whole_cmp, height_over}
use Rattle.overlay_terms.specs.Layers.{Marked}
use Rattle.overlay_terms.specs.TileLaws.{IsProper}
use Rattle.overlay_terms.proofs.Lists.{from_map}
use Rattle.exact_point.proofs.OnLine.{one_direction, left_on_line, right_on_line}
use Rattle.exact_point.proofs.PlaceOrder.{level_from}
use Rattle.arrange.specs.Marked.{marked_of, AllProper}
use Rattle.arrange.specs.Units.{is_collinear, AreUnits}
use Rattle.arrange.specs.Lines.{line_cmp, line_marked, line_total, same_line}
use Rattle.arrange.specs.declared.line_seg.LineSeg.{LineSeg}
use Rattle.arrange.specs.declared.marked_seg.MarkedSeg.{MarkedSeg}
use Rattle.arrange.specs.declared.unit.Unit.{Unit}
use Rattle.arrange.proofs.SortedPlaces.{equal_from_test}
use Rattle.arrange.proofs.UnitLineLemmas.{whole_order}
use Rattle.arrange.proofs.UnitParts.{units_joined}

-- segments on one line are equal by their order
pub on_one_line : (a b : LineSeg) → is_collinear a.marked.seg b.marked.seg ≡ true → line_cmp a b ≡ Equal
on_one_line a b e =
    let s : Segment = a.marked.seg in
    let t : Segment = b.marked.seg in
    let tests = and_parts (int_eq (height_over s (whole t.left)) (pos 0)) (int_eq (height_over s (whole t.right)) (pos 0)) e in
    let from = level_from (height_over s (whole t.left)) (pos 0) tests.0 in
    let turn = one_direction s t (whole t.left) (whole t.right) from (level_from (height_over s (whole t.right)) (pos 0) tests.1) (left_on_line t) (right_on_line t) (sym (whole_order t.left t.right) ∙ b.proper.first) in
    ap (λ z. ordering_then (int_cmp (pos 0) z) (int_cmp (pos 0) (height_over s (whole t.left)))) turn
    ∙ ap (λ z. ordering_then (int_cmp (pos 0) (pos 0)) (int_cmp (pos 0) z)) from

equal_from : (o : Ordering) → is_lt o ≡ false → is_lt (ordering_reverse o) ≡ false → o ≡ Equal
equal_from Less e f = cc
equal_from Equal e f = refl
equal_from Greater e f = cc

take_none : {X : Type 0} (n : ℕ) (xs : List X) → xs ≡ [] → take n xs ≡ []
take_none zero xs e = refl
take_none (suc n) [] e = refl
take_none (suc n) (x ∷ xs) e = absurd (cc)

-- the first elements, and those after them
take_parts : {X : Type 0} (xs : List X) (a n : ℕ) → take (a + n) xs ≡ take a xs ++ take n (drop a xs)
take_parts xs zero n = ap (λ m. take m xs) (zero-add n)
take_parts {X} [] (suc a) n = let none : List X = [] in take_none (suc a + n) none refl ∙ sym (take_none n none refl)
take_parts (x ∷ xs) (suc a) n = ap (λ m. take m (x ∷ xs)) (one_more a n) ∙ ap (λ ys. x ∷ ys) (take_parts xs a n)
  where
    one_more : (a n : ℕ) → suc a + n ≡ suc (a + n)
    one_more a n = omega arith

module _ (lines : List LineSeg) where
  abbrev at_place : ℕ → LineSeg → Segment
  at_place i d = (get_or lines i d).marked.seg

  -- the units of the first segments, of which none is on the line of a later one
  pub record HaveLines (start : ℕ) (list : List Unit) : Type 0 where
    pub within : start ≤ length lines
    pub units : AreUnits (map line_marked (take start lines)) list
    pub apart : (i j : ℕ) (d : LineSeg) → i < start → start ≤ j → j < length lines → is_collinear (get_or lines i d).marked.seg (get_or lines j d).marked.seg ≡ true → ⊥

  pub have_no_line : (list : List Unit) → list ≡ [] → HaveLines 0 list
  have_no_line list e = record {
    within = omega arith;
    units = subst (AreUnits []) (sym e) (record { sound = All-nil _; masks = All-nil _; once = λ i j d l h. absurd (omega (arith, h)); complete = λ s unit. absurd (nothing unit.covered) });
    apart = λ i j d l. absurd (omega (arith, l));
  } where
    nothing : false ≡ true → ⊥
    nothing e = cc

  -- the segments of a run on one line
  pub record IsRun (start end : ℕ) : Type 0 where
    pub after : start < end
    pub within : end ≤ length lines
    pub same : (k : ℕ) (d : LineSeg) → start ≤ k → k < end → line_cmp (get_or lines start d) (get_or lines k d) ≡ Equal
    pub next : (d : LineSeg) → end < length lines → line_cmp (get_or lines start d) (get_or lines end d) ≡ Equal → ⊥

  module _ (sorted : IsSorted line_cmp lines) where
    later : (i j : ℕ) (d : LineSeg) → i ≤ j → j < length lines → is_lt (line_cmp (get_or lines j d) (get_or lines i d)) ≡ false
    later i j d le l = sorted_far (λ x y. is_lt (line_cmp x y)) (ranks_by line_total (λ (x : LineSeg). x)) lines sorted i j d le l

    -- where the ends of a part are equal, so is what is between
    squeezed : (i j k : ℕ) (d : LineSeg) → i ≤ j → j ≤ k → k < length lines → line_cmp (get_or lines i d) (get_or lines k d) ≡ Equal → line_cmp (get_or lines i d) (get_or lines j d) ≡ Equal
    squeezed i j k d le less l e =
        equal_from (line_cmp (get_or lines i d) (get_or lines j d))
        (ap is_lt (line_total.congr (get_or lines i d) (get_or lines k d) (get_or lines j d) e) ∙ later j k d less l)
        (ap is_lt (sym (line_total.antisymm (get_or lines j d) (get_or lines i d))) ∙ later i j d le (omega (arith, less, l)))

    module _ (start end : ℕ) (list more : List Unit) (have : HaveLines start list) (run : IsRun start end) (units : AreUnits (map line_marked (slice_range lines start end)) more) where
      count : start + (end - start) ≡ end
      count = omega (arith, run.after)

      parts : map line_marked (take end lines) ≡ map line_marked (take start lines) ++ map line_marked (slice_range lines start end)
      parts = ap (λ n. map line_marked (take n lines)) (sym count) ∙ ap (map line_marked) (take_parts lines start (end - start)) ∙ map-append line_marked (take start lines) (slice_range lines start end)

      goes_ahead : (m : Marked) → Contains (map line_marked (take start lines) ++ map line_marked (slice_range lines start end)) m → whole_cmp m.segment.left m.segment.right ≡ Less
      goes_ahead m c = by (Contains-append_cases (map line_marked (take start lines)) (map line_marked (slice_range lines start end)) m c) where
        told : (xs : List LineSeg) → (a : LineSeg) × Contains xs a × (line_marked a ≡ m) → whole_cmp m.segment.left m.segment.right ≡ Less
        told xs (a, c, e) = subst (λ (n : Marked). whole_cmp n.segment.left n.segment.right ≡ Less) e a.proper.first

        by : Contains (map line_marked (take start lines)) m ⊎ Contains (map line_marked (slice_range lines start end)) m → whole_cmp m.segment.left m.segment.right ≡ Less
        by (inl d) = told (take start lines) (from_map line_marked (take start lines) m d)
        by (inr d) = told (slice_range lines start end) (from_map line_marked (slice_range lines start end) m d)

      no_common_line : (m n : Marked) → Contains (map line_marked (take start lines)) m → Contains (map line_marked (slice_range lines start end)) n → is_collinear m.segment n.segment ≡ true → ⊥
      no_common_line m n c d line = by (from_map line_marked (take start lines) m c) (from_map line_marked (slice_range lines start end) n d) where
        by : (a : LineSeg) × Contains (take start lines) a × (line_marked a ≡ m) → (b : LineSeg) × Contains (slice_range lines start end) b × (line_marked b ≡ n) → ⊥
        by (a, (i, i_in, a_at), a_is) (b, (k, k_in, b_at), b_is) =
            let i_low : i < start = omega (arith, i_in, length-take-le start lines have.within) in
            let k_low : k < end - start = omega (arith, k_in, length-take-le (end - start) (drop start lines) (omega (arith, length-drop start lines, run.within))) in
            let a_there : get_or lines i a ≡ a = sym (get_or-take start lines i a i_low) ∙ a_at in
            let b_there : get_or lines (start + k) b ≡ b = sym (get_or-drop start lines k b) ∙ sym (get_or-take (end - start) (drop start lines) k b k_low) ∙ b_at in
            let j_in : start + k < length lines = omega (arith, k_low, run.within, run.after) in
            let b_same : get_or lines (start + k) a ≡ b = get_or_default lines (start + k) a b j_in ∙ b_there in
            let one : is_collinear a.marked.seg b.marked.seg ≡ true =
            subst (λ (w : Marked). is_collinear a.marked.seg w.segment ≡ true) (sym b_is) (subst (λ (w : Marked). is_collinear w.segment n.segment ≡ true) (sym a_is) line) in
            have.apart i (start + k) a i_low (omega arith) j_in
            (subst (λ (x : LineSeg). is_collinear (get_or lines i a).marked.seg x.marked.seg ≡ true) (sym b_same)
            (subst (λ (x : LineSeg). is_collinear x.marked.seg b.marked.seg ≡ true) (sym a_there) one))

      pub have_next_line : HaveLines end (list ++ more)
      have_next_line = record {
        within = run.within;
        units = subst (λ (ms : List Marked). AreUnits ms (list ++ more)) (sym parts)
            (units_joined (map line_marked (take start lines)) (map line_marked (slice_range lines start end)) list more goes_ahead no_common_line have.units units);
        apart = λ i j d l le j_in line. by i j d l le j_in line (cases_lt i start);
      } where
        by : (i j : ℕ) (d : LineSeg) → i < end → end ≤ j → j < length lines → is_collinear (get_or lines i d).marked.seg (get_or lines j d).marked.seg ≡ true → (i < start) ⊎ (start ≤ i) → ⊥
        by i j d l le j_in line (inl low) = have.apart i j d low (omega (arith, le, run.after)) j_in line
        by i j d l le j_in line (inr high) =
            run.next d (omega (arith, le, j_in))
            (squeezed start end j d (omega (arith, run.after)) le j_in
            (line_total.congr (get_or lines start d) (get_or lines i d) (get_or lines j d) (run.same i d high l) ∙ on_one_line (get_or lines i d) (get_or lines j d) line))

-- one of some proper segments is proper
pub proper_at : (items : List MarkedSeg) (i : ℕ) (x : MarkedSeg) → i < length items → x ≡ get_or items i x → AllProper (map marked_of items) → IsProper x.seg
proper_at items i x h is all =
    subst (λ (m : Marked). IsProper m.segment) (get_or-map marked_of items i x (marked_of x) h ∙ ap marked_of (sym is)) (all i (marked_of x) (omega (arith, length-map items marked_of, h)))

-- an order that is not other than equal
pub equal_from_ne : (o : Ordering) → is_ne o ≡ false → o ≡ Equal
equal_from_ne Less e = cc
equal_from_ne Equal e = refl
equal_from_ne Greater e = cc

-- ---- a run, found one segment after the other
module _ (lines : List LineSeg) (start : ℕ) where
  abbrev pub Same : ℕ → Type 0
  Same end = (k : ℕ) (d : LineSeg) → start ≤ k → k < end → line_cmp (get_or lines start d) (get_or lines k d) ≡ Equal

  pub run_one : Same (start + 1)
  run_one k d le l =
      let here : start ≡ k = omega (arith, le, l) in
      subst (λ n. line_cmp (get_or lines start d) (get_or lines n d) ≡ Equal) here (tied_itself line_total (get_or lines start d))

  module _ (end : ℕ) (a b : LineSeg) (from : start < end) (to : end < length lines) (a_is : a ≡ get_or lines start a) (b_is : b ≡ get_or lines end b) where
    read : (d : LineSeg) → line_cmp (get_or lines start d) (get_or lines end d) ≡ line_cmp a b
    read d = ap (λ x. line_cmp x (get_or lines end d)) (sym (get_or_read lines start a (omega (arith, from, to)) a_is d)) ∙ ap (λ x. line_cmp a x) (sym (get_or_read lines end b to b_is d))

    pub run_more : line_cmp a b ≡ Equal → Same end → Same (end + 1)
    run_more e same k d le l = by (cases_eq k end) where
      by : (k ≡ end) ⊎ (k ≡ end → ⊥) → line_cmp (get_or lines start d) (get_or lines k d) ≡ Equal
      by (inl f) = ap (λ n. line_cmp (get_or lines start d) (get_or lines n d)) f ∙ read d ∙ e
      by (inr f) = same k d le (omega (arith, f, l))

    pub run_ends : (line_cmp a b ≡ Equal → ⊥) → (d : LineSeg) → line_cmp (get_or lines start d) (get_or lines end d) ≡ Equal → ⊥
    run_ends out d e = out (sym (read d) ∙ e)

-- what the test of one line says
pub line_is : (a b : LineSeg) → same_line a b ≡ true → line_cmp a b ≡ Equal
line_is a b e = equal_from_test (line_cmp a b) e

-- the units of all lines
pub have_all_lines : (lines : List LineSeg) (start : ℕ) (list : List Unit) → length lines ≤ start → HaveLines lines start list → AreUnits (map line_marked lines) list
have_all_lines lines start list full have = subst (λ (xs : List LineSeg). AreUnits (map line_marked xs) list) (take_all start lines full) have.units

-- a test that is not denied
pub told_by_not : (b : Bool) → not b ≡ false → b ≡ true
told_by_not true e = refl
told_by_not false e = cc
