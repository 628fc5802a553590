-- A run of segments on one line: its ends, and the pass over them.
use Rattle.std.proofs.Common.{◌≡◌, ℕ, pos, ◌+◌, ◌-◌, ◌<◌, ◌≤◌, List, [], ◌∷◌, ◌++◌, length, get_or, take, drop, map, ◌⊎◌, inl, inr, true, ap, sym, ◌∙◌, subst, arith}
use Rattle.std.specs.Prelude.{Contains, Some, None, slice_range}
use Rattle.std.specs.List.Sorted.{IsPermutation}
use Rattle.std.specs.Ordering.{int_eq, int_cmp}
use Rattle.std.specs.Cmp.{int_ranked}
use Rattle.std.proofs.lemmas.Bool.{and_from}
use Rattle.std.proofs.lemmas.List.{take_more, get_or_read, get_or_default, get_or-take, get_or-drop, length-take-le, length-drop}
use Rattle.std.proofs.lemmas.List.Sorted.{Contains-permutation, IsPermutation-sym}
use Rattle.std.specs.declared.cmp.Ordering.TheVariants.{Less, Equal}
use Rattle.overlay_terms.specs.Plane.{Segment, whole, whole_cmp, height_over}
use Rattle.overlay_terms.specs.Layers.{Marked}
use Rattle.overlay_terms.proofs.Lists.{Contains-cons_cases, from_flat_map, none_in_empty, from_map}
use Rattle.overlay_terms.proofs.PointOrder.{both_equal}
use Rattle.exact_point.specs.Crossing.{turn_of}
use Rattle.exact_point.proofs.OnLine.{parallel_line, left_on_line, right_on_line, no_turn_back}
use Rattle.exact_point.proofs.PlaceOrder.{one_positive, level_test}
use Rattle.arrange.specs.LineEnds.{left_end, right_end, both_ends, AreInOrder, AreOnOneLine, IsCounted, open_unit}
use Rattle.arrange.specs.Lines.{line_cmp, line_marked, line_total}
use Rattle.arrange.specs.Units.{is_collinear, AreUnits}
use Rattle.arrange.specs.declared.line_end.LineEnd.{LineEnd}
use Rattle.arrange.specs.declared.line_seg.LineSeg.{LineSeg}
use Rattle.arrange.specs.declared.passed_ends.PassedEnds.{PassedEnds}
use Rattle.arrange.specs.declared.unit.Unit.{Unit}
use Rattle.arrange.proofs.EndStretches.{AreEndsAlong}
use Rattle.arrange.proofs.LineLemmas.{IsRun}
use Rattle.arrange.proofs.UnitsAlong.{HaveUnitsTo, have_no_units, with_unit, without_unit, all_units}

-- segments that are equal by their order are on one line
one_line : (a b : LineSeg) → line_cmp a b ≡ Equal → is_collinear a.marked.seg b.marked.seg ≡ true
one_line a b e =
    let s : Segment = a.marked.seg in
    let t : Segment = b.marked.seg in
    let parts = both_equal (int_cmp (pos 0) (turn_of s t)) (int_cmp (pos 0) (height_over s (whole t.left))) e in
    let turn : turn_of s t ≡ pos 0 = sym (int_ranked (pos 0) (turn_of s t) Equal (sym parts.0)) in
    let from : height_over s (whole t.left) ≡ pos 0 = sym (int_ranked (pos 0) (height_over s (whole t.left)) Equal (sym parts.1)) in
    let to : height_over s (whole t.right) ≡ pos 0 = parallel_line t s (whole t.left) (whole t.right) b.proper.first (no_turn_back s t turn) one_positive (left_on_line t) from (right_on_line t) in
    and_from (int_eq (height_over s (whole t.left)) (pos 0)) (int_eq (height_over s (whole t.right)) (pos 0))
    (level_test (height_over s (whole t.left)) (pos 0) from) (level_test (height_over s (whole t.right)) (pos 0) to)

-- a run is on one line
pub run_on_one_line : (lines : List LineSeg) (start end : ℕ) → IsRun lines start end → AreOnOneLine (slice_range lines start end)
run_on_one_line lines start end run a b in_a in_b =
    sym (line_total.congr (get_or lines start a) a b (from_first a in_a)) ∙ ap (λ x. line_cmp x b) (get_or_default lines start a b (omega (arith, run.after, run.within))) ∙ from_first b in_b
  where
    from_first : (x : LineSeg) → Contains (slice_range lines start end) x → line_cmp (get_or lines start x) x ≡ Equal
    from_first x (k, k_in, x_at) =
        let low : k < end - start = omega (arith, k_in, length-take-le (end - start) (drop start lines) (omega (arith, length-drop start lines, run.within))) in
        let there : get_or lines (start + k) x ≡ x = sym (get_or-drop start lines k x) ∙ sym (get_or-take (end - start) (drop start lines) k x low) ∙ x_at in
        ap (λ y. line_cmp (get_or lines start x) y) (sym there) ∙ run.same (start + k) x (omega arith) (omega (arith, low))

-- its ends in order are ends along one line
pub ends_along : (run : List LineSeg) (ends : List LineEnd) → AreOnOneLine run → IsPermutation (both_ends (map line_marked run)) ends → AreInOrder ends → AreEndsAlong (map line_marked run) ends
ends_along run ends line moved in_order = record {
  ahead = λ m c. ahead m (from_map line_marked run m c);
  one_line = λ m n c e. on_line m n (from_map line_marked run m c) (from_map line_marked run n e);
  moved = moved;
  in_order = in_order;
} where
  ahead : (m : Marked) → (a : LineSeg) × Contains run a × (line_marked a ≡ m) → whole_cmp m.segment.left m.segment.right ≡ Less
  ahead m (a, c, e) = subst (λ (n : Marked). whole_cmp n.segment.left n.segment.right ≡ Less) e a.proper.first

  on_line : (m n : Marked) → (a : LineSeg) × Contains run a × (line_marked a ≡ m) → (b : LineSeg) × Contains run b × (line_marked b ≡ n) → is_collinear m.segment n.segment ≡ true
  on_line m n (a, c, e) (b, h, f) =
      subst (λ (w : Marked). is_collinear m.segment w.segment ≡ true) f (subst (λ (w : Marked). is_collinear w.segment b.marked.seg ≡ true) e (one_line a b (line a b c h)))

-- the ends are of few layers
pub few_ends : (run : List LineSeg) (ends : List LineEnd) → IsPermutation (both_ends (map line_marked run)) ends → (i : ℕ) (x : LineEnd) → i < length ends → x ≡ get_or ends i x → x.layer < 32
few_ends run ends moved i x h is =
    by (from_flat_map (λ m. left_end m ∷ right_end m ∷ []) (map line_marked run) x (Contains-permutation ends (both_ends (map line_marked run)) x (IsPermutation-sym (both_ends (map line_marked run)) ends moved) (i, h, sym is)))
  where
    few : (m : Marked) → (a : LineSeg) × Contains run a × (line_marked a ≡ m) → m.layer < 32
    few m (a, c, e) = subst (λ (n : Marked). n.layer < 32) e a.few

    by : (m : Marked) × Contains (map line_marked run) m × Contains (left_end m ∷ right_end m ∷ []) x → x.layer < 32
    by (m, c, there) = which (Contains-cons_cases (left_end m) (right_end m ∷ []) x there) where
      last : (right_end m ≡ x) ⊎ Contains [] x → x.layer < 32
      last (inl e) = subst (λ (y : LineEnd). y.layer < 32) e (few m (from_map line_marked run m c))
      last (inr e) = absurd (none_in_empty x e)

      which : (left_end m ≡ x) ⊎ Contains (right_end m ∷ []) x → x.layer < 32
      which (inl e) = subst (λ (y : LineEnd). y.layer < 32) e (few m (from_map line_marked run m c))
      which (inr e) = last (Contains-cons_cases (right_end m) [] x e)

-- ---- the pass over the ends
-- stands for an end where a list has none
abbrev pub no_end : LineEnd
no_end = record { at = record { x = pos 0; y = pos 0 }; layer = 0; opens = true }

-- the ends before one are counted, and the units up to it are listed
pub record HavePassed (marked : List Marked) (ends : List LineEnd) (i : ℕ) (passed : PassedEnds) (list : List Unit) : Type 0 where
  pub counted : IsCounted (take (i - 1) ends) passed
  pub units : HaveUnitsTo marked ends no_end i list

pub pass_begins : (marked : List Marked) (ends : List LineEnd) (passed : PassedEnds) (list : List Unit) → IsCounted [] passed → list ≡ [] → HavePassed marked ends 1 passed list
pass_begins marked ends passed list counted e = record { counted = counted; units = have_no_units marked ends no_end list e }

pub pass_ends : (marked : List Marked) (ends : List LineEnd) → AreEndsAlong marked ends → (i : ℕ) (passed : PassedEnds) (list : List Unit) → length ends ≤ i → HavePassed marked ends i passed list → AreUnits marked list
pass_ends marked ends along i passed list full have = all_units marked ends no_end along i list full have.units

module _ (marked : List Marked) (ends : List LineEnd) (along : AreEndsAlong marked ends) (i : ℕ) (x a b : LineEnd) (some : 0 < i) (within : i < length ends) (x_is : x ≡ get_or ends (i - 1) x) (a_is : a ≡ get_or ends (i - 1) a) (b_is : b ≡ get_or ends i b)
    (before after : PassedEnds) (list : List Unit) (have : HavePassed marked ends i before list) (more : (xs : List LineEnd) → IsCounted xs before → IsCounted (xs ++ x ∷ []) after) where
  next : (i - 1) + 1 ≡ i
  next = omega (arith, some)

  here : (i - 1) + 1 < length ends
  here = omega (arith, some, within)

  up_to : ((i - 1) + 1) + 1 ≡ i + 1
  up_to = omega (arith, some)

  counted : IsCounted (take ((i - 1) + 1) ends) after
  counted =
      subst (λ (xs : List LineEnd). IsCounted xs after) (ap (λ y. take (i - 1) ends ++ y ∷ []) x_is ∙ sym (take_more ends (i - 1) x (omega (arith, some, within)))) (more (take (i - 1) ends) have.counted)

  units : HaveUnitsTo marked ends no_end ((i - 1) + 1) list
  units = subst (λ k. HaveUnitsTo marked ends no_end k list) (sym next) have.units

  read : open_unit after a.at b.at ≡ open_unit after (get_or ends (i - 1) no_end).at (get_or ends ((i - 1) + 1) no_end).at
  read =
      ap (λ (y : LineEnd). open_unit after y.at b.at) (get_or_read ends (i - 1) a (omega (arith, some, within)) a_is no_end)
      ∙ ap (λ (y : LineEnd). open_unit after (get_or ends (i - 1) no_end).at y.at) (get_or_read ends i b within b_is no_end ∙ ap (λ k. get_or ends k no_end) (sym next))

  counted_next : IsCounted (take ((i + 1) - 1) ends) after
  counted_next = subst (λ k. IsCounted (take k ends) after) same counted where
    same : (i - 1) + 1 ≡ (i + 1) - 1
    same = omega (arith, some)

  pub pass_with : (u : Unit) → Some u ≡ open_unit after a.at b.at → HavePassed marked ends (i + 1) after (list ++ u ∷ [])
  pass_with u e = record {
    counted = counted_next;
    units = subst (λ k. HaveUnitsTo marked ends no_end k (list ++ u ∷ [])) up_to (with_unit marked ends no_end along (i - 1) here after counted list units u (e ∙ read));
  }

  pub pass_without : None ≡ open_unit after a.at b.at → HavePassed marked ends (i + 1) after list
  pass_without e = record {
    counted = counted_next;
    units = subst (λ k. HaveUnitsTo marked ends no_end k list) up_to (without_unit marked ends no_end along (i - 1) here after counted list units (e ∙ read));
  }
