use Rattle.std.proofs.Common.{◌≡◌, ◌+◌, ◌<◌, List, [], ◌∷◌, map, length, get_or, take, filter, subst, sym, ap, ◌∙◌, refl, rules, arith, to_z, of_z, Bool, true, false}
use Rattle.std.specs.Int.{w64}
use Rattle.std.proofs.lemmas.Int.{ints, to_z-of_z}
use Rattle.std.specs.Prelude.{All}
use Rattle.std.specs.Borrow.{Bor}
use Rattle.std.specs.Ordering.{is_lt}
use Rattle.std.specs.List.Sorted.{IsPermutation, IsSorted}
use Rattle.std.proofs.lemmas.List.{take_all, get_or-map, length-map}
use Rattle.std.proofs.lemmas.List.Sorted.{IsPermutation-map}
use Rattle.std.proofs.lemmas.List.Elements.{All-push}
use Rattle.exact_point.specs.Place.{place}
use Rattle.exact_point.specs.declared.point.HPoint.{HPoint}
use Rattle.overlay_terms.specs.Layers.{Marked}
use Rattle.arrange.specs.Units.{AreUnits}
use Rattle.arrange.specs.declared.unit.Unit.{Unit}
use Rattle.crossing_sweep.specs.StripInput.{Span}
use Rattle.crossing_sweep.specs.Passing.{IsEntry}
use Rattle.crossing_sweep.specs.Rank.{IsRank}
use Rattle.crossing_sweep.specs.Start.{is_met, start_cmp, AreStarts}
use Rattle.crossing_sweep.specs.declared.start.Start.{Start}
use Rattle.crossing_sweep.proofs.StartLemmas.{grown, left_out, starts_from}
use Rattle.crossing_sweep.proofs.starts.starts.Goals as goal
use Rattle.crossing_sweep.proofs.starts.starts.Goals.{then-is_met+in_ok-push, else-is_met}

-- what is in order by what it is mapped to is so there
sorted_there : {T : Type 0} (now : T → Start) (order : List T) → IsSorted (λ a b. start_cmp (now a) (now b)) order → IsSorted start_cmp (map now order)
sorted_there now [] up k d l m = absurd (omega (arith, m))
sorted_there now (x ∷ xs) up k d l m =
    let inside : k + 1 < length (x ∷ xs) = omega (arith, m, length-map xs now) in
    ap is_lt (ap (λ s. start_cmp s (get_or (map now (x ∷ xs)) k d)) (get_or-map now (x ∷ xs) (k + 1) x d inside) ∙ ap (start_cmp (now (get_or (x ∷ xs) (k + 1) x))) (get_or-map now (x ∷ xs) k x d (omega (arith, inside))))
    ∙ up k x l inside

pub invariant_of-push : goal.invariant_of-push
invariant_of-push c =
    let there : to_z w64 (of_z w64 c.rank.result) ≡ c.rank.result = grind (arith, ints, to_z-of_z) in
    record { ranked = subst (λ n. ∥ IsRank n (place c.first_place-at.result) ∥₁) (sym there) (subst (λ (z : HPoint). ∥ IsRank c.rank.result (place z) ∥₁) c.point.ensures c.rank.ensures); ahead = search rules }

pub loop-unit-preserved : goal.loop-unit-preserved
loop-unit-preserved c =
    let k : Span = c.args.input.now.strip in
    let p : Unit → Bool = λ u. is_met k u.seg in
    let items : List Unit = c.deref-unit-items.result.now in
    let x : Unit = c.unit-item.result in
    let IsMetAt : Start → Type 0 = λ s. IsEntry k s.unit.seg (place s.at) in
    elim c.if-is_met.branch [
      | then-is_met+in_ok-push w ↦
          let passes : p x ≡ true = ap (λ (j : Span). is_met j x.seg) (sym c.strip.ensures.value) ∙ sym c.is_met.ensures ∙ w.if-is_met.true in
          let pushed = ap (λ l. l.items) w.list-is ∙ w.in_ok-push.ensures.items in
          let entry : IsEntry k x.seg (place w.first_place-at.result) =
          subst (λ (j : Span). IsEntry j x.seg (place w.first_place-at.result)) w.strip-then-is_met.ensures.value w.first_place-at.ensures in
          record {
            units = grown p items c.loop-unit.unit-index x c.loop-unit-test.true c.unit-item.is c.loop-unit.list.items c.if-is_met.list.items _ c.loop-unit.invariant.units passes refl pushed;
            entries = subst (λ (ss : List Start). All IsMetAt ss) (sym pushed) (All-push IsMetAt c.loop-unit.list.items _ c.loop-unit.invariant.entries entry);
          }
      | else-is_met w ↦
          let same : c.if-is_met.list.items ≡ c.loop-unit.list.items = search rules in
          let fails : p x ≡ false = ap (λ (j : Span). is_met j x.seg) (sym c.strip.ensures.value) ∙ sym c.is_met.ensures ∙ w.if-is_met.false in
          record {
            units = left_out p items c.loop-unit.unit-index x c.loop-unit-test.true c.unit-item.is c.loop-unit.list.items c.if-is_met.list.items c.loop-unit.invariant.units fails same;
            entries = subst (λ (ss : List Start). All IsMetAt ss) (sym same) c.loop-unit.invariant.entries;
          }
    ]

pub returns : goal.returns
returns c =
    let p : Unit → Bool = λ u. is_met c.args.input.now.strip u.seg in
    let items : List Unit = c.deref-unit-items.result.now in
    let whole_list : take c.loop-unit.unit-index items ≡ c.in_ok-units.units.items = take_all c.loop-unit.unit-index items c.loop-unit-test.false ∙ c.deref-unit-items.ensures.value in
    let now : Bor Start → Start = λ z. z.now in
    let order : List (Bor Start) = c.sort_unstable.new.self.items in
    let is : c.in_ok-sorted.sorted.items ≡ map now order = c.in_ok-sorted.ensures ∙ ap (map now) c.deref-2.ensures.value in
    let moved : IsPermutation c.loop-unit.list.items (map now order) =
    subst (λ (l : List Start). IsPermutation l (map now order)) (c.in_ok-order.ensures ∙ c.deref.ensures.value) (IsPermutation-map now c.in_ok-order.order.items order c.sort_unstable.ensures.permutation) in
    subst (AreStarts c.args.input.now) (sym is)
    (starts_from c.args.input.now c.in_ok-units.units.items (subst (λ (ms : List Marked). AreUnits ms c.in_ok-units.units.items) c.marked.ensures.value c.in_ok-units.ensures) c.loop-unit.list.items (map now order) (c.loop-unit.invariant.units ∙ ap (filter p) whole_list) c.loop-unit.invariant.entries
    moved (sorted_there now order c.sort_unstable.ensures.sorted))
