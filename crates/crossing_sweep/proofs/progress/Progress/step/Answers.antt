use Rattle.std.proofs.Common.{rules, ◌≡◌, ◌⊎◌, inr, ℕ, ◌+◌, ◌-◌, ◌<◌, ◌≤◌, Bool, true, false, List, [], ◌∷◌, ◌++◌, map, length, take, drop, sym, subst, ap, refl, ◌∙◌, arith}
use Rattle.std.proofs.Math.Seq.{take-append_seam}
use Rattle.std.proofs.lemmas.Bool.{false≢true}
use Rattle.std.proofs.lemmas.List.{drop-drop, take_rest, length-map}
use Rattle.std.specs.Prelude.{All, filter}
use Rattle.std.specs.List.{slice_range}
use Rattle.std.specs.List.Sorted.{IsPermutation}
use Rattle.overlay_terms.specs.Plane.{Point}
use Rattle.exact_point.specs.Place.{place, same_hpoint}
use Rattle.crossing_sweep.specs.StripInput.{is_in_strip, Span}
use Rattle.crossing_sweep.specs.Status.{SidesFallAlong}
use Rattle.crossing_sweep.specs.Step.{IsSplitAt}
use Rattle.crossing_sweep.specs.Member.{units_of, segs_of, ends_after}
use Rattle.crossing_sweep.specs.Rows.{AreBegun, mask_over, rows_of}
use Rattle.crossing_sweep.specs.Stepping.{IsStepped}
use Rattle.crossing_sweep.specs.Testing.{AreSeamsTested, seams_at}
use Rattle.crossing_sweep.specs.declared.member.Member.{Member}
use Rattle.crossing_sweep.specs.declared.row.Row.{Row}
use Rattle.crossing_sweep.specs.declared.start.Start.{Start}
use Rattle.crossing_sweep.proofs.NameLemmas.{all_begin, members_from}
use Rattle.crossing_sweep.proofs.SeamLemmas.{no_seams}
use Rattle.crossing_sweep.proofs.TurnedLemmas.{unit_after, alone_stays, lone_moved, lone_turned}
use Rattle.crossing_sweep.proofs.TakenLemmas.{stepped}
use Rattle.crossing_sweep.proofs.Leaving.{still_few, closed_at}
use Rattle.crossing_sweep.proofs.progress.Progress.step.Goals as goal

pub overflow_add-self : goal.overflow_add-self
overflow_add-self c =
    let self = c.args.self.now in
    let items : List Start = c.deref-3.result.now in
    let value : items ≡ self.starts.items = c.deref-3.ensures.value in
    let behind : take (length items - self.entered) (drop self.entered items) ≡ drop self.entered self.starts.items = take_rest items self.entered ∙ ap (λ (l : List Start). drop self.entered l) value in
    let few = still_few (λ s. same_hpoint s.at c.args.node.now.at) self.starts.items items (take (length items - self.entered) (drop self.entered items)) self.entered c.count_entering-entered.result behind c.count_entering-entered.ensures c.requires.few in
    omega (arith, few)

pub returns-clause-few : goal.returns-clause-few
returns-clause-few c =
    let self = c.args.self.now in
    let items : List Start = c.deref-3.result.now in
    let value : items ≡ self.starts.items = c.deref-3.ensures.value in
    let behind : take (length items - self.entered) (drop self.entered items) ≡ drop self.entered self.starts.items = take_rest items self.entered ∙ ap (λ (l : List Start). drop self.entered l) value in
    still_few (λ s. same_hpoint s.at c.args.node.now.at) self.starts.items items (take (length items - self.entered) (drop self.entered items)) self.entered c.count_entering-entered.result behind c.count_entering-entered.ensures c.requires.few

pub returns-clause-stepped : goal.returns-clause-stepped
returns-clause-stepped c = λ inside.
    let self = c.args.self.now in
    let items : List Start = c.deref-3.result.now in
    let value : items ≡ self.starts.items = c.deref-3.ensures.value in
    let behind : take (length items - self.entered) (drop self.entered items) ≡ drop self.entered self.starts.items = take_rest items self.entered ∙ ap (λ (l : List Start). drop self.entered l) value in
    let entered : ℕ = c.count_entering-entered.result in
    let onward : drop entered (drop self.entered self.starts.items) ≡ drop (self.entered + entered) self.starts.items = drop-drop entered self.entered self.starts.items in
    let r : Point = place c.args.node.now.at in
    let k : Span = c.args.input.now.strip in
    let ms : List Member = self.status.items in
    let after : List Member = c.replace.new.status.items in
    let turned : List Member = c.turned.new.stay.items in
    let stay : List Member = c.label.new.stay in
    let coming : List Start = take (length items - self.entered) (drop self.entered items) in
    let low : ℕ = c.near_bundle_at-low.result.0 in
    let high : ℕ = c.near_bundle_at-low.result.1 in
    let len : ℕ = c.len.result in
    let rows : List Row = self.rows.items in
    let Splits : List Member → Type 0 = λ xs. SidesFallAlong r (segs_of xs) → IsSplitAt r (segs_of (take low xs)) (segs_of (slice_range xs low high)) (segs_of (drop high xs)) in
    let Moved : List Member → Type 0 = λ xs. IsPermutation (filter (unit_after r) (units_of (slice_range xs low high) ++ map (λ (s : Start). s.unit) (take entered coming))) (units_of turned) in
    let Begun : ℕ → Bool → Type 0 = λ mask b. AreBegun c.args.input.now.steps mask c.args.begin b stay in
    let Closed : List Member → Type 0 = λ xs. c.close.new.rows.items ≡ rows ++ rows_of c.args.begin (slice_range xs low high) in
    let long : len ≡ length stay = search rules in
    let few = subst (λ (xs : List Member). high ≤ length xs) c.deref.ensures.value c.near_bundle_at-low.ensures.few in
    let labelled : units_of stay ≡ units_of turned = search rules in
    let under : c.mask_over-under.result ≡ mask_over 0 (take low ms) = search rules in
    let begun : Begun (mask_over 0 (take low ms)) (is_in_strip k r) = subst (Begun (mask_over 0 (take low ms))) (sym inside) (subst (λ m. Begun m true) under c.label.ensures.begun) in
    let Tested : Span → List Member → Type 0 = λ j xs. AreSeamsTested j r (segs_of xs) (seams_at true low (low + len)) self.search c.test_new.new.self in
    let tested : Tested k after = subst (λ j. Tested j after) c.strip-2.ensures.value (subst (Tested c.strip-2.result) c.deref-7.ensures.value (c.in_ok-test_new.ensures r)) in
    let size : c.turned.new.stay.len ≡ length stay = search rules in
    let whole : take c.turned.new.stay.len (stay ++ drop (length stay) turned) ≡ stay = ap (λ j. take j (stay ++ drop (length stay) turned)) size ∙ take-append_seam stay (drop (length stay) turned) in
    let put = c.in_ok-replace.ensures ∙ ap (λ (xs : List Member). take low ms ++ xs ++ drop high ms) (c.deref-6.ensures.value ∙ whole) in
    let moved : Moved ms = subst Moved c.deref-4.ensures.value c.in_ok-turned.ensures.moved in
    let known : true ≡ false → (is_in_strip k r ≡ false) ⊎ (segs_of stay ≡ segs_of (slice_range ms low high)) = λ e. absurd (false≢true (sym e)) in
    let done = stepped c.args.input.now c.args.node.now.at c.args.begin ms after turned stay low high len entered coming self.search c.test_new.new.self rows c.close.new.rows.items c.near_bundle_at-low.ensures.in_order few
    (subst Splits c.deref.ensures.value c.near_bundle_at-low.ensures.split) c.count_entering-entered.ensures moved c.in_ok-turned.ensures.turned labelled begun
    (subst Closed c.deref-2.ensures.value c.in_ok-close.ensures) put long true known tested in
    let Stepped : List Start → List Start → Type 0 = λ l m. IsStepped c.args.input.now c.args.node.now.at c.args.begin ms after l m self.search c.test_new.new.self rows c.close.new.rows.items in
    subst (Stepped (drop self.entered self.starts.items)) onward (subst (λ (l : List Start). Stepped l (drop entered l)) behind done)

pub returns-clause-begun : goal.returns-clause-begun
returns-clause-begun c =
    let turned : List Member = c.turned.new.stay.items in
    let stay : List Member = c.label.new.stay in
    let size : c.turned.new.stay.len ≡ length stay = search rules in
    let whole : take c.turned.new.stay.len (stay ++ drop (length stay) turned) ≡ stay = ap (λ j. take j (stay ++ drop (length stay) turned)) size ∙ take-append_seam stay (drop (length stay) turned) in
    subst (λ (l : List Member). All (λ m. m.begin ≡ c.args.begin) l) (sym whole) (all_begin c.args.input.now.steps c.mask_over-under.result c.args.begin true stay c.label.ensures.begun)

pub returns-clause-members : goal.returns-clause-members
returns-clause-members c = λ m h.
    let ms : List Member = c.args.self.now.status.items in
    let low : ℕ = c.near_bundle_at-low.result.0 in
    let high : ℕ = c.near_bundle_at-low.result.1 in
    let turned : List Member = c.turned.new.stay.items in
    let stay : List Member = c.label.new.stay in
    let put = c.in_ok-replace.ensures ∙ ap (λ (xs : List Member). take low ms ++ xs ++ drop high ms) c.deref-6.ensures.value in
    members_from ms (take c.turned.new.stay.len (stay ++ drop (length stay) turned)) c.replace.new.status.items low high put m h

pub returns-then-not-within-clause-closed : goal.returns-then-not-within-clause-closed
returns-then-not-within-clause-closed c = λ out.
    let ms : List Member = c.args.self.now.status.items in
    let low : ℕ = c.near_bundle_at-low.result.0 in
    let high : ℕ = c.near_bundle_at-low.result.1 in
    let rows : List Row = c.args.self.now.rows.items in
    let Splits : List Member → Type 0 = λ xs. SidesFallAlong (place c.args.node.now.at) (segs_of xs) → IsSplitAt (place c.args.node.now.at) (segs_of (take low xs)) (segs_of (slice_range xs low high)) (segs_of (drop high xs)) in
    let Closed : List Member → Type 0 = λ xs. c.close.new.rows.items ≡ rows ++ rows_of c.args.begin (slice_range xs low high) in
    closed_at c.args.node.now.at c.args.begin ms ms low high rows c.close.new.rows.items c.near_bundle_at-low.ensures.in_order (subst Splits c.deref.ensures.value c.near_bundle_at-low.ensures.split)
    (subst Closed c.deref-2.ensures.value c.in_ok-close.ensures) refl

pub returns-then-ends_after-clause-stepped : goal.returns-then-ends_after-clause-stepped
returns-then-ends_after-clause-stepped c = λ inside.
    let self = c.args.self.now in
    let items : List Start = c.deref-3.result.now in
    let value : items ≡ self.starts.items = c.deref-3.ensures.value in
    let behind : take (length items - self.entered) (drop self.entered items) ≡ drop self.entered self.starts.items = take_rest items self.entered ∙ ap (λ (l : List Start). drop self.entered l) value in
    let entered : ℕ = c.count_entering-entered.result in
    let r : Point = place c.args.node.now.at in
    let k : Span = c.args.input.now.strip in
    let ms : List Member = self.status.items in
    let after : List Member = c.go_through.new.status.items in
    let stay : List Member = c.go_through.new.stay.items in
    let coming : List Start = take (length items - self.entered) (drop self.entered items) in
    let low : ℕ = c.near_bundle_at-low.result.0 in
    let high : ℕ = c.near_bundle_at-low.result.1 in
    let x : Member = c.index.result.now in
    let rows : List Row = self.rows.items in
    let Splits : List Member → Type 0 = λ xs. SidesFallAlong r (segs_of xs) → IsSplitAt r (segs_of (take low xs)) (segs_of (slice_range xs low high)) (segs_of (drop high xs)) in
    let Begun : Bool → Type 0 = λ b. AreBegun c.args.input.now.steps (mask_over 0 (take low ms)) c.args.begin b stay in
    let Closed : List Member → Type 0 = λ xs. c.close.new.rows.items ≡ rows ++ rows_of c.args.begin (slice_range xs low high) in
    let few = subst (λ (xs : List Member). high ≤ length xs) c.deref.ensures.value c.near_bundle_at-low.ensures.few in
    let none : entered ≡ 0 = c.is_alone.ensures.entered c.if-is_alone.true in
    let single : high - low ≡ 1 = c.is_alone.ensures.bundle c.if-is_alone.true in
    let next : low + 1 ≡ high = omega (arith, single) in
    let there : low < length ms = omega (arith, few, next) in
    let one : units_of stay ≡ x.unit ∷ [] = c.in_ok-go_through.ensures.unit x ∙ ap (λ (m : Member). m.unit ∷ []) (sym c.index.ensures) in
    let lone : length stay ≡ 1 = sym (length-map stay (λ m. m.unit)) ∙ ap length one in
    let goes : ends_after r x.unit.seg ≡ true = sym c.ends_after.ensures ∙ c.if-ends_after.true in
    let moved = lone_moved r ms low high entered x coming there single none c.index.ensures stay goes one in
    let begun : Begun (is_in_strip k r) = subst Begun (sym inside) c.in_ok-go_through.ensures.begun in
    let put : after ≡ take low ms ++ stay ++ drop high ms = c.in_ok-go_through.ensures.put ∙ ap (λ j. take low ms ++ stay ++ drop j ms) next in
    let known : false ≡ false → (is_in_strip k r ≡ false) ⊎ (segs_of stay ≡ segs_of (slice_range ms low high)) = λ e. inr (alone_stays r ms stay stay low high entered coming few single none lone moved refl) in
    let done = stepped c.args.input.now c.args.node.now.at c.args.begin ms after stay stay low high 1 entered coming self.search self.search rows c.close.new.rows.items c.near_bundle_at-low.ensures.in_order few
    (subst Splits c.deref.ensures.value c.near_bundle_at-low.ensures.split) c.count_entering-entered.ensures moved (lone_turned stay lone) refl begun
    (subst Closed c.deref-2.ensures.value c.in_ok-close.ensures) put (sym lone) false known (no_seams k r (segs_of after) self.search) in
    let Stepped : List Start → List Start → Type 0 = λ l m. IsStepped c.args.input.now c.args.node.now.at c.args.begin ms after l m self.search self.search rows c.close.new.rows.items in
    subst (λ (l : List Start). Stepped l l) behind (subst (λ j. Stepped coming (drop j coming)) none done)

pub returns-then-ends_after-clause-begun : goal.returns-then-ends_after-clause-begun
returns-then-ends_after-clause-begun c =
    all_begin c.args.input.now.steps (mask_over 0 (take c.near_bundle_at-low.result.0 c.args.self.now.status.items)) c.args.begin true c.go_through.new.stay.items c.in_ok-go_through.ensures.begun

pub returns-then-ends_after-clause-members : goal.returns-then-ends_after-clause-members
returns-then-ends_after-clause-members c = λ m h.
    let low : ℕ = c.near_bundle_at-low.result.0 in
    members_from c.args.self.now.status.items c.go_through.new.stay.items c.go_through.new.status.items low (low + 1) c.in_ok-go_through.ensures.put m h
