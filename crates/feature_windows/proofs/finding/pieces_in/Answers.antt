use Rattle.std.proofs.Common.{◌≡◌, ◌<◌, ◌≤◌, true, List, length, map, ap, sym, subst, ◌∙◌, arith, rules}
use Rattle.std.proofs.lemmas.List.{length-map}
use Rattle.std.proofs.lemmas.Result.{IfOk-weaker}
use Rattle.overlay_terms.specs.Column.{column_count}
use Rattle.arrange.specs.Marked.{marked_of, segments_max}
use Rattle.arrange.specs.declared.marked_seg.MarkedSeg.{MarkedSeg}
use Rattle.crossing_sweep.specs.StripInput.{StripInput, IsStripInput}
use Rattle.near_steps.specs.Cores.{box_of}
use Rattle.sided_pieces.specs.Sided.{sided_of, AreSided}
use Rattle.feature_windows.specs.Boundary.{AreBoundary}
use Rattle.feature_windows.proofs.ShownLemmas.{shown_valid, value_shown}
use Rattle.feature_windows.proofs.finding.pieces_in.Goals as goal

pub of_strip-input-requires-clause-valid : goal.of_strip-input-requires-clause-valid
of_strip-input-requires-clause-valid c =
    let window = c.args.window.now in
    let drawn : window.is_drawn ≡ true = search rules in
    let count : length window.layers.items ≡ c.args.steps.now.bases = omega arith in
    let few : c.args.steps.now.bases ≤ 32 = omega arith in
    let known : c.in-Some.strip.last < column_count = subst (λ k. k < column_count) (c.number.ensures.value ∙ c.last.ensures.value) c.number.ensures.small in
    subst (λ (ms : List MarkedSeg). IsStripInput (record { strip = c.in-Some.strip; marked = map marked_of ms; steps = c.args.steps.now })) (sym c.deref.ensures.value)
    (shown_valid (box_of window.core) window.layers.items (map marked_of window.marked.items) c.in-Some.strip c.args.steps.now c.last.ensures.in_order known few count (window.shown drawn))

pub of_strip-input-requires-clause-few : goal.of_strip-input-requires-clause-few
of_strip-input-requires-clause-few c =
    let many : length (map marked_of c.args.window.now.marked.items) ≡ length c.args.window.now.marked.items = length-map c.args.window.now.marked.items marked_of in
    let few : length (map marked_of c.args.window.now.marked.items) ≤ segments_max = omega arith in
    subst (λ (ms : List MarkedSeg). length (map marked_of ms) ≤ segments_max) (sym c.deref.ensures.value) few

pub returns : goal.returns
returns c =
    let window = c.args.window.now in
    let drawn : window.is_drawn ≡ true = search rules in
    let input_at : List MarkedSeg → StripInput = λ ms. record { strip = c.in-Some.strip; marked = map marked_of ms; steps = c.args.steps.now } in
    let is : c.of_strip-input.result ≡ input_at window.marked.items = c.of_strip-input.ensures ∙ ap input_at c.deref.ensures.value in
    IfOk-weaker c.pieces_of.result (λ list. AreSided c.of_strip-input.result (map sided_of list.items))
    (λ list. AreBoundary window.core window.layers.items c.args.steps.now (map sided_of list.items))
    (λ list h. record {
      strip = c.in-Some.strip;
      first = c.in-Some.ensures.first;
      last = c.in-Some.ensures.last;
      marked = map marked_of window.marked.items;
      sided = subst (λ (i : StripInput). AreSided i (map sided_of list.items)) is h;
      shows = value_shown (box_of window.core) window.layers.items (map marked_of window.marked.items) c.args.steps.now (window.shown drawn);
    })
    c.pieces_of.ensures
