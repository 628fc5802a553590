use Rattle.std.proofs.Common.{◌≡◌, ℕ, ◌+◌, ◌++◌, ◌∷◌, [], List, ◌∙◌, ap, sym, map, arith}
use Rattle.std.specs.List.{range_with_len}
use Rattle.std.proofs.lemmas.List.FromFn.{map-range_with_len_more}
use Rattle.overlay_terms.specs.Trees.{steps_value}
use Rattle.overlay_grid.specs.Column.{mark_by}
use Rattle.overlay_grid.specs.Turning.{is_marked, turned}
use Rattle.overlay_grid.proofs.ManySegments.{bits_more}
use Rattle.overlay_grid.proofs.columns.marks.Goals as goal

pub loop-j-preserved : goal.loop-j-preserved
loop-j-preserved c =
    let turns = c.args.turns.now in
    let edges = c.args.edges.now in
    let steps = c.args.steps.now in
    let j = c.loop-j.j in
    let f = λ (i : ℕ). mark_by (is_marked edges i) (steps_value steps (turned turns (i + 1))) in
    let bits = λ (k : ℕ). bits_more turns j c.loop-j.mask k c.loop-j-test.true (c.loop-j.invariant.bits k) in
    let value : c.value.result ≡ steps_value steps (turned turns (j + 1)) = c.value.ensures.known (turned turns (j + 1)) (λ k l. bits k) in
    let one : c.mark.result ≡ mark_by (is_marked edges j) (steps_value steps (turned turns (j + 1))) = c.mark.ensures ∙ ap (mark_by (is_marked edges j)) value in
    record {
      answered = c.in_ok-push.ensures.items ∙ ap (λ (ms : List ℕ). ms ++ c.mark.result ∷ []) c.loop-j.invariant.answered
          ∙ ap (λ m. map f (range_with_len 0 j) ++ m ∷ []) one ∙ sym (map-range_with_len_more f 0 j j (omega arith));
      bits = bits;
    }
