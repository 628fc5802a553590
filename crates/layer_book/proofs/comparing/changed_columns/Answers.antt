use Rattle.std.proofs.Common.{not, map, ap, ◌∙◌, arith}
use Rattle.std.specs.Cmp.Lexicographic.{pointwise}
use Rattle.overlay_terms.specs.SameInput.{same_marked}
use Rattle.layer_book.specs.Touching.{marked_in}
use Rattle.layer_book.proofs.TouchedLemmas.{marks_more, length_set}
use Rattle.layer_book.proofs.comparing.changed_columns.Goals as goal
use Rattle.layer_book.proofs.comparing.changed_columns.Goals.{in-Some, in_default}

pub loop-number-preserved : goal.loop-number-preserved
loop-number-preserved c =
    let news = map (λ b. b.now) c.args.new.now in
    let olds = map (λ b. b.now) c.args.old.now in
    let number = c.loop-number.number in
    elim c.match-new.branch [
      | in-Some w ↦
          rw w.changed-is
          (record {
            room = length_set c.loop-number.changed _ _ ∙ c.loop-number.invariant.room;
            so_far = marks_more (λ k. not (pointwise same_marked (marked_in k news) (marked_in k olds))) c.loop-number.changed number w.from-in-Some.result w.are_same_in.result (omega (arith, c.loop-number-test.true)) (omega (arith, c.loop-number.invariant.room)) w.from-in-Some.ensures
                (ap not (w.are_same_in.ensures ∙ ap (λ k. pointwise same_marked (marked_in k news) (marked_in k olds)) (w.in-Some.ensures.1 ∙ c.from.ensures))) c.loop-number.invariant.so_far;
          })
      | in_default w ↦ absurd (w.in_default.ensures (omega (arith, c.from.ensures, c.loop-number-test.true)))
    ]
