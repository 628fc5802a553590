use Rattle.std.proofs.Common.{not, ap, ◌∙◌, arith}
use Rattle.layer_book.specs.Touching.{same_in}
use Rattle.layer_book.proofs.TouchedLemmas.{marks_more, length_set}
use Rattle.layer_book.proofs.comparing.differing_columns.Goals as goal
use Rattle.layer_book.proofs.comparing.differing_columns.Goals.{in-Some, in_default}

pub loop-number-preserved : goal.loop-number-preserved
loop-number-preserved c =
    let new = c.args.new.now in
    let old = c.args.old.now in
    let number = c.loop-number.number in
    elim c.match-new.branch [
      | in-Some w ↦
          let told = w.is_same_in.ensures ∙ c.between_common_ends.ensures _
          ∙ ap (λ k. same_in k new old) (w.in-Some.ensures.1 ∙ c.from.ensures) in
          rw w.differing-is
          (record {
            room = length_set c.loop-number.differing _ _ ∙ c.loop-number.invariant.room;
            so_far = marks_more (λ k. not (same_in k new old)) c.loop-number.differing number
                w.from-in-Some.result w.is_same_in.result (omega (arith, c.loop-number-test.true))
                (omega (arith, c.loop-number.invariant.room)) w.from-in-Some.ensures (ap not told)
                c.loop-number.invariant.so_far;
          })
      | in_default w ↦ absurd (w.in_default.ensures (omega (arith, c.from.ensures, c.loop-number-test.true)))
    ]
