use Rattle.std.proofs.Common.{ap, sym, ◌∙◌, arith}
use Rattle.overlay_terms.specs.Commands.{refusal_of, applied}
use Rattle.layer_book.specs.Command.{command}
use Rattle.layer_book.specs.Touching.{touched_rows}
use Rattle.layer_book.proofs.Lines.{none_there}
use Rattle.layer_tiles.specs.Table.{laid, left_at, places_in, placed_rows}
use Rattle.layer_tiles.proofs.RowLemmas.{rows_more, rows_whole}
use Rattle.layer_tiles.proofs.Placed.{placed_more}
use Rattle.layer_tiles.proofs.table.Table.rows_left.Goals as goal
use Rattle.layer_tiles.proofs.table.Table.rows_left.Goals.{in-Some+in_ok-row+in_ok-push, in_default}

pub touched_rows-requires-clause-accepted : goal.touched_rows-requires-clause-accepted
touched_rows-requires-clause-accepted c = ap (λ ls. refusal_of ls (command c.args.change.now)) c.layers.ensures.value ∙ c.requires.accepted

pub touched_rows-requires-clause-made : goal.touched_rows-requires-clause-made
touched_rows-requires-clause-made c = c.requires.made ∙ ap (λ ls. applied ls (command c.args.change.now)) (sym c.layers.ensures.value)

pub loop-place-preserved : goal.loop-place-preserved
loop-place-preserved c =
    let change = command c.args.change.now in
    let marks = c.in_ok-touched.ensures ∙ ap (λ ls. touched_rows ls change) c.layers.ensures.value in
    elim c.match-at.branch [
      | in-Some+in_ok-row+in_ok-push w ↦
          rw w.rows-is (rows_more (left_at (laid c.args.self.now) change) c.args.after.now c.loop-place.place _ (placed_rows c.loop-place.rows.items) _ (places_in w.in_ok-row.row) (sym w.in-Some.ensures) c.loop-place.invariant (w.in_ok-row.ensures change (c.as_slice-marks.ensures.value ∙ marks)) (placed_more c.loop-place.rows.items _ w.in_ok-row.row w.in_ok-push.ensures.items))
      | in_default w ↦ absurd (none_there c.args.after.now c.loop-place.place (omega (arith, c.len-place-end.ensures.value)) w.in_default.ensures)
    ]

pub returns : goal.returns
returns c = rows_whole (left_at (laid c.args.self.now) (command c.args.change.now)) c.args.after.now c.loop-place.place (placed_rows c.loop-place.rows.items) (omega (arith, c.len-place-end.ensures.value)) c.loop-place.invariant
