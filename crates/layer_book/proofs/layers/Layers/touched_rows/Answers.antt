use Rattle.std.proofs.Common.{arith, refl, ap, sym, ◌∙◌, bytes_eq}
use Rattle.std.specs.List.{list_any}
use Rattle.std.proofs.lemmas.Result.{err_from_is_err_and}
use Rattle.overlay_terms.specs.Touched.{derived_over}
use Rattle.layer_book.specs.Command.{command}
use Rattle.layer_book.specs.Layer.{content}
use Rattle.layer_book.specs.Touching.{touched_columns}
use Rattle.layer_book.proofs.Lines.{none_there}
use Rattle.layer_book.proofs.ReachingLemmas.{over_at}
use Rattle.layer_book.proofs.TouchedLemmas.{rows_more, rows_whole}
use Rattle.layer_book.proofs.layers.Layers.touched_rows.Goals as goal
use Rattle.layer_book.proofs.layers.Layers.touched_rows.Goals.{in-Some+in_ok-row+in_ok-push, in_default}

pub loop-i-preserved : goal.loop-i-preserved
loop-i-preserved c =
    let layers = c.args.self.now in
    elim c.match-at.branch [
      | in-Some+in_ok-row+in_ok-push w ↦
          rw w.rows-is (rows_more (touched_columns layers (command c.args.change.now)) layers c.loop-i.i _ c.loop-i.rows.items _ w.in_ok-row.row (sym w.in-Some.ensures) c.loop-i.invariant w.in_ok-row.ensures w.in_ok-push.ensures.items)
      | in_default w ↦ absurd (none_there layers c.loop-i.i (omega (arith, c.len-i-end.ensures.value)) w.in_default.ensures)
    ]

pub returns : goal.returns
returns c = rows_whole (touched_columns c.args.self.now (command c.args.change.now)) c.args.self.now c.loop-i.i c.loop-i.rows.items (omega (arith, c.len-i-end.ensures.value)) c.loop-i.invariant

pub touched_columns-requires-clause-book : goal.touched_columns-requires-clause-book
touched_columns-requires-clause-book c = c.len-i-end.ensures.valid

pub touched_columns-requires-clause-over : goal.touched_columns-requires-clause-over
touched_columns-requires-clause-over c =
    let layers = c.args.self.now in
    let own = c.in-Some.name.now in
    let made = content c.in-Some.layer.now in
    let there = sym c.in-Some.ensures in
    c.is_derived_and_marked-is_over.ensures
    ∙ over_at layers c.name.result.now c.loop-i.i (record { name = own; content = made }) _ _ c.len-i-end.ensures.valid.sound.orderly there (c.layers_over-over.ensures.marks c.loop-i.i _ there) refl
    ∙ ap (λ n. list_any (bytes_eq own) (derived_over layers n)) c.name.ensures

pub touched_columns-requires-clause-accepted : goal.touched_columns-requires-clause-accepted
touched_columns-requires-clause-accepted c = c.requires.accepted

pub touched_columns-requires-clause-made : goal.touched_columns-requires-clause-made
touched_columns-requires-clause-made c = c.requires.made

-- written out: of a row of 33 the search does not find it
pub returns-in_err-push : goal.returns-in_err-push
returns-in_err-push c =
    let p = err_from_is_err_and c.from_residual-in_err-push.result c.from_residual-in_err-push.ensures.1 in
    rw p.1 tt
