use Rattle.std.proofs.Common.{◌≡◌, get_or, false, None, if◌then◌else◌, ap, ◌∙◌}
use Rattle.overlay_terms.specs.Column.{column_count}
use Rattle.overlay_terms.specs.Commands.{index_of}
use Rattle.layer_tiles.specs.Table.{laid, left_at, places_in, row_by}
use Rattle.layer_tiles.proofs.LookLemmas.{no_row_left, ok_then, row_left_by}
use Rattle.layer_tiles.proofs.Placed.{places_left, places_none}
use Rattle.layer_tiles.proofs.table.Table.row_left.Goals as goal

pub returns-in-Some : goal.returns-in-Some
returns-in-Some c = λ change marked.
    let marks = c.marks_at-marks.result in
    let row = c.in-Some.row.now in
    ok_then c.without.result (λ left. left ≡ row_by (λ k. if get_or marks k false then None else get_or row k None)) (λ left. places_in left ≡ row_by (left_at (laid c.args.self.now) change c.args.name.now)) c.without.ensures
    (λ left is.
    row_left_by (laid c.args.self.now) c.layers.ensures.valid change c.args.name.now c.index_near-place.result (places_in row) (places_in left) marks c.args.touched.now
    (c.index_near-place.ensures ∙ ap (λ ls. index_of ls c.args.name.now) c.layers.ensures.value) c.in-Some.ensures.places marked c.marks_at-marks.ensures (places_left row left marks is))

pub returns-in-None : goal.returns-in-None
returns-in-None c = λ change marked.
    ok_then c.share.result (λ left. left ≡ c.args.bare.now) (λ left. places_in left ≡ row_by (left_at (laid c.args.self.now) change c.args.name.now)) c.share.ensures.value
    (λ left is.
    ap places_in (is ∙ c.requires) ∙ places_none column_count ∙ no_row_left (laid c.args.self.now) c.layers.ensures.valid change c.args.name.now c.index_near-place.result (c.index_near-place.ensures ∙ ap (λ ls. index_of ls c.args.name.now) c.layers.ensures.value) c.in-None.ensures.places)
