use Rattle.std.proofs.Common.{◌≡◌, get_or, false, None, if◌then◌else◌, ◌∙◌}
use Rattle.layer_tiles.specs.Table.{row_by}
use Rattle.layer_tiles.proofs.LookLemmas.{ok_then}
use Rattle.layer_tiles.proofs.RowLemmas.{bare_left, bare_row, whole_left, whole_row}
use Rattle.layer_tiles.proofs.tiles.TileRow.without.Goals as goal

pub returns-then-has_none_of : goal.returns-then-has_none_of
returns-then-has_none_of c =
    let row = c.args.self.now in
    let marks = c.args.marks.now in
    ok_then c.share.result (λ shared. shared ≡ row) (λ left. left ≡ row_by (λ k. if get_or marks k false then None else get_or row k None)) c.share.ensures.value
    (λ shared is. is ∙ whole_row marks row c.share.ensures.whole (whole_left marks row (c.has_none_of.ensures c.if-has_none_of.true)))

pub returns-then-has_none_of-2 : goal.returns-then-has_none_of-2
returns-then-has_none_of-2 c =
    let row = c.args.self.now in
    let marks = c.args.marks.now in
    ok_then c.share-then-has_none_of-2.result (λ shared. shared ≡ c.args.bare.now) (λ left. left ≡ row_by (λ k. if get_or marks k false then None else get_or row k None)) c.share-then-has_none_of-2.ensures.value
    (λ shared is. is ∙ c.requires ∙ bare_row marks row (bare_left marks row (c.has_none_of-2.ensures c.if-has_none_of-2.true)))
