use Rattle.std.proofs.Common.{◌≡◌, ◌∙◌, ap, get_or, map, false, None, if◌then◌else◌, arith}
use Rattle.std.specs.List.{range_with_len}
use Rattle.overlay_terms.specs.Column.{column_count}
use Rattle.layer_tiles.specs.Table.{row_of}
use Rattle.layer_tiles.proofs.RowLemmas.{left_more}
use Rattle.layer_tiles.proofs.tiles.left_in.Goals as goal

pub loop-i-preserved : goal.loop-i-preserved
loop-i-preserved c =
    let marks = c.args.marks.now in
    left_more (row_of c.args.parts.now) marks c.loop-i.left.items c.push.new.self.items c.in_ok-kept.kept c.loop-i.i
    (c.in_ok-kept.ensures ∙ ap (λ o. if get_or marks c.loop-i.i false then None else o) c.tile_at.ensures) c.loop-i.invariant c.in_ok-push.ensures.items

pub returns : goal.returns
returns c =
    let all : c.loop-i.i ≡ column_count = omega (arith, c.loop-i-test.false, c.loop-i.auto.i-end) in
    c.loop-i.invariant ∙ ap (λ n. map (λ k. if get_or c.args.marks.now k false then None else get_or (row_of c.args.parts.now) k None) (range_with_len 0 n)) all
