use Rattle.std.proofs.Common.{◌++◌, ◌∷◌, [], take_all, sym, ◌∙◌}
use Rattle.std.proofs.lemmas.List.{take_more}
use Rattle.layer_tiles.proofs.table.shared_rows.Goals as goal

pub loop-row-preserved : goal.loop-row-preserved
loop-row-preserved c =
    c.in_ok-push.ensures.items ∙ (λ t. c.loop-row.invariant t ++ (c.in_ok-copy.ensures.value ∙ c.row-item.is) t ∷ [])
    ∙ sym (take_more c.args.rows.now c.loop-row.row-index c.row-item.result c.loop-row-test.true)

pub returns : goal.returns
returns c = c.loop-row.invariant ∙ take_all c.loop-row.row-index c.args.rows.now c.loop-row-test.false
