use Rattle.std.proofs.Common.{◌++◌, ◌∷◌, [], ℕ, ◌≡◌, None, replicate, ap, ◌∙◌, arith}
use Rattle.std.proofs.lemmas.List.{replicate_more}
use Rattle.overlay_terms.specs.Column.{column_count}
use Rattle.layer_tiles.proofs.table.empty_rows.Goals as goal

pub loop-preserved : goal.loop-preserved
loop-preserved c =
    c.in_ok-push.ensures.items ∙ (λ t. c.loop.invariant t ++ c.in_ok-row.ensures t ∷ []) ∙ replicate_more c.loop.counter (replicate column_count None)

pub returns : goal.returns
returns c =
    let all : c.loop.counter ≡ c.args.count = omega (arith, c.loop-test.false, c.loop.auto.counter-end) in
    c.loop.invariant ∙ ap (λ (n : ℕ). replicate n (replicate column_count None)) all
