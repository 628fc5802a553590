use Rattle.std.proofs.Common.{◌≡◌, [], ◌∷◌, ◌+◌, ◌∙◌, true, sym, ap, drop, rules}
use Rattle.std.proofs.lemmas.List.{drop_all, drop_more}
use Rattle.std.proofs.lemmas.List.Elements.{All-nil, All-cons, All-same}
use Rattle.overlay_terms.specs.InputLaws.{IsClosed}
use Rattle.block_reading.specs.Block.{dealt}
use Rattle.feature_windows.proofs.rings.are_rings.Goals as goal

pub loop-count-preserved : goal.loop-count-preserved
loop-count-preserved c =
    let i = c.loop-count.count-index in
    let yes : c.is_ring.result ≡ true = search rules in
    let one =
    ap (λ ns. dealt ns c.loop-count.rest.now) (drop_more c.args.counts.now i 0 c.loop-count-test.true)
    ∙ (λ k. sym c.parted.ensures.first k ∷ dealt (drop (i + 1) c.args.counts.now) (sym c.parted.ensures.rest k)) in
    λ others. c.loop-count.invariant
    (All-same IsClosed (dealt (drop i c.args.counts.now) c.loop-count.rest.now) (c.parted.result.0.now ∷ dealt (drop (i + 1) c.args.counts.now) c.parted.result.1.now) one
    (All-cons IsClosed c.parted.result.0.now (dealt (drop (i + 1) c.args.counts.now) c.parted.result.1.now) (c.is_ring.ensures yes) others))

pub returns : goal.returns
returns c =
    λ _. c.loop-count.invariant
    (All-same IsClosed (dealt (drop c.loop-count.count-index c.args.counts.now) c.loop-count.rest.now) (dealt [] c.loop-count.rest.now)
    (ap (λ ns. dealt ns c.loop-count.rest.now) (drop_all c.loop-count.count-index c.args.counts.now c.loop-count-test.false)) (All-nil IsClosed))
