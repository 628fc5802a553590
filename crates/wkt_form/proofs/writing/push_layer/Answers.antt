use Rattle.std.proofs.Common.{ap, ◌∙◌, ◌++◌}
use Rattle.std.specs.Prelude.{string_bytes}
use Rattle.wkt_form.specs.Spelling.{ring_text}
use Rattle.wkt_form.proofs.WritingLemmas.{listed_more, joined}
use Rattle.wkt_form.proofs.writing.push_layer.Goals as goal

pub loop-i-preserved : goal.loop-i-preserved
loop-i-preserved c =
    let more = listed_more ring_text c.args.rings.now c.loop-i.i c.index-rings-i.result c.loop-i-test.true c.index-rings-i.is in
    joined _ _ _ _ _ _ _ _ (c.in_ok-push_ring.ensures ∙ ap (λ points. string_bytes c.push_separator.new.text ++ ring_text points) c.points.ensures) c.in_ok-push_separator.ensures c.loop-i.invariant more
