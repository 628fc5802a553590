use Rattle.std.proofs.Common.{◌&&◌, ◌+◌, map, filter, drop, ap, sym, ◌∙◌, arith}
use Rattle.std.specs.Cmp.Lexicographic.{pointwise}
use Rattle.overlay_terms.specs.Column.{touches}
use Rattle.overlay_terms.specs.SameInput.{same_marked, same_segment}
use Rattle.layer_book.proofs.SameMarks.{marked_from, drop_mapped, compared_more}
use Rattle.layer_book.proofs.comparing.are_same_in.Goals as goal

pub returns-then-not-is_same_in : goal.returns-then-not-is_same_in
returns-then-not-is_same_in c =
    let column = c.args.column in
    let i = c.loop-i.i in
    let news = map (λ b. b.now) c.args.new.now in
    let olds = map (λ b. b.now) c.args.old.now in
    let rest = pointwise same_marked (marked_from column (i + 1) (drop (i + 1) news)) (marked_from column (i + 1) (drop (i + 1) olds)) in
    sym
    (c.loop-i.invariant
    ∙ compared_more column i news olds c.index-new-i.result.now c.index-old-i.result.now
    (drop_mapped (λ b. b.now) c.args.new.now i c.index-new-i.result c.loop-i-test.true c.index-new-i.is)
    (drop_mapped (λ b. b.now) c.args.old.now i c.index-old-i.result (omega (arith, c.requires)) c.index-old-i.is)
    ∙ ap (λ b. b && rest)
    (sym (c.is_same_in.ensures ∙ (λ j. pointwise same_segment (filter (touches column) (c.segs.ensures.value j)) (filter (touches column) (c.segs-in-loop-i.ensures.value j)))) ∙ c.if-not-is_same_in.true))

pub loop-i-preserved : goal.loop-i-preserved
loop-i-preserved c =
    let column = c.args.column in
    let i = c.loop-i.i in
    let news = map (λ b. b.now) c.args.new.now in
    let olds = map (λ b. b.now) c.args.old.now in
    let rest = pointwise same_marked (marked_from column (i + 1) (drop (i + 1) news)) (marked_from column (i + 1) (drop (i + 1) olds)) in
    c.loop-i.invariant
    ∙ compared_more column i news olds c.index-new-i.result.now c.index-old-i.result.now
    (drop_mapped (λ b. b.now) c.args.new.now i c.index-new-i.result c.loop-i-test.true c.index-new-i.is)
    (drop_mapped (λ b. b.now) c.args.old.now i c.index-old-i.result (omega (arith, c.requires)) c.index-old-i.is)
    ∙ ap (λ b. b && rest)
    (sym (c.is_same_in.ensures ∙ (λ j. pointwise same_segment (filter (touches column) (c.segs.ensures.value j)) (filter (touches column) (c.segs-in-loop-i.ensures.value j)))) ∙ c.if-not-is_same_in.false)
