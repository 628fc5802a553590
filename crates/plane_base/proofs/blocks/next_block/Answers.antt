use Rattle.std.proofs.Common.{length, sym, ◌∙◌, arith}
use Rattle.std.proofs.lemmas.List.{take_all, drop_all}
use Rattle.plane_base.proofs.blocks.next_block.Goals as goal

pub returns-then-rest-lt-SEGMENTS_PER_BLOCK-clause-block : goal.returns-then-rest-lt-SEGMENTS_PER_BLOCK-clause-block
returns-then-rest-lt-SEGMENTS_PER_BLOCK-clause-block c =
    let xs = c.args.rest.now in
    c.split_at.ensures.front ∙ take_all (length xs) xs (omega arith) ∙ sym (take_all 32 xs (omega (arith, c.if-rest-lt-SEGMENTS_PER_BLOCK.true)))

pub returns-then-rest-lt-SEGMENTS_PER_BLOCK-clause-left : goal.returns-then-rest-lt-SEGMENTS_PER_BLOCK-clause-left
returns-then-rest-lt-SEGMENTS_PER_BLOCK-clause-left c =
    let xs = c.args.rest.now in
    c.split_at.ensures.back ∙ drop_all (length xs) xs (omega arith) ∙ sym (drop_all 32 xs (omega (arith, c.if-rest-lt-SEGMENTS_PER_BLOCK.true)))
