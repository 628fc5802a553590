use Rattle.arrange.proofs.MadePieces.{begins_by, begins_not, one_more, no_more}
use Rattle.arrange.proofs.finding_pieces.add_between.Goals as goal

pub mask_over-mask-requires : goal.mask_over-mask-requires
mask_over-mask-requires c = c.marked.ensures.few

pub invariant_of-push : goal.invariant_of-push
invariant_of-push c = record { ahead = c.requires.neighbours.ahead }

pub returns-in_ok-push : goal.returns-in_ok-push
returns-in_ok-push c =
    let begins = begins_by c.args.input.now c.args.seg.now c.args.from.now c.column.result c.is_before_next.result c.requires.neighbours.from_found c.column.ensures.value c.is_before_next.ensures c.if-is_before_next.true in
    rw c.in_ok-push.ensures.items
    (one_more c.args.input.now c.args.seg.now c.args.from.now c.args.to.now c.requires.neighbours c.marked.ensures.valid c.marked.result.now c.marked.ensures.value c.mask_over-mask.result c.mask_over-mask.ensures begins c.args.placed.now.items _)

pub returns-else-is_before_next : goal.returns-else-is_before_next
returns-else-is_before_next c =
    no_more c.args.input.now c.args.from.now c.args.to.now c.args.placed.now.items
    (begins_not c.args.input.now c.args.from.now c.column.result c.is_before_next.result c.column.ensures.value c.is_before_next.ensures c.if-is_before_next.false)
