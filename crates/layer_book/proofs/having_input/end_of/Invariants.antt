use Rattle.std.proofs.Common.{◌≡◌, drop}
use Rattle.layer_book.specs.Having.{marks_in, past}
use Rattle.layer_book.proofs.HavingLemmas.{left_in}
use Rattle.layer_book.proofs.having_input.end_of.Given as goal

-- what is left of both says what follows
abbrev pub invariant-loop-seg : goal.invariant-loop-seg
invariant-loop-seg l =
    past (marks_in l.column l.number l.segs) (left_in l.column l.marked l.from)
    ≡ past (marks_in l.column l.number (drop l.seg-index l.segs)) (left_in l.column l.marked l.next)
