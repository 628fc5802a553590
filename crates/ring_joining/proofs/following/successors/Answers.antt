use Rattle.std.proofs.Common.{List, true, false, subst, sym, ◌∙◌}
use Rattle.std.proofs.lemmas.Result.{IfOk-weaker}
use Rattle.ring_joining.specs.declared.ending.PieceEnd.{PieceEnd}
use Rattle.ring_joining.specs.Following.{ArePaired, AreNexts, AreSortedEnds}
use Rattle.ring_joining.proofs.OrderLemmas.{as_many, ends_distinct, nexts_are}
use Rattle.ring_joining.proofs.following.successors.Goals as goal

pub paired-requires-clause-alike : goal.paired-requires-clause-alike
paired-requires-clause-alike c =
    let s = subst (λ (xs : List PieceEnd). AreSortedEnds true c.args.pieces.now xs) (sym c.deref.ensures.value) c.in_ok-starts.ensures in
    let e = subst (λ (xs : List PieceEnd). AreSortedEnds false c.args.pieces.now xs) (sym c.deref-2.ensures.value) c.in_ok-ends.ensures in
    as_many true c.args.pieces.now c.deref.result.now s ∙ sym (as_many false c.args.pieces.now c.deref-2.result.now e)

pub paired-requires-clause-distinct : goal.paired-requires-clause-distinct
paired-requires-clause-distinct c =
    let e = subst (λ (xs : List PieceEnd). AreSortedEnds false c.args.pieces.now xs) (sym c.deref-2.ensures.value) c.in_ok-ends.ensures in
    ends_distinct false c.args.pieces.now c.deref-2.result.now e

pub returns-clause-nexts : goal.returns-clause-nexts
returns-clause-nexts c =
    let s = subst (λ (xs : List PieceEnd). AreSortedEnds true c.args.pieces.now xs) (sym c.deref.ensures.value) c.in_ok-starts.ensures in
    let e = subst (λ (xs : List PieceEnd). AreSortedEnds false c.args.pieces.now xs) (sym c.deref-2.ensures.value) c.in_ok-ends.ensures in
    λ balanced. IfOk-weaker c.paired.result (λ nexts. ArePaired c.deref.result.now c.deref-2.result.now nexts.items) (λ nexts. AreNexts c.args.pieces.now nexts.items)
    (λ nexts h. nexts_are c.args.pieces.now c.deref.result.now c.deref-2.result.now nexts.items s e h balanced) c.paired.ensures
