use Rattle.std.proofs.Common.{[]}
use Rattle.arrange.proofs.FoundLemmas.{none_found}
use Rattle.arrange.proofs.finding_nodes.offer_own.Goals as goal

pub returns-clause-found : goal.returns-clause-found
returns-clause-found c = λ e.
    simp (c.left.ensures.value, c.right.ensures.value, c.number.ensures.value, c.number-2.ensures.value) at
    (c.in_ok-offer-4.ensures _ (c.in_ok-offer-3.ensures _ (c.in_ok-offer-2.ensures _ (c.in_ok-offer.ensures [] (rw e (none_found c.args.column c.args.seg.now))))))
