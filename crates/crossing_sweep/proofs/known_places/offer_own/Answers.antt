use Rattle.std.proofs.Common.{append_assoc}
use Rattle.crossing_sweep.proofs.KnownLemmas.{more_ends}
use Rattle.crossing_sweep.proofs.known_places.offer_own.Goals as goal

pub returns : goal.returns
returns c = λ names ends h.
    simp (append_assoc, c.left.ensures.value, c.right.ensures.value) at
    (c.in_ok-offer_cuts.ensures _ (c.in_ok-offer_new_end-2.ensures _ (more_ends names _ c.args.before.now ends) (c.in_ok-offer_new_end.ensures names ends h)))
