use Rattle.crossing_sweep.proofs.TurnedLemmas.{all_moved, all_turned}
use Rattle.exact_point.specs.Place.{place}
use Rattle.std.proofs.Common.{map}
use Rattle.std.proofs.lemmas.List.Sorted.{IsPermutation-refl}
use Rattle.crossing_sweep.proofs.members_after.turned.Goals as goal

pub returns-then-len-gt1-clause-moved : goal.returns-then-len-gt1-clause-moved
returns-then-len-gt1-clause-moved c =
    all_moved (place c.args.node.now.at) c.args.bundle.now c.staying.new.stay.items c.enter.new.stay.items c.sort_unstable.new.self.items (map (λ s. s.unit) c.args.entering.now) c.in_ok-staying.ensures c.in_ok-enter.ensures
    c.sort_unstable.ensures.permutation

pub returns-then-len-gt1-clause-turned : goal.returns-then-len-gt1-clause-turned
returns-then-len-gt1-clause-turned c = all_turned c.sort_unstable.new.self.items c.sort_unstable.ensures.sorted

pub returns-else-len-gt1-clause-moved : goal.returns-else-len-gt1-clause-moved
returns-else-len-gt1-clause-moved c =
    all_moved (place c.args.node.now.at) c.args.bundle.now c.staying.new.stay.items c.enter.new.stay.items c.enter.new.stay.items (map (λ s. s.unit) c.args.entering.now) c.in_ok-staying.ensures c.in_ok-enter.ensures
    (IsPermutation-refl c.enter.new.stay.items)
