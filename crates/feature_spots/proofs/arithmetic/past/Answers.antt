use Rattle.std.proofs.Common.{rules, ◌≡◌, ◌*ℤ◌}
use Rattle.std.proofs.lemmas.Int.{to_z-of_z}
use Rattle.feature_spots.proofs.ReachLemmas.{past_within}
use Rattle.feature_spots.proofs.arithmetic.past.Goals as goal

pub returns-clause-bound : goal.returns-clause-bound
returns-clause-bound c near fine =
    let x_is : c.from.result ≡ c.args.x = search (rules, to_z-of_z) in
    let product : c.scaled.result ≡ c.args.from *ℤ c.args.w = search (rules, to_z-of_z) in
    past_within c.args.x c.args.from c.args.w c.from.result c.scaled.result c.ranges.x x_is product near fine
