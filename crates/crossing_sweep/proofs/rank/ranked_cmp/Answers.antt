use Rattle.std.proofs.Common.{◌≡◌, ◌∙◌, arith, rules}
use Rattle.std.proofs.Math.Logic.{∥∥₁_elim}
use Rattle.std.specs.Ordering.{int_cmp, Ordering-set}
use Rattle.std.proofs.lemmas.Int.{ints, to_z-of_z}
use Rattle.exact_point.specs.Place.{place}
use Rattle.crossing_sweep.proofs.RankLemmas.{by_ranks}
use Rattle.crossing_sweep.proofs.rank.ranked_cmp.Goals as goal
use Rattle.arrange.proofs.FoundLemmas.{place_positive}

pub returns-then-a-b : goal.returns-then-a-b
returns-then-a-b c =
    let order : c.cmp.result ≡ int_cmp c.args.a c.args.b = search rules in
    let differ : c.args.a ≡ c.args.b → ⊥ = (λ e. grind (arith, ints, to_z-of_z)) in
    order ∙ ∥∥₁_elim c.requires.first (Ordering-set _ _) (λ i. ∥∥₁_elim c.requires.second (Ordering-set _ _) (λ j. by_ranks c.args.a c.args.b (place c.args.p.now) (place c.args.q.now) (place_positive c.args.p.now) (place_positive c.args.q.now) i j differ))
