use Rattle.std.proofs.Common.{ℕ, ◌+◌, ◌*◌, refl}
use Rattle.boundary_outlines.proofs.DoubleLemmas.{near_positive}
use Rattle.boundary_outlines.proofs.doubles.positive.Goals as goal

pub returns-clause-is : goal.returns-clause-is
returns-clause-is c =
    let size : ℕ = c.args.whole * c.args.w + c.args.rest in
    near_positive size c.args.w c.widest-own.result c.rounded-kept.result _ c.widest-own.ensures.is (c.rounded-kept.ensures.near size c.widest-own.ensures.is) c.widest-own.ensures.least c.widest-own.ensures.few refl
