use Rattle.std.proofs.Common.{◌≡◌, ◌*◌, ◌^◌, ap, arith}
use Rattle.std.proofs.Math.Nat.{mod-lt}
use Rattle.boundary_outlines.proofs.DoubleLemmas.{product_fits, scaled_more, fits_whole}
use Rattle.boundary_outlines.proofs.doubles.doubled.Goals as goal

pub overflow_mul-wide : goal.overflow_mul-wide
overflow_mul-wide c =
    let fits = product_fits c.args.own.now.rest c.args.w c.args.by c.args.doublings c.requires.is c.requires.few c.requires.wide c.requires.proper in omega (arith, fits)

pub overflow_add-whole : goal.overflow_add-whole
overflow_add-whole c =
    let fits = fits_whole c.args.w c.args.by c.args.doublings c.args.own.now.whole c.args.own.now.rest c.requires.is c.requires.few c.requires.proper c.requires.short in omega (arith, fits)

pub returns-clause-still : goal.returns-clause-still
returns-clause-still c = λ size h. scaled_more size c.args.w c.args.by c.args.doublings c.args.own.now c.requires.is c.requires.few c.requires.short h

pub returns-clause-more : goal.returns-clause-more
returns-clause-more c =
    let same : c.args.own.now.whole * c.args.by ≡ c.args.own.now.whole * 2 ^ c.args.doublings = ap (λ n. c.args.own.now.whole * n) c.requires.is in omega (arith, same)

pub returns-clause-proper : goal.returns-clause-proper
returns-clause-proper c = let p = c.requires.proper in mod-lt (c.args.own.now.rest * c.args.by) (omega (arith, p))

pub returns-clause-short : goal.returns-clause-short
returns-clause-short c =
    fits_whole c.args.w c.args.by c.args.doublings c.args.own.now.whole c.args.own.now.rest c.requires.is c.requires.few c.requires.proper c.requires.short
