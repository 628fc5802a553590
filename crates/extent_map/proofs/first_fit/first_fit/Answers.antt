use Rattle.std.proofs.Common.{⊎_elim, ◌+◌, ◌≤◌, arith, rules}
use Rattle.std.proofs.lemmas.Bool.{cases_lt}
use Rattle.extent_map.proofs.Gaps.{gap_free}
use Rattle.extent_map.proofs.first_fit.first_fit.Goals as goal

pub returns-then-ends_by-clause-fit : goal.returns-then-ends_by-clause-fit
returns-then-ends_by-clause-fit c =
    let found = c.lowest-place.ensures in
    let below : c.lowest-place.result.1 + c.args.need ≤ c.args.limit = search rules in
    record {
      behind = found.behind;
      below = below;
      free = gap_free c.args.taken.now c.lowest-place.result.0 c.lowest-place.result.1 c.args.need found.gap;
      lowest = found.lowest;
    }

pub returns-clause-none : goal.returns-clause-none
returns-clause-none c s two below free =
    let start = c.lowest-place.result.1 in
    let past : start + c.args.need ≤ c.args.limit → ⊥ = search rules in
    ⊎_elim
    (λ low. c.lowest-place.ensures.lowest s two low free)
    (λ from. past (omega (arith, from, below)))
    (cases_lt s start)
