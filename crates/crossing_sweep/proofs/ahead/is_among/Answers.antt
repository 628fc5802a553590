use Rattle.std.proofs.Common.{rules, ◌≡◌, to_z, of_z, ap, sym, ◌∙◌, arith}
use Rattle.std.specs.Int.{w64}
use Rattle.std.proofs.lemmas.Int.{ints, to_z-of_z}
use Rattle.crossing_sweep.specs.Rank.{is_between}
use Rattle.crossing_sweep.proofs.WholeLemmas.{between_apart}
use Rattle.crossing_sweep.proofs.TakeLemmas.{searched_among, searched_apart}
use Rattle.crossing_sweep.proofs.ahead.is_among.Goals as goal

pub returns-then-is_between-clause-apart : goal.returns-then-is_between-clause-apart
returns-then-is_between-clause-apart c = λ no.
    let rank : to_z w64 (of_z w64 c.args.place.now.rank) ≡ c.args.place.now.rank = first_of (search rules, grind (arith, ints, to_z-of_z)) in
    between_apart c.args.place.now c.args.known.now (ap is_between (sym rank) ∙ sym c.is_between.ensures ∙ c.if-is_between.true) c.requires.whole

pub returns-clause-among : goal.returns-clause-among
returns-clause-among c = λ yes. searched_among c.args.place.now c.args.known.now c.binary_search.result c.binary_search.ensures.bound c.binary_search.ensures.position (sym c.is_ok.ensures.value ∙ yes)

pub returns-clause-apart : goal.returns-clause-apart
returns-clause-apart c = λ no. searched_apart c.args.place.now c.args.known.now c.binary_search.result c.requires.in_order c.binary_search.ensures.position (sym c.is_ok.ensures.value ∙ no)
