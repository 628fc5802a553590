use Rattle.std.proofs.Common.{rules, pos, ◌<ℤ◌, ◌≡◌, All, take, ◌+◌, ◌-◌, subst, arith}
use Rattle.std.proofs.lemmas.List.{length-take-le}
use Rattle.overlay_terms.specs.Plane.{Point, height_over}
use Rattle.exact_point.specs.Place.{place}
use Rattle.crossing_sweep.specs.declared.member.Member.{Member}
use Rattle.crossing_sweep.proofs.SplitLemmas.{under_up_to, not_under_from}
use Rattle.crossing_sweep.proofs.bundle.narrowed.Goals as goal
use Rattle.crossing_sweep.proofs.bundle.narrowed.Goals.{else-hint-gt0-via-then-hint-gt0+else-not-is_under, else-hint-gt0-via-else-hint-gt0}

pub returns-then-not-is_under-clause-not_under : goal.returns-then-not-is_under-clause-not_under
returns-then-not-is_under-clause-not_under c = λ falls.
    not_under_from (place c.args.at.now) c.args.status.now falls (c.args.hint - 1) c.index-status-hint.result (omega (arith, c.requires, c.if-hint-gt0.true)) c.index-status-hint.is (search rules)

pub narrowed_from-requires-clause-under : goal.narrowed_from-requires-clause-under
narrowed_from-requires-clause-under c = λ falls. elim c.else-hint-gt0.branch [
  | else-hint-gt0-via-then-hint-gt0+else-not-is_under w ↦
      let r : Point = place c.args.at.now in
      let whole : c.args.hint - 1 + 1 ≡ c.args.hint = omega (arith, w.if-hint-gt0.true) in
      subst (λ k. All (λ (m : Member). pos 0 <ℤ height_over m.unit.seg r) (take k c.args.status.now)) whole
      (under_up_to r c.args.status.now falls (c.args.hint - 1) w.index-status-hint.result (omega (arith, c.requires, w.if-hint-gt0.true)) w.index-status-hint.is (search rules))
  | else-hint-gt0-via-else-hint-gt0 w ↦ λ i d l. absurd (omega (arith, l, w.if-hint-gt0.false, length-take-le c.args.hint c.args.status.now c.requires))
]
