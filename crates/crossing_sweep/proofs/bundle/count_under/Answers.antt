use Rattle.std.proofs.Common.{rules, of_calls, ℕ, pos, ◌<ℤ◌, ◌≤ℤ◌, List}
use Rattle.std.specs.List.{slice_range}
use Rattle.std.proofs.lemmas.Fn.{always_returns_same}
use Rattle.overlay_terms.specs.Plane.{Point, height_over}
use Rattle.exact_point.specs.Place.{place}
use Rattle.crossing_sweep.specs.declared.member.Member.{Member}
use Rattle.crossing_sweep.proofs.SplitLemmas.{is_under, under_falls, all_under, none_under, range_falls, joined_first, joined_last}
use Rattle.crossing_sweep.proofs.bundle.count_under.Goals as goal

pub returns-clause-under : goal.returns-clause-under
returns-clause-under c = λ falls.
    let r : Point = place c.args.at.now in
    let ms : List Member = c.args.status.now in
    let low : ℕ = c.narrowed-low.result.0 in
    let high : ℕ = c.narrowed-low.result.1 in
    let within = range_falls r ms low high falls in
    joined_first r ms low high c.partition_point.result c.narrowed-low.ensures.in_order c.narrowed-low.ensures.few c.partition_point.ensures.bound (λ m. pos 0 <ℤ height_over m.unit.seg r) (c.narrowed-low.ensures.under falls)
    (all_under r (slice_range ms low high) c.partition_point.result c.partition_point.ensures.bound within
    (c.partition_point.ensures.partitioned (is_under r) (always_returns_same _ _ _ (λ a r f k. search (rules, of_calls))) (under_falls r (slice_range ms low high) within)))

pub returns-clause-not_under : goal.returns-clause-not_under
returns-clause-not_under c = λ falls.
    let r : Point = place c.args.at.now in
    let ms : List Member = c.args.status.now in
    let low : ℕ = c.narrowed-low.result.0 in
    let high : ℕ = c.narrowed-low.result.1 in
    let within = range_falls r ms low high falls in
    joined_last r ms low high c.partition_point.result c.narrowed-low.ensures.in_order c.narrowed-low.ensures.few c.partition_point.ensures.bound (λ m. height_over m.unit.seg r ≤ℤ pos 0)
    (none_under r (slice_range ms low high) c.partition_point.result c.partition_point.ensures.bound within
    (c.partition_point.ensures.partitioned (is_under r) (always_returns_same _ _ _ (λ a r f k. search (rules, of_calls))) (under_falls r (slice_range ms low high) within)))
    (c.narrowed-low.ensures.not_under falls)
