use Rattle.std.proofs.Common.{rules, of_calls, ◌≡◌, Bool, true, false, List, subst, ◌∙◌}
use Rattle.std.specs.List.Sorted.{IsPartitionedBy, IsPartitionPoint}
use Rattle.std.proofs.lemmas.Fn.{always_returns_same}
use Rattle.exact_point.specs.Place.{place}
use Rattle.sweep_line.specs.Status.{is_passed}
use Rattle.sweep_line.specs.declared.status.StatusEntry.{StatusEntry}
use Rattle.sweep_line.proofs.status.Status.place_of.Goals as goal

pub returns-clause-partitioned : goal.returns-clause-partitioned
returns-clause-partitioned c =
    let test : StatusEntry → Bool = is_passed (place c.args.at.now) c.args.support.now in
    subst (λ (es : List StatusEntry). IsPartitionedBy test es → IsPartitionPoint (λ e. test e ≡ true) (λ e. test e ≡ false) es c.partition_point.result) (c.deref.ensures.value ∙ c.self.view_is)
    (c.partition_point.ensures.partitioned test (always_returns_same _ _ _ (λ a r f k. search (rules, of_calls))))
