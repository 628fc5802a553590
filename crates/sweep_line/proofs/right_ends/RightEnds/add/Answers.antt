use Rattle.std.proofs.Common.{rules, of_calls, ◌≡◌, Bool, true, false, List, sym, subst}
use Rattle.std.specs.List.Sorted.{IsPartitionedBy, IsPartitionPoint}
use Rattle.std.proofs.lemmas.Fn.{always_returns_same}
use Rattle.exact_point.specs.Place.{place}
use Rattle.exact_point.specs.declared.point.HPoint.{HPoint}
use Rattle.sweep_line.specs.RightEnds.{AreLeftmostLast, lies_right}
use Rattle.sweep_line.proofs.EndLemmas.{right_first, one_more_end}
use Rattle.sweep_line.proofs.right_ends.RightEnds.add.Goals as goal
use Rattle.arrange.proofs.FoundLemmas.{place_positive}

pub invariant_of-self-2 : goal.invariant_of-self-2
invariant_of-self-2 c =
    let ends : List HPoint = c.self.inside.points.items in
    let test : HPoint → Bool = lies_right (place c.args.end) in
    let there : IsPartitionedBy test ends → IsPartitionPoint (λ u. test u ≡ true) (λ u. test u ≡ false) ends c.partition_point-place.result =
    subst (λ (us : List HPoint). IsPartitionedBy test us → IsPartitionPoint (λ u. test u ≡ true) (λ u. test u ≡ false) us c.partition_point-place.result) c.deref.ensures.value
    (c.partition_point-place.ensures.partitioned test (always_returns_same _ _ _ (λ a r f k. search (rules, of_calls)))) in
    subst AreLeftmostLast (sym c.in_ok-insert.ensures.items)
    (one_more_end ends c.partition_point-place.result c.args.end c.self.invariant (there (right_first (place c.args.end) ends (place_positive c.args.end) c.self.invariant)))
