use Rattle.std.proofs.Common.{◌≡◌, ℕ, ◌+◌, ◌≤◌, Bool, true, false, List, length, drop, sym, subst, arith}
use Rattle.std.specs.List.{prefix_len}
use Rattle.std.specs.List.Sorted.{IsPartitionPoint}
use Rattle.std.proofs.lemmas.List.{length-drop}
use Rattle.std.proofs.lemmas.List.Sums.{prefix_len-le-length}
use Rattle.overlay_terms.specs.Plane.{Point}
use Rattle.exact_point.specs.Place.{place}
use Rattle.crossing_sweep.specs.declared.member.Member.{Member}
use Rattle.crossing_sweep.proofs.SplitLemmas.{is_up_to, up_to_falls, prefix_parts, all_hold, all_over, rest_falls, split_parts}
use Rattle.crossing_sweep.proofs.bundle.bundle_at.Goals as goal

-- as many of the members from some number on as pass a test go no further than all of them
in_all : (p : Member → Bool) (ms : List Member) (low count : ℕ) → low ≤ length ms → count ≡ prefix_len p (drop low ms) → low + count ≤ length ms
in_all p ms low count l e = omega (arith, l, e, prefix_len-le-length p (drop low ms), length-drop low ms)

pub overflow_add-result : goal.overflow_add-result
overflow_add-result c =
    let few : c.count_under-low.result.0 + c.count_from-count.result ≤ length c.args.status.now =
    in_all (is_up_to (place c.args.at.now)) c.args.status.now c.count_under-low.result.0 c.count_from-count.result c.count_under-low.ensures.few c.count_from-count.ensures in
    omega (arith, few)

pub returns-clause-few : goal.returns-clause-few
returns-clause-few c =
    in_all (is_up_to (place c.args.at.now)) c.args.status.now c.count_under-low.result.0 c.count_from-count.result c.count_under-low.ensures.few c.count_from-count.ensures

pub returns-clause-split : goal.returns-clause-split
returns-clause-split c = λ falls.
    let r : Point = place c.args.at.now in
    let ms : List Member = c.args.status.now in
    let low : ℕ = c.count_under-low.result.0 in
    let count : ℕ = c.count_from-count.result in
    let rest : List Member = drop low ms in
    let fall = rest_falls r ms low count falls in
    let number : count ≡ prefix_len (is_up_to r) rest = c.count_from-count.ensures in
    let few : count ≤ length rest = subst (λ k. k ≤ length rest) (sym number) (prefix_len-le-length (is_up_to r) rest) in
    let at : IsPartitionPoint (λ m. is_up_to r m ≡ true) (λ m. is_up_to r m ≡ false) rest count =
    subst (λ k. IsPartitionPoint (λ m. is_up_to r m ≡ true) (λ m. is_up_to r m ≡ false) rest k) (sym number) (prefix_parts (is_up_to r) rest (up_to_falls r rest fall)) in
    split_parts r ms low count falls (c.count_under-low.ensures.under falls) (all_hold r rest count few fall at (c.count_under-low.ensures.not_under falls)) (all_over r rest count few fall at)
