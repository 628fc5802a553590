use Rattle.std.proofs.Common.{◌≡◌, ℕ, zero, suc, ◌+◌, ◌-◌, ◌<◌, ◌≤◌, Bool, true, cond, List, [], ◌∷◌, length, take, drop, get_or, ap, subst, ◌∙◌, arith}
use Rattle.std.specs.List.{prefix_len}
use Rattle.std.specs.Ordering.{is_ge}
use Rattle.std.proofs.lemmas.List.{take_all, length-drop}
use Rattle.std.proofs.lemmas.List.Sums.{prefix_len-le-length}
use Rattle.overlay_terms.specs.Plane.{Point}
use Rattle.exact_point.specs.Place.{place}
use Rattle.crossing_sweep.specs.declared.member.Member.{Member}
use Rattle.crossing_sweep.specs.Member.{IsHeldAt}
use Rattle.crossing_sweep.proofs.SplitLemmas.{is_up_to}
use Rattle.crossing_sweep.proofs.bundle.count_from.Goals as goal

-- where the first of some elements passes a test, one more passes it than after that
one_more : {X : Type 0} (p : X → Bool) (xs : List X) (k : ℕ) → k < length xs → ((d : X) → p (get_or xs k d) ≡ true) → prefix_len p (drop k xs) ≡ 1 + prefix_len p (drop (suc k) xs)
one_more p [] k l h = absurd (omega (arith, l))
one_more p (x ∷ xs) zero l h = ap (λ b. cond b (1 + prefix_len p xs) 0) (h x)
one_more p (x ∷ xs) (suc k) l h = one_more p xs k (omega (arith, l)) h

-- how many of all members after one pass
module _ (r : Point) (ms : List Member) (low count : ℕ) (held : IsHeldAt r ms low) (is : count ≡ prefix_len (is_up_to r) (take (length ms - (low + 1)) (drop (low + 1) ms))) where
  number : count ≡ prefix_len (is_up_to r) (drop (low + 1) ms)
  number = is ∙ ap (prefix_len (is_up_to r)) (take_all (length ms - (low + 1)) (drop (low + 1) ms) (omega (arith, length-drop (low + 1) ms)))

  few : count + 1 ≤ length ms
  few = omega (arith, held.there, number, prefix_len-le-length (is_up_to r) (drop (low + 1) ms), length-drop (low + 1) ms)

  whole : count + 1 ≡ prefix_len (is_up_to r) (drop low ms)
  whole = omega (arith, number, subst (λ k. prefix_len (is_up_to r) (drop low ms) ≡ 1 + prefix_len (is_up_to r) (drop k ms)) (next low) (one_more (is_up_to r) ms low held.there (λ d. ap is_ge (held.level d))))
    where
      next : (k : ℕ) → suc k ≡ k + 1
      next k = omega arith

pub overflow_add-result : goal.overflow_add-result
overflow_add-result c =
    let most : c.count_not_over.result + 1 ≤ length c.args.status.now =
    few (place c.args.at.now) c.args.status.now c.args.low c.count_not_over.result (c.requires.held c.if-held.true) c.count_not_over.ensures in
    omega (arith, most)

pub returns-then-held : goal.returns-then-held
returns-then-held c = whole (place c.args.at.now) c.args.status.now c.args.low c.count_not_over.result (c.requires.held c.if-held.true) c.count_not_over.ensures
