-- The places passed: one more at each step, and what their numbers stand for.
use Rattle.std.proofs.Common.{◌≡◌, ℕ, pos, ◌+◌, ◌<◌, ◌*ℤ◌, ◌<ℤ◌, ◌≤ℤ◌, List, [], ◌∷◌, ◌++◌, length, get_or, ap, ◌∙◌, arith}
use Rattle.std.specs.Prelude.{IsTrue, All}
use Rattle.std.proofs.lemmas.List.{get_or_append_left, get_or-append-add}
use Rattle.std.proofs.lemmas.List.Elements.{All-nil, All-cons, All-push, Contains-push}
use Rattle.std.proofs.Math.ListN.{length-append}
use Rattle.std.specs.declared.cmp.Ordering.TheVariants.{Less}
use Rattle.overlay_terms.specs.Plane.{Point, Segment, point_cmp, same_place}
use Rattle.overlay_terms.specs.Column.{border}
use Rattle.overlay_terms.specs.Tiles.{is_node}
use Rattle.overlay_terms.proofs.Lists.{any_from, any_left}
use Rattle.exact_point.proofs.PlaceOrder.{Way, before, at, after, way_of, less_through, alike_left, not_before_self, not_after_less}
use Rattle.crossing_sweep.specs.StripInput.{Span}
use Rattle.crossing_sweep.specs.Leaning.{IsSmall}
use Rattle.crossing_sweep.specs.NextNode.{IsNextNode}
use Rattle.crossing_sweep.specs.Queue.{IsUpTo, IsQueued}
use Rattle.crossing_sweep.specs.Rows.{ArePassed, place_at}
use Rattle.overlay_terms.proofs.Pairs.{all_pairs_append}

-- what is not after a place is before what comes after it
pub not_after_before : (p q r : Point) → pos 0 <ℤ p.w → pos 0 <ℤ q.w → pos 0 <ℤ r.w → (point_cmp q p ≡ Less → ⊥) → point_cmp q r ≡ Less → point_cmp p r ≡ Less
not_after_before p q r hp hq hr not_after less = by (way_of p q hp hq)
  where
    by : Way p q → point_cmp p r ≡ Less
    by (before e) = less_through p q r hp hq hr e less
    by (at e) = alike_left p q r hp hq hr e ∙ less
    by (after e) = absurd (not_after e)

-- ---- numbers
module _ (passed : List Point) (r : Point) where
  long : length (passed ++ r ∷ []) ≡ length passed + 1
  long = length-append passed (r ∷ [])

  pub still_known : (number : ℕ) → number < length passed → number < length (passed ++ r ∷ [])
  still_known number l = omega (arith, long, l)

  pub still_at : (number : ℕ) → number < length passed → place_at (passed ++ r ∷ []) number ≡ place_at passed number
  still_at number l = get_or_append_left passed (r ∷ []) _ number l

  pub last_known : (number : ℕ) → number ≡ length passed → number < length (passed ++ r ∷ [])
  last_known number e = omega (arith, long, e)

  pub last_at : (number : ℕ) → number ≡ length passed → place_at (passed ++ r ∷ []) number ≡ r
  last_at number e = ap (λ i. place_at (passed ++ r ∷ []) i) (e ∙ plus_zero (length passed)) ∙ get_or-append-add passed (r ∷ []) 0 _
    where
      plus_zero : (i : ℕ) → i ≡ i + 0
      plus_zero i = omega arith

-- ---- one more place
module _ (segments : List Segment) (strip : Span) (q r : Point) (passed : List Point) (is : ArePassed segments strip q passed) (next : IsNextNode segments q r) (hq : pos 0 <ℤ q.w) (from : (border strip.first *ℤ r.w) ≤ℤ r.x) (within : IsUpTo strip r) where
  hr : pos 0 <ℤ r.w
  hr = next.small.positive

  before_r : All (λ z. point_cmp z r ≡ Less) passed
  before_r i d l = not_after_before (get_or passed i d) q r (is.small i d l).positive hq hr (is.up_to i d l) next.after

  complete : (p : Point) → pos 0 <ℤ p.w → IsTrue (is_node segments p) → (border strip.first *ℤ p.w) ≤ℤ p.x → IsUpTo strip p → (point_cmp r p ≡ Less → ⊥) → IsQueued (passed ++ r ∷ []) p
  complete p hp node from_p up_to not_after = by (way_of q p hq hp)
    where
      old : (point_cmp q p ≡ Less → ⊥) → IsQueued (passed ++ r ∷ []) p
      old h = any_left (λ z. IsTrue (same_place p z)) passed (r ∷ []) (is.complete p hp node from_p up_to h)

      new : point_cmp q p ≡ Less → Way p r → IsQueued (passed ++ r ∷ []) p
      new h (before e) = absurd (next.clear p hp node h e)
      new h (at e) = any_from (λ z. IsTrue (same_place p z)) (passed ++ r ∷ []) r (Contains-push passed r) e
      new h (after e) = absurd (not_after e)

      by : Way q p → IsQueued (passed ++ r ∷ []) p
      by (before e) = new e (way_of p r hp hr)
      by (at e) = old (not_before_self q p hq hp e)
      by (after e) = old (not_after_less p q hp hq e)

  pub one_passed : ArePassed segments strip r (passed ++ r ∷ [])
  one_passed = record {
    ordered = all_pairs_append (λ a b. point_cmp a b ≡ Less) passed (r ∷ []) is.ordered (λ i j d l m. absurd (omega (arith, l, m))) (λ i d l. All-cons (λ b. point_cmp (get_or passed i d) b ≡ Less) r [] (before_r i d l) (All-nil (λ b. point_cmp (get_or passed i d) b ≡ Less)));
    small = All-push IsSmall passed r is.small next.small;
    nodes = All-push (λ z. IsTrue (is_node segments z)) passed r is.nodes next.node;
    from = All-push (λ z. (border strip.first *ℤ z.w) ≤ℤ z.x) passed r is.from from;
    within = All-push (IsUpTo strip) passed r is.within within;
    up_to = All-push (λ z. point_cmp r z ≡ Less → ⊥) passed r (λ i d l h. not_after_less (get_or passed i d) r (is.small i d l).positive hr (before_r i d l) h) (λ h. not_after_less r r hr hr h h);
    complete = complete;
  }
