use Rattle.std.proofs.Common.{rules, ◌≡◌, ℤ, pos, ◌<ℤ◌, ◌≤ℤ◌, Bool, true, false, ap, sym, ◌∙◌, arith}
use Rattle.std.proofs.lemmas.Int.{ints}
use Rattle.std.specs.Ordering.{is_gt, int_cmp}
use Rattle.overlay_terms.proofs.PointOrder.{same_points}
use Rattle.exact_point.specs.Crossing.{turn_of}
use Rattle.exact_point.specs.declared.point.HPoint.{HPoint}
use Rattle.crossing_sweep.specs.StripInput.{Span, is_in_closed_strip}
use Rattle.exact_point.specs.Place.{place}
use Rattle.crossing_sweep.proofs.TestLemmas.{one_end, parts, elsewhere, ahead}
use Rattle.crossing_sweep.proofs.search.test_pair.Goals as goal

-- what was tested is the point that was found
tested : (strip : Span) (p found : HPoint) (r : Bool) → r ≡ is_in_closed_strip strip (place p) → p ≡ found → is_in_closed_strip strip (place found) ≡ r
tested strip p found r e same = ap (λ (z : HPoint). is_in_closed_strip strip (place z)) (sym same) ∙ sym e

-- the test of a turn
down : (t : ℤ) → is_gt (int_cmp (pos 0) t) ≡ true → t <ℤ pos 0
down t h = grind (arith, ints, h)

not_down : (t : ℤ) → is_gt (int_cmp (pos 0) t) ≡ false → pos 0 ≤ℤ t
not_down t h = grind (arith, ints, h)

pub returns-then-eq : goal.returns-then-eq
returns-then-eq c = λ r.
    let same = sym c.right.ensures.value ∙ same_points c.right.result c.right-2.result (sym c.eq.ensures ∙ c.if-eq.true) ∙ c.right-2.ensures.value in
    one_end c.args.strip r c.args.lower.now c.args.upper.now c.args.ahead.now same

pub returns-then-not-is_gt : goal.returns-then-not-is_gt
returns-then-not-is_gt c = λ r.
    let turn = turn_of c.args.lower.now c.args.upper.now in
    parts c.args.strip r c.args.lower.now c.args.upper.now c.args.ahead.now (not_down turn (ap is_gt (sym c.direction_cmp.ensures) ∙ search rules))

pub returns-in_ok-add : goal.returns-in_ok-add
returns-in_ok-add c = λ r.
    let turn = turn_of c.args.lower.now c.args.upper.now in
    ahead c.args.strip r c.args.lower.now c.args.upper.now c.args.ahead.now c.in-Some.crossing c.in-Some.ensures.meets c.in-Some.ensures.only (down turn (ap is_gt (sym c.direction_cmp.ensures) ∙ search rules))
    (tested c.args.strip _ c.in-Some.crossing _ c.holds_closed.ensures c.point.ensures ∙ c.if-holds_closed.true) c.in-Some.ensures.value c.add.new.self c.in_ok-add.ensures

pub returns-else-holds_closed : goal.returns-else-holds_closed
returns-else-holds_closed c = λ r.
    elsewhere c.args.strip r c.args.lower.now c.args.upper.now c.args.ahead.now c.in-Some.crossing c.in-Some.ensures.meets c.in-Some.ensures.only
    (tested c.args.strip _ c.in-Some.crossing _ c.holds_closed.ensures c.point.ensures ∙ c.if-holds_closed.false)
