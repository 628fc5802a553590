use Rattle.std.proofs.Common.{rules, ◌≡◌, arith, to_z, of_z}
use Rattle.std.specs.Int.{w64}
use Rattle.std.proofs.lemmas.Int.{ints}
use Rattle.std.proofs.lemmas.Bool.{both_ways}
use Rattle.exact_point.specs.Crossing.{turn_of, lead_of}
use Rattle.exact_point.specs.Place.{place}
use Rattle.exact_point.proofs.CrossingLemmas.{not_along_first, not_along_second, crossing_found, only_crossing}
use Rattle.exact_point.proofs.crossing.meeting.Goals as goal

pub returns-then-not-is_part-clause-none : goal.returns-then-not-is_part-clause-none
returns-then-not-is_part-clause-none c =
    let t : to_z w64 (of_z w64 c.lead-along_first.result) ≡ lead_of c.args.a.now c.args.b.now c.args.b.now = search (rules, c.lead-along_first.ensures.value) in
    let w : to_z w64 (of_z w64 c.args.left) ≡ turn_of c.args.a.now c.args.b.now = search (rules, c.requires.value) in
    λ _. not_along_first _ _ _ _ t w (omega (arith, ints)) c.lead-along_first.ensures.from_ahead (λ h. both_ways _ c.if-not-is_part.true (c.is_part.ensures.1 h))

pub returns-then-not-is_part-2-clause-none : goal.returns-then-not-is_part-2-clause-none
returns-then-not-is_part-2-clause-none c =
    let t : to_z w64 (of_z w64 c.lead-along_second.result) ≡ lead_of c.args.a.now c.args.b.now c.args.a.now = search (rules, c.lead-along_second.ensures.value) in
    let w : to_z w64 (of_z w64 c.args.left) ≡ turn_of c.args.a.now c.args.b.now = search (rules, c.requires.value) in
    λ _. not_along_second _ _ _ _ t w (omega (arith, ints)) c.lead-along_second.ensures.to_ahead (λ h. both_ways _ c.if-not-is_part-2.true (c.is_part-2.ensures.1 h))

pub returns-clause-meets : goal.returns-clause-meets
returns-clause-meets c =
    let t : to_z w64 (of_z w64 c.lead-along_first.result) ≡ lead_of c.args.a.now c.args.b.now c.args.b.now = search (rules, c.lead-along_first.ensures.value) in
    let u : to_z w64 (of_z w64 c.lead-along_second.result) ≡ lead_of c.args.a.now c.args.b.now c.args.a.now = search (rules, c.lead-along_second.ensures.value) in
    let w : to_z w64 (of_z w64 c.args.left) ≡ turn_of c.args.a.now c.args.b.now = search (rules, c.requires.value) in
    crossing_found _ _ _ _ _ (place c.part_way.result) t u w (omega (arith, ints)) c.lead-along_first.ensures.from_ahead c.lead-along_first.ensures.to_ahead
    (c.is_part.ensures.0 c.if-not-is_part.false) (c.is_part-2.ensures.0 c.if-not-is_part-2.false) c.part_way.ensures

pub returns-clause-only : goal.returns-clause-only
returns-clause-only c =
    let t : to_z w64 (of_z w64 c.lead-along_first.result) ≡ lead_of c.args.a.now c.args.b.now c.args.b.now = search (rules, c.lead-along_first.ensures.value) in
    let w : to_z w64 (of_z w64 c.args.left) ≡ turn_of c.args.a.now c.args.b.now = search (rules, c.requires.value) in
    only_crossing _ _ _ _ (place c.part_way.result) t w c.part_way.ensures

-- found by search alone; written here so that a wrong body is refused without working out what to write
pub part_way-requires-clause-t_low : goal.part_way-requires-clause-t_low
part_way-requires-clause-t_low c = search rules

pub part_way-requires-clause-t_high : goal.part_way-requires-clause-t_high
part_way-requires-clause-t_high c = search rules

pub returns-clause-value : goal.returns-clause-value
returns-clause-value c = search rules
