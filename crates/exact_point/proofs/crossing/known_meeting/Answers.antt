use Rattle.std.proofs.Common.{rules, ◌≡◌, arith, to_z, of_z}
use Rattle.std.specs.Int.{w64}
use Rattle.std.proofs.lemmas.Int.{ints}
use Rattle.exact_point.specs.Crossing.{turn_of, lead_of}
use Rattle.exact_point.specs.Place.{place}
use Rattle.exact_point.proofs.CrossingLemmas.{known_part, known_found, way_at}
use Rattle.exact_point.proofs.crossing.known_meeting.Goals as goal

pub part_way-requires-clause-t_low : goal.part_way-requires-clause-t_low
part_way-requires-clause-t_low c =
    let t : to_z w64 (of_z w64 c.lead.result) ≡ lead_of c.args.a.now c.args.b.now c.args.b.now = search (rules, c.lead.ensures.value) in
    let w : to_z w64 (of_z w64 c.args.left) ≡ turn_of c.args.a.now c.args.b.now = search (rules, c.requires.value) in
    let at = c.requires.meets in
    (known_part _ _ _ _ at.0 t w (omega (arith, ints, c.requires.positive)) c.lead.ensures.from_ahead at.1 at.2).0

pub part_way-requires-clause-t_high : goal.part_way-requires-clause-t_high
part_way-requires-clause-t_high c =
    let t : to_z w64 (of_z w64 c.lead.result) ≡ lead_of c.args.a.now c.args.b.now c.args.b.now = search (rules, c.lead.ensures.value) in
    let w : to_z w64 (of_z w64 c.args.left) ≡ turn_of c.args.a.now c.args.b.now = search (rules, c.requires.value) in
    let at = c.requires.meets in
    (known_part _ _ _ _ at.0 t w (omega (arith, ints, c.requires.positive)) c.lead.ensures.from_ahead at.1 at.2).1

pub returns-clause-meets : goal.returns-clause-meets
returns-clause-meets c =
    let t : to_z w64 (of_z w64 c.lead.result) ≡ lead_of c.args.a.now c.args.b.now c.args.b.now = search (rules, c.lead.ensures.value) in
    let w : to_z w64 (of_z w64 c.args.left) ≡ turn_of c.args.a.now c.args.b.now = search (rules, c.requires.value) in
    let at = c.requires.meets in
    known_found _ _ _ _ at.0 (place c.part_way.result) t w (omega (arith, ints, c.requires.positive)) c.lead.ensures.from_ahead c.lead.ensures.to_ahead at.1 at.2 c.part_way.ensures

pub returns-clause-value : goal.returns-clause-value
returns-clause-value c =
    let t : to_z w64 (of_z w64 c.lead.result) ≡ lead_of c.args.a.now c.args.b.now c.args.b.now = search (rules, c.lead.ensures.value) in
    let w : to_z w64 (of_z w64 c.args.left) ≡ c.args.left = omega (arith, ints, c.requires.small.low, c.requires.small.high) in
    way_at _ _ _ _ _ (place c.part_way.result) t w c.part_way.ensures
