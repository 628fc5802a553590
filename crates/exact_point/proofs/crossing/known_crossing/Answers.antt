use Rattle.std.proofs.Common.{◌≡◌, ℤ, pos, ◌-ℤ◌, ◌<ℤ◌, ◌≤ℤ◌, arith, subst, sym, ◌∙◌, lit<, to_z, of_z}
use Rattle.std.specs.Int.{w64}
use Rattle.std.proofs.lemmas.Int.{ints}
use Rattle.exact_point.proofs.NarrowBounds.{narrow_read}
use Rattle.exact_point.specs.Crossing.{turn_of}
use Rattle.exact_point.proofs.CrossingLemmas.{crossing_turned, known_turn, on_second, turn_other}
use Rattle.exact_point.proofs.crossing.known_crossing.Goals as goal

pub known_meeting-requires-clause-meets : goal.known_meeting-requires-clause-meets
known_meeting-requires-clause-meets c = let at = c.requires in (at.0, at.1, crossing_turned _ _ at.0 at.2)

pub known_meeting-requires-clause-positive : goal.known_meeting-requires-clause-positive
known_meeting-requires-clause-positive c =
    let small = c.turn-left.ensures.small in
    let less : to_z w64 (of_z w64 c.turn-left.result) <ℤ pos 0 = grind (arith, ints) in
    omega (arith, ints, less, small.low, small.high)

pub known_meeting-requires-clause-value : goal.known_meeting-requires-clause-value
known_meeting-requires-clause-value c =
    let small = c.turn-left.ensures.small in
    omega (arith, ints, small.low, small.high, c.turn-left.ensures.value, turn_other c.args.a.now c.args.b.now)

pub returns-then-left-lt0-clause-value : goal.returns-then-left-lt0-clause-value
returns-then-left-lt0-clause-value c =
    let small = c.turn-left.ensures.small in
    let value : to_z w64 (of_z w64 c.turn-left.result) ≡ turn_of c.args.a.now c.args.b.now = narrow_read _ _ small (lit< tt) ∙ c.turn-left.ensures.value in
    let less : to_z w64 (of_z w64 c.turn-left.result) <ℤ pos 0 = grind (arith, ints) in
    let other : pos 0 -ℤ c.turn-left.result ≡ turn_of c.args.b.now c.args.a.now = omega (arith, ints, c.turn-left.ensures.value, turn_other c.args.a.now c.args.b.now) in
    c.known_meeting.ensures.value ∙ on_second c.args.a.now c.args.b.now _ (omega (arith, ints, small.low, small.high, other)) (subst (λ (t : ℤ). t <ℤ pos 0) value less)

pub known_meeting-requires-2-clause-positive : goal.known_meeting-requires-2-clause-positive
known_meeting-requires-2-clause-positive c =
    let at = c.requires in
    let value : to_z w64 (of_z w64 c.turn-left.result) ≡ turn_of c.args.a.now c.args.b.now = narrow_read _ _ c.turn-left.ensures.small (lit< tt) ∙ c.turn-left.ensures.value in
    let more : pos 0 ≤ℤ to_z w64 (of_z w64 c.turn-left.result) = grind (arith, ints) in
    subst (λ (t : ℤ). pos 0 <ℤ t) (sym value) (known_turn _ _ at.0 at.1 at.2 (subst (λ (t : ℤ). pos 0 ≤ℤ t) value more))
