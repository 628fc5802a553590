use Rattle.std.proofs.Common.{rules, ◌≡◌, ℤ, pos, ◌<ℤ◌, arith, subst, sym, ◌∙◌, lit<, Option, Some, None, to_z, of_z}
use Rattle.std.specs.Int.{w64}
use Rattle.std.specs.Option.{IfSome}
use Rattle.std.specs.declared.cmp.Ordering.TheVariants.{Less, Equal, Greater}
use Rattle.std.proofs.lemmas.Cmp.{int_ranked}
use Rattle.std.proofs.lemmas.Int.{ints}
use Rattle.overlay_terms.specs.Plane.{Point, Segment}
use Rattle.exact_point.proofs.NarrowBounds.{narrow_read}
use Rattle.exact_point.specs.Crossing.{IsCrossingOf, IsOnlyCrossingOf, turn_of}
use Rattle.exact_point.specs.Place.{place}
use Rattle.exact_point.specs.declared.point.HPoint.{HPoint}
use Rattle.exact_point.proofs.CrossingLemmas.{crossing_turned, no_turn, on_first, on_second, turn_back}
use Rattle.exact_point.proofs.crossing.cross_of.Goals as goal

met : (a b : Segment) (r : Option HPoint) → IfSome r (λ z. IsCrossingOf b a (place z)) → IfSome r (λ z. IsCrossingOf a b (place z))
met a b None h = tt
met a b (Some z) h = crossing_turned b a (place z) h

alone : (a b : Segment) (r : Option HPoint) → IfSome r (λ z. IsOnlyCrossingOf b a (place z)) → IfSome r (λ z. IsOnlyCrossingOf a b (place z))
alone a b None h = tt
alone a b (Some z) h = λ p w k. h p w (crossing_turned a b p k)

placed : (o : Option HPoint) (p q : Point) → p ≡ q → IfSome o (λ z. place z ≡ p) → IfSome o (λ z. place z ≡ q)
placed None p q e h = tt
placed (Some z) p q e h = h ∙ e

pub meeting-requires-clause-positive : goal.meeting-requires-clause-positive
meeting-requires-clause-positive c =
    int_ranked (to_z w64 (of_z w64 c.turn-left.result)) (pos 0) Greater (sym c.in-Greater.is ∙ c.cmp.ensures)

pub returns-in-Greater-clause-value : goal.returns-in-Greater-clause-value
returns-in-Greater-clause-value c =
    let value : to_z w64 (of_z w64 c.turn-left.result) ≡ turn_of c.args.a.now c.args.b.now = narrow_read _ _ c.turn-left.ensures.small (lit< tt) ∙ c.turn-left.ensures.value in
    let greater = int_ranked (to_z w64 (of_z w64 c.turn-left.result)) (pos 0) Greater (sym c.in-Greater.is ∙ c.cmp.ensures) in
    placed _ _ _ (on_first c.args.a.now c.args.b.now _ value greater) c.meeting.ensures.value

pub meeting-requires-in-Less-clause-positive : goal.meeting-requires-in-Less-clause-positive
meeting-requires-in-Less-clause-positive c =
    let value : to_z w64 (of_z w64 c.turn-left.result) ≡ turn_of c.args.a.now c.args.b.now = narrow_read _ _ c.turn-left.ensures.small (lit< tt) ∙ c.turn-left.ensures.value in
    let other : to_z w64 (of_z w64 c.turn.result) ≡ turn_of c.args.b.now c.args.a.now = narrow_read _ _ c.turn.ensures.small (lit< tt) ∙ c.turn.ensures.value in
    let less = int_ranked (to_z w64 (of_z w64 c.turn-left.result)) (pos 0) Less (sym c.in-Less.is ∙ c.cmp.ensures) in
    subst (λ (t : ℤ). pos 0 <ℤ t) (sym other) (turn_back c.args.a.now c.args.b.now (subst (λ (t : ℤ). t <ℤ pos 0) value less))

pub meeting-requires-in-Less-clause-value : goal.meeting-requires-in-Less-clause-value
meeting-requires-in-Less-clause-value c = narrow_read _ _ c.turn.ensures.small (lit< tt) ∙ c.turn.ensures.value

pub returns-in-Less-clause-value : goal.returns-in-Less-clause-value
returns-in-Less-clause-value c =
    let value : to_z w64 (of_z w64 c.turn-left.result) ≡ turn_of c.args.a.now c.args.b.now = narrow_read _ _ c.turn-left.ensures.small (lit< tt) ∙ c.turn-left.ensures.value in
    let other : to_z w64 (of_z w64 c.turn.result) ≡ turn_of c.args.b.now c.args.a.now = narrow_read _ _ c.turn.ensures.small (lit< tt) ∙ c.turn.ensures.value in
    let less = int_ranked (to_z w64 (of_z w64 c.turn-left.result)) (pos 0) Less (sym c.in-Less.is ∙ c.cmp.ensures) in
    placed _ _ _ (on_second c.args.a.now c.args.b.now _ other (subst (λ (t : ℤ). t <ℤ pos 0) value less)) c.meeting-in-Less.ensures.value

pub returns-in-Less-clause-meets : goal.returns-in-Less-clause-meets
returns-in-Less-clause-meets c = met _ _ _ c.meeting-in-Less.ensures.meets

pub returns-in-Less-clause-only : goal.returns-in-Less-clause-only
returns-in-Less-clause-only c = alone _ _ _ c.meeting-in-Less.ensures.only

pub returns-in-Less-clause-none : goal.returns-in-Less-clause-none
returns-in-Less-clause-none c = λ n p w h. c.meeting-in-Less.ensures.none n p w (crossing_turned _ _ p h)

pub returns-in-Equal-clause-none : goal.returns-in-Equal-clause-none
returns-in-Equal-clause-none c =
    let value : to_z w64 (of_z w64 c.turn-left.result) ≡ turn_of c.args.a.now c.args.b.now = search (rules, c.turn-left.ensures.value) in
    let level = int_ranked (to_z w64 (of_z w64 c.turn-left.result)) (pos 0) Equal (sym c.in-Equal.is ∙ c.cmp.ensures) in
    λ _. no_turn _ _ (omega (arith, ints, value, level))

-- found by search alone; written here so that a wrong body is refused without working out what to write
pub returns-in-Equal-clause-meets : goal.returns-in-Equal-clause-meets
returns-in-Equal-clause-meets c = search rules

pub returns-in-Equal-clause-only : goal.returns-in-Equal-clause-only
returns-in-Equal-clause-only c = search rules

pub returns-in-Equal-clause-value : goal.returns-in-Equal-clause-value
returns-in-Equal-clause-value c = search rules
