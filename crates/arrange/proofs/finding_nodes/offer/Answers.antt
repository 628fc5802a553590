use Rattle.std.proofs.Common.{arith, sym, ◌∙◌, ◌&&◌, ◌≡◌, true, false, pos, ◌<ℤ◌, ◌++◌, [], ◌∷◌, refl}
use Rattle.std.proofs.lemmas.Int.{ints}
use Rattle.std.proofs.lemmas.Bool.{and_parts}
use Rattle.std.proofs.lemmas.List.Elements.{Contains-push}
use Rattle.overlay_terms.specs.Plane.{is_on}
use Rattle.exact_point.specs.Place.{place}
use Rattle.exact_point.specs.declared.point.HPoint.{HPoint}
use Rattle.arrange.specs.Arrangement.{is_in_closed_column}
use Rattle.arrange.specs.NamedPlaces.{IsFound}
use Rattle.arrange.proofs.FoundLemmas.{found_more, found_skipped, found_elsewhere, has_place}
use Rattle.arrange.proofs.finding_nodes.offer.Goals as goal

low : (z : HPoint) → pos 0 <ℤ z.w
low z = omega (arith, ints)

pub returns-in_ok-push : goal.returns-in_ok-push
returns-in_ok-push c = λ names h.
    let tests = and_parts c.on-is_on.result c.is_within-is_within.result c.if-is_on-is_within.true in
    let new : IsFound c.args.column c.args.seg.now (names ++ c.args.name ∷ []) (record { name = c.args.name; at = c.in-Some.at }) = record {
      named = c.in-Some.ensures.known.0 refl;
      told = c.in-Some.ensures.value;
      stands = c.in-Some.ensures.place;
      on_segment = sym c.on-is_on.ensures ∙ tests.0;
      in_column = sym c.is_within-is_within.ensures ∙ tests.1;
      offered = Contains-push names c.args.name;
    } in
    rw c.in_ok-push.ensures.ok (found_more c.args.column c.args.seg.now names c.args.name c.args.found.now.items h (record { name = c.args.name; at = c.in-Some.at }) new c.in-Some.ensures.only)

pub returns-else-is_on-is_within : goal.returns-else-is_on-is_within
returns-else-is_on-is_within c = λ names h.
    let out : (is_on c.args.seg.now (place c.in-Some.at) && is_in_closed_column c.args.column (place c.in-Some.at)) ≡ false =
    rw (← c.on-is_on.ensures, ← c.is_within-is_within.ensures) c.if-is_on-is_within.false in
    found_elsewhere c.args.column c.args.seg.now names c.args.name c.args.found.now.items h (place c.in-Some.at) (low c.in-Some.at) c.in-Some.ensures.only out

pub returns-in_default : goal.returns-in_default
returns-in_default c = λ names h.
    found_skipped c.args.column c.args.seg.now names c.args.name c.args.found.now.items h
    (λ p w st on col. absurd (differ (c.in_default.ensures.known.1 (has_place c.args.name p w st))))
  where
    differ : false ≡ true → ⊥
    differ e = cc
