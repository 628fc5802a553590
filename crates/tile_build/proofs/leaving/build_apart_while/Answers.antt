use Rattle.std.proofs.Common.{◌≡◌, ℕ, ◌+◌, ◌≤◌, IfSome, ap, subst, ◌∙◌, rules, arith}
use Rattle.overlay_terms.specs.Histories.{Tile}
use Rattle.overlay_terms.specs.Tiles.{Input}
use Rattle.crossing_sweep.specs.StripInput.{part, Span}
use Rattle.tile_build.specs.StripTiles.{AreUpTo}
use Rattle.tile_build.proofs.StripLemmas.{none_up_to, more_up_to}
use Rattle.tile_build.proofs.leaving.build_apart_while.Goals as goal

pub loop-number-init : goal.loop-number-init
loop-number-init g c =
    let first : c.number-first.result ≡ c.args.input.now.strip.first = c.number-first.ensures.value ∙ c.first.ensures.value ∙ ap (λ (s : Span). s.first) c.strip-strip.ensures.value in
    let last : c.number-end.result ≡ c.args.input.now.strip.last = c.number-end.ensures.value ∙ c.last.ensures.value ∙ ap (λ (s : Span). s.last) c.strip-strip.ensures.value in
    let order : c.args.input.now.strip.first ≤ c.args.input.now.strip.last = c.strip-strip.ensures.valid.in_order in
    record {
      from = omega (arith, first);
      to = omega (arith, first, order);
      built = none_up_to c.args.input.now c.number-first.result c.new-list.result.items first c.new-list.ensures.items;
    }

pub loop-number-preserved : goal.loop-number-preserved
loop-number-preserved g c =
    let last : c.number-end.result ≡ c.args.input.now.strip.last = c.number-end.ensures.value ∙ c.last.ensures.value ∙ ap (λ (s : Span). s.last) c.strip-strip.ensures.value in
    let same : c.in-Some.column ≡ c.loop-number.number = search rules in
    let is = subst (λ o. IfSome o (λ (b : Input × Tile). b.0 ≡ part c.args.input.now c.in-Some.column)) c.in-Some-done.is c.in_ok-done.ensures.input in
    let own : c.in-Some-done.built.0 ≡ part c.args.input.now c.loop-number.number = is ∙ ap (part c.args.input.now) same in
    record {
      from = omega (arith, c.loop-number.invariant.from);
      to = omega (arith, last);
      built = more_up_to c.args.input.now c.loop-number.number c.loop-number.list.items _ c.in-Some-done.built c.loop-number.invariant.built own c.in_ok-push.ensures.items;
    }

pub build_while-requires : goal.build_while-requires
build_while-requires g c =
    let last : c.number-end.result ≡ c.args.input.now.strip.last = c.number-end.ensures.value ∙ c.last.ensures.value ∙ ap (λ (s : Span). s.last) c.strip-strip.ensures.value in
    let same : c.in-Some.column ≡ c.loop-number.number = search rules in
    (omega (arith, same, c.loop-number.invariant.from), omega (arith, same, last))

pub returns-clause-each : goal.returns-clause-each
returns-clause-each g c =
    let first : c.number-first.result ≡ c.args.input.now.strip.first = c.number-first.ensures.value ∙ c.first.ensures.value ∙ ap (λ (s : Span). s.first) c.strip-strip.ensures.value in
    let last : c.number-end.result ≡ c.args.input.now.strip.last = c.number-end.ensures.value ∙ c.last.ensures.value ∙ ap (λ (s : Span). s.last) c.strip-strip.ensures.value in
    let order : c.args.input.now.strip.first ≤ c.args.input.now.strip.last = c.strip-strip.ensures.valid.in_order in
    let end : c.loop-number.number ≡ c.args.input.now.strip.last + 1 = omega (arith, first, last, order, c.loop-number.invariant.to) in
    subst (λ (j : ℕ). AreUpTo c.args.input.now j c.loop-number.list.items) end c.loop-number.invariant.built
