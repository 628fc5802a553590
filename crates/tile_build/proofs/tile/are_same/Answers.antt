use Rattle.std.proofs.Common.{◌<◌, length, map, sym, subst, take_all, arith}
use Rattle.std.specs.Prelude.{All}
use Rattle.std.proofs.lemmas.List.Elements.{All-map, All-more}
use Rattle.std.proofs.lemmas.List.{length-map}
use Rattle.exact_point.specs.NamedPiece.{NamedPiece, ends_of}
use Rattle.tile_laws.specs.SameTile.{same_pair, IsPositivePair}
use Rattle.tile_build.proofs.SameLemmas.{pointwise_more, not_alike, mapped_at}
use Rattle.tile_build.proofs.tile.are_same.Goals as goal

pub returns-then-not-is_same-clause-value : goal.returns-then-not-is_same-clause-value
returns-then-not-is_same-clause-value c =
    let held = c.args.held.now in
    let built = c.args.built.now in
    not_alike same_pair (map ends_of held) (map ends_of built) c.loop-i.i (ends_of c.index-held-i.result) (ends_of c.index-built-i.result)
    (omega (arith, length-map held ends_of))
    (mapped_at ends_of held c.loop-i.i c.index-held-i.result c.index-held-i.is) (mapped_at ends_of built c.loop-i.i c.index-built-i.result c.index-built-i.is)
    (sym c.if-not-is_same.ensures.value)

pub loop-i-preserved : goal.loop-i-preserved
loop-i-preserved c =
    let held = c.args.held.now in
    let built = c.args.built.now in
    let i = c.loop-i.i in
    let within : i < length (map ends_of held) = omega (arith, length-map held ends_of) in
    let there : i < length (map ends_of built) = omega (arith, length-map built ends_of, c.loop-i.invariant.as_long) in
    record {
      as_long = c.loop-i.invariant.as_long;
      same =
          pointwise_more same_pair (map ends_of held) (map ends_of built) i (ends_of c.index-held-i.result) (ends_of c.index-built-i.result)
          within there
          (mapped_at ends_of held i c.index-held-i.result c.index-held-i.is) (mapped_at ends_of built i c.index-built-i.result c.index-built-i.is)
          c.loop-i.invariant.same (sym c.if-not-is_same.ensures.value);
      positive =
          All-more (λ p. IsPositivePair (ends_of p)) held i c.index-held-i.result (omega arith) c.loop-i.invariant.positive
          (subst (λ (p : NamedPiece). IsPositivePair (ends_of p)) c.index-held-i.is c.if-not-is_same.ensures.positive);
    }

pub returns-clause-positive : goal.returns-clause-positive
returns-clause-positive c = λ same.
    All-map IsPositivePair ends_of c.args.held.now
    (subst (All (λ p. IsPositivePair (ends_of p))) (take_all c.loop-i.i c.args.held.now (omega arith)) c.loop-i.invariant.positive)
