use Rattle.std.proofs.Common.{◌≡◌, drop, Some, subst, sym, ◌∙◌}
use Rattle.std.specs.Prelude.{IfSome}
use Rattle.store_terms.specs.TileRecord.{point_name}
use Rattle.record_reading.proofs.NamedPieceLemmas.{part_from}
use Rattle.record_reading.proofs.pieces.push_named.Goals as goal

pub returns-in-Some-clause-ok : goal.returns-in-Some-clause-ok
returns-in-Some-clause-ok c all support =
    let bytes = c.args.bytes.now in
    let named = subst (λ n. IfSome n (λ name. point_name.read bytes ≡ Some (name, drop 33 bytes))) c.in-Some.is c.crossing_in.ensures.value in
    c.push_from.ensures.ok all bytes support (named ∙ (λ i. Some (c.in-Some.from, sym (part_from 33 bytes) i)))

pub returns-in-Some-clause-err : goal.returns-in-Some-clause-err
returns-in-Some-clause-err c all support =
    let bytes = c.args.bytes.now in
    let named = subst (λ n. IfSome n (λ name. point_name.read bytes ≡ Some (name, drop 33 bytes))) c.in-Some.is c.crossing_in.ensures.value in
    c.push_from.ensures.err all bytes support (named ∙ (λ i. Some (c.in-Some.from, sym (part_from 33 bytes) i)))

pub returns-in-Ok-clause-ok : goal.returns-in-Ok-clause-ok
returns-in-Ok-clause-ok c all support = c.push_from-in-Ok.ensures.ok all c.args.bytes.now support c.in-Ok.ensures
