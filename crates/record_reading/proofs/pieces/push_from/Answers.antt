use Rattle.std.proofs.Common.{◌≡◌, ◌-◌, length, take, drop, Some, subst, sym, ◌∙◌}
use Rattle.std.specs.Prelude.{IfSome}
use Rattle.store_terms.specs.TileRecord.{point_name}
use Rattle.record_reading.proofs.NamedPieceLemmas.{part_from}
use Rattle.record_reading.proofs.pieces.push_from.Goals as goal

pub returns-in-Ok-clause-ok : goal.returns-in-Ok-clause-ok
returns-in-Ok-clause-ok c all behind support from =
    let bytes = c.args.bytes.now in
    let named = subst (λ n. IfSome n (λ name. point_name.read bytes ≡ Some (name, drop 33 bytes))) c.in-Some.is c.crossing_in.ensures.value in
    c.in-Ok.ensures.ok all behind bytes (take (length bytes - 33) (drop 33 bytes)) support from
    (named ∙ (λ i. Some (c.in-Some.to, sym (part_from 33 bytes) i)))

pub returns-in-Err-clause-err : goal.returns-in-Err-clause-err
returns-in-Err-clause-err c all behind support from =
    let bytes = c.args.bytes.now in
    let named = subst (λ n. IfSome n (λ name. point_name.read bytes ≡ Some (name, drop 33 bytes))) c.in-Some.is c.crossing_in.ensures.value in
    c.in-Err.ensures.err all behind bytes (drop 33 bytes) support from named

pub returns-in-Ok-push_between-clause-ok : goal.returns-in-Ok-push_between-clause-ok
returns-in-Ok-push_between-clause-ok c all behind support from =
    c.in-Ok-push_between.ensures.ok all behind c.args.bytes.now c.in-Ok-point_name_at.to.1.now support from
    c.in-Ok-point_name_at.ensures

pub returns-in-Err-push_between-clause-err : goal.returns-in-Err-push_between-clause-err
returns-in-Err-push_between-clause-err c all behind support from =
    c.in-Err-push_between.ensures.err all behind c.args.bytes.now c.in-Ok-point_name_at.to.1.now support from
    c.in-Ok-point_name_at.ensures
