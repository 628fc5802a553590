use Rattle.std.proofs.Common.{inl, inr, subst, sym}
use Rattle.std.proofs.lemmas.Result.{err_from_is_err_and}
use Rattle.wkt_form.specs.Grammar.{IsWktOf}
use Rattle.wkt_form.proofs.FirstFault.{wkt_from_end, fault_from_unfinished, fault_from_stop}
use Rattle.wkt_form.proofs.reading.read_rings.Goals as goal

pub returns-in_err-reader-clause-err : goal.returns-in_err-reader-clause-err
returns-in_err-reader-clause-err c =
    let p = err_from_is_err_and c.from_residual.result c.from_residual.ensures.1 in
    rw (p.1, p.2) (elim c.in_err-reader.ensures.err [ inl memory ↦ inl memory | inr stop ↦ inr (fault_from_stop c.args.bytes.now _ stop) ])

pub returns-in-Some : goal.returns-in-Some
returns-in-Some c =
    let found = c.in-Some.ensures.some in
    record {
      ok = subst (IsWktOf c.args.bytes.now) (sym found.1) (wkt_from_end c.args.bytes.now c.in_ok-reader.reader c.in_ok-reader.ensures.ok found.0);
      err = tt;
    }

pub returns-in-None : goal.returns-in-None
returns-in-None c =
    record {
      ok = tt;
      err = inr (fault_from_unfinished c.args.bytes.now c.in_ok-reader.reader c.in_ok-reader.ensures.ok c.in-None.ensures.none);
    }
