use Rattle.std.proofs.Common.{ap, sym, subst}
use Rattle.std.proofs.lemmas.Result.{IfOk-weaker}
use Rattle.overlay_terms.specs.Histories.{IsReported}
use Rattle.versions.specs.declared.fault.VersionFault.{VersionFault}
use Rattle.book_history.specs.declared.fault.BookFault.TheVariants as fault
use Rattle.book_lock.proofs.shared_version.reported_version.Goals as goal

pub returns-in-Ok : goal.returns-in-Ok
returns-in-Ok c =
    record {
      ok = IfOk-weaker c.shared.result _ _ (λ v is. subst (IsReported c.args.now.now c.args.number) (sym is) c.in-Ok.ensures.ok) c.shared.ensures.ok;
      err = c.shared.ensures.err;
    }

pub returns-in-Err : goal.returns-in-Err
returns-in-Err c = record { ok = tt; err = ap (λ (f : VersionFault). fault.Version f) c.in-Err.ensures.err }
