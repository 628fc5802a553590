use Rattle.std.proofs.Common.{true}
use Rattle.book_history.specs.Logs.{newest_in}
use Rattle.version_book.specs.Waits.{IsBuiltAt, IsWaitRefused}
use Rattle.version_book.proofs.Results.{looks_err, looks_goes, looks_history, looks_ok, looks_own, looks_refused, looks_same, wait_refused}
use Rattle.version_book.proofs.shared.Shared.wait_built.Goals as goal

pub returns : goal.returns
returns g c =
    let s = c.tell_built-reported in
    let me = c.args.me.now in
    let now = s.new.me in
    let locked = c.deref_mut.result.now in
    let name = c.args.name.now in
    let log = locked.log in
    let seen = s.ensures.seen in
    record {
      goes_on = looks_goes me now log s.result c.number.ensures.begun seen;
      history = looks_history me now log s.result c.number.ensures.valid seen;
      ok = looks_ok me now log s.result (λ v n. IsBuiltAt v name n) seen s.ensures.ok;
      own = looks_own me now log s.result seen;
      err = looks_err me now log s.result seen;
      refused = looks_refused me now log s.result (λ v f. IsWaitRefused true v name f) (λ v. tt) seen
          (wait_refused s.result locked.state.closing (newest_in log) name s.ensures.refused);
      same = looks_same me now log s.result seen;
    }
