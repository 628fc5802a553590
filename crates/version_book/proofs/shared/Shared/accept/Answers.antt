use Rattle.std.proofs.Common.{true, refl}
use Rattle.std.proofs.lemmas.Result.{IfErr-weaker, IfOk-weaker}
use Rattle.book_lock.proofs.Turning.{refused_more}
use Rattle.version_book.proofs.shared.Shared.accept.Goals as goal

pub returns : goal.returns
returns g c =
    let s = c.submit in
    let me = c.args.me.now in
    let locked = c.deref_mut.result.now in
    let log = locked.log in
    let refuses = g.C.Change.refuses c.args.change.now in
    record {
      begun = c.number.ensures.begun;
      valid = c.number.ensures.valid;
      ok = IfOk-weaker s.result _ _ (λ n is. (log, s.new.self.log, is)) s.ensures.ok;
      err = IfErr-weaker s.result _ _
          (λ r is. (log, refused_more log me s.new.me refuses locked.state.closing true r (λ _. refl) is.2)) s.ensures.err;
    }
