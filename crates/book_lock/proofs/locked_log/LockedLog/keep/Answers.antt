use Rattle.std.proofs.Common.{length, ap, ◌∙◌}
use Rattle.std.proofs.lemmas.Bool.{false≢true}
use Rattle.std.proofs.lemmas.Result.{IfOk-from_err}
use Rattle.book_history.specs.BookLogs.{BookLog}
use Rattle.book_history.proofs.Gone.{passed}
use Rattle.book_lock.proofs.Finishing.{one_finished}
use Rattle.book_lock.proofs.locked_log.LockedLog.keep.Goals as goal

pub keep_each-requires : goal.keep_each-requires
keep_each-requires g c = record { present = λ t. absurd (false≢true t) }

pub returns-in_err-keep_each : goal.returns-in_err-keep_each
returns-in_err-keep_each g c =
    let failed = c.from_residual.ensures in
    record { kept = IfOk-from_err _ _ failed.0; err = passed _ _ _ failed.1 c.in_err-keep_each.ensures.err }

pub returns : goal.returns
returns g c =
    let made = c.in_ok-keep_each.ensures in
    record {
      kept = one_finished c.args.self.now c.keep_each.new.self c.args.name.now c.args.built.now _ c.from_ref.result.now c.at-before.result c.at.result c.from_ref.ensures.value made.few made.some made.finished
          (c.at-before.ensures.length ∙ ap (λ (t : BookLog). length t.log) c.last.ensures.seen_log)
          (c.at.ensures.length ∙ ap (λ (t : BookLog). length t.log) c.last-2.ensures.seen_log);
      err = tt;
    }
