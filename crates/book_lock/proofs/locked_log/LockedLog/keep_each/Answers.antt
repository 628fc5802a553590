use Rattle.std.proofs.Common.{◌≡◌, ◌<◌, ◌++◌, List, length, take, refl, ap, sym, ◌∙◌, subst}
use Rattle.std.proofs.lemmas.Result.{IfOk-from_err}
use Rattle.overlay_terms.specs.Histories.{Entry, commands_of}
use Rattle.book_history.specs.BookLogs.{BookLog}
use Rattle.book_history.specs.Reporting.{ReportsStored}
use Rattle.book_history.proofs.Gone.{passed}
use Rattle.book_lock.specs.Steps.{AreFinishedIn}
use Rattle.book_lock.proofs.Finishing.{begun, all_stay}
use Rattle.book_lock.proofs.locked_log.LockedLog.keep_each.Goals as goal

pub returns-in_err-next : goal.returns-in_err-next
returns-in_err-next g c =
    let failed = c.from_residual.ensures in
    record {
      few = IfOk-from_err _ _ failed.0;
      some = IfOk-from_err _ _ failed.0;
      finished = IfOk-from_err _ _ failed.0;
      err = passed _ _ _ failed.1 (refl, c.in_err-next.ensures.err);
    }

pub put_out-requires : goal.put_out-requires
put_out-requires g c =
    let old = c.args.self.now in
    let tiles = take c.in_ok-next.count c.args.tiles.now in
    let stays = all_stay g.J.BookName.stored old c.in_ok-next.next.seen_log.log c.args.name.now tiles c.in_ok-next.ensures.finished in
    let log = c.self.view_is in
    record {
      pending = c.self.invariant.2;
      longer = (
        subst (λ (l : List Entry). 0 < length l) (sym log) (begun old c.with_tiles.ensures.begun),
        c.self.invariant.1 ∙ sym c.in_ok-next.ensures.book,
        (stays.longer.0, ap (λ (l : List Entry). l ++ stays.longer.0) log ∙ stays.longer.1),
      );
    }

pub invariant_of-self : goal.invariant_of-self
invariant_of-self g c =
    let old = c.args.self.now in
    let stored = g.J.BookName.stored in
    let tiles = take c.in_ok-next.count c.args.tiles.now in
    let stays = all_stay stored old c.in_ok-next.next.seen_log.log c.args.name.now tiles c.in_ok-next.ensures.finished in
    let i = c.self.invariant in
    let log = c.self.view_is in
    let shown = c.put_out.ensures.shown in
    let after = ap (λ (t : BookLog). t.log) shown in (
      i.0,
      ap (λ (t : BookLog). t.book) shown ∙ c.in_ok-next.ensures.book,
      c.put_out.ensures.pending,
      (λ k low. i.3 k low ∙ ap (λ (l : List Entry). length (commands_of k l)) log ∙ sym (stays.own k) ∙ sym (ap (λ (l : List Entry). length (commands_of k l)) after)),
      subst (ReportsStored stored) (sym after) (stays.reported (begun old c.with_tiles.ensures.begun) (subst (ReportsStored stored) log i.4)),
    )

pub returns : goal.returns
returns g c =
    let made = c.in_ok-next.ensures in
    let after = ap (λ (t : BookLog). t.log) c.put_out.ensures.shown in
    record {
      few = made.few;
      some = made.some;
      finished = subst (AreFinishedIn c.args.self.now c.args.name.now (take c.in_ok-next.count c.args.tiles.now)) (sym after) made.finished;
      err = tt;
    }
