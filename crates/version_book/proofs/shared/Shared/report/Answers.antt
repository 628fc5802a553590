use Rattle.version_book.proofs.Results.{report_by, report_err, report_goes, report_history, report_ok, report_reached, report_same}
use Rattle.version_book.proofs.shared.Shared.report.Goals as goal

pub returns : goal.returns
returns g c =
    let s = c.report in
    let me = c.args.me.now in
    let new = s.new.me in
    let log = c.deref_mut.result.now.log in
    let after = s.new.locked.log in
    let n = c.args.receipt.now.number in
    let r = s.result in
    let e = s.ensures in
    record {
      goes_on = report_goes me new log after n r _ _ c.given.ensures.begun e.ok e.seen e.err;
      ok = report_ok me new log after n r _ _ _ e.ok e.seen;
      history = report_history me new log after n r _ _ _ c.given.ensures.valid e.seen e.err;
      reported = report_by me new log after n r _ _ e.ok e.seen;
      reached = report_reached me new log after n r _ c.given.ensures.begun e.ok e.seen;
      err = report_err me new log after n r _ _ e.err;
      same = report_same me new log after n r _ _ _ _ e.seen e.err;
    }
