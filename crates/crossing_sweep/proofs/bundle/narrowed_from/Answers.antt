use Rattle.std.proofs.Common.{◌≡◌, true, false, ap, sym, ◌∙◌, arith}
use Rattle.std.specs.Ordering.{is_gt}
use Rattle.exact_point.specs.Place.{place}
use Rattle.crossing_sweep.proofs.SplitLemmas.{is_under, under_up_to, not_under_from}
use Rattle.crossing_sweep.proofs.bundle.narrowed_from.Goals as goal

pub returns-in-Less-clause-not_under : goal.returns-in-Less-clause-not_under
returns-in-Less-clause-not_under c = λ falls.
    let over : is_under (place c.args.at.now) c.index-status-hint.result ≡ false = ap (is_under (place c.args.at.now)) c.index-status-hint.is ∙ ap is_gt (sym c.side.ensures ∙ c.in-Less.is) in
    not_under_from (place c.args.at.now) c.args.status.now falls c.args.hint c.index-status-hint.result (omega (arith, c.if-status-hint.false)) c.index-status-hint.is over

pub returns-in-Equal-clause-not_under : goal.returns-in-Equal-clause-not_under
returns-in-Equal-clause-not_under c = λ falls.
    let level : is_under (place c.args.at.now) c.index-status-hint.result ≡ false = ap (is_under (place c.args.at.now)) c.index-status-hint.is ∙ ap is_gt (sym c.side.ensures ∙ c.in-Equal.is) in
    not_under_from (place c.args.at.now) c.args.status.now falls c.args.hint c.index-status-hint.result (omega (arith, c.if-status-hint.false)) c.index-status-hint.is level

pub returns-in-Greater-clause-under : goal.returns-in-Greater-clause-under
returns-in-Greater-clause-under c = λ falls.
    let under : is_under (place c.args.at.now) c.index-status-hint.result ≡ true = ap (is_under (place c.args.at.now)) c.index-status-hint.is ∙ ap is_gt (sym c.side.ensures ∙ c.in-Greater.is) in
    under_up_to (place c.args.at.now) c.args.status.now falls c.args.hint c.index-status-hint.result (omega (arith, c.if-status-hint.false)) c.index-status-hint.is under
