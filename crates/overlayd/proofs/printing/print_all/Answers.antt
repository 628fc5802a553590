use Rattle.std.proofs.Common.{subst, sym, nat_lt, length}
use Rattle.std.proofs.KnownBytes.{Appends-nil, Appends-trans}
use Rattle.std.specs.Io.KnownBytes.{Appends}
use Rattle.overlayd.specs.Printing.{replies_of, texts_from}
use Rattle.overlayd.proofs.PrintLemmas.{at_fault, cut_begins, texts_more}
use Rattle.overlayd.proofs.printing.print_all.Goals as goal

pub loop-i-init : goal.loop-i-init
unfolding texts_from
loop-i-init g c = Appends-nil (g.W.Write.contents c.args.output.now)

pub loop-i-preserved : goal.loop-i-preserved
loop-i-preserved g c =
    let more = texts_more (nat_lt 1 (length c.args.sessions.now)) replies_of c.args.sessions.now c.loop-i.i c.index-sessions-i.result c.loop-i-test.true c.index-sessions-i.is in
    subst (Appends (g.W.Write.contents c.args.output.now) (g.W.Write.contents c.print_session.new.output)) (sym more)
    (Appends-trans _ _ _ _ _ c.loop-i.invariant c.in_ok-print_session.ensures)

pub returns-in_err-print_session-clause-part : goal.returns-in_err-print_session-clause-part
returns-in_err-print_session-clause-part g c =
    let (front, cut, appended) = c.in_err-print_session.ensures in
    let begins = cut_begins replies_of c.args.sessions.now c.loop-i.i c.index-sessions-i.result front c.loop-i-test.true c.index-sessions-i.is cut in
    at_fault _ c.from_residual.result (_, begins, Appends-trans _ _ _ _ _ c.loop-i.invariant appended)
