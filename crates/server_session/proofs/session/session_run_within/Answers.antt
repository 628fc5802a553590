use Rattle.std.proofs.Common.{subst}
use Rattle.book_history.specs.Logs.{IsLog}
use Rattle.book_history.proofs.Chains.{is_history}
use Rattle.server_session.proofs.Endings.{begins_not}
use Rattle.server_session.proofs.Turns.{stays_self}
use Rattle.server_session.proofs.session.session_run_within.Goals as goal

pub returns-in-Ok-clause-goes_on : goal.returns-in-Ok-clause-goes_on
returns-in-Ok-clause-goes_on g c = c.run-end.ensures.stays.goes_on

pub returns-in-Ok-clause-same : goal.returns-in-Ok-clause-same
returns-in-Ok-clause-same g c = (c.run-end.ensures.stays.book, c.run-end.ensures.stays.session)

pub returns-in-Err-clause-run : goal.returns-in-Err-clause-run
returns-in-Err-clause-run g c = begins_not c.args.most _ c.args.me.now _ _

pub returns-in-Err-clause-goes_on : goal.returns-in-Err-clause-goes_on
returns-in-Err-clause-goes_on g c = (stays_self c.args.me.now).goes_on

pub returns-in-Ok-clause-history : goal.returns-in-Ok-clause-history
returns-in-Ok-clause-history g c = is_history _ (subst IsLog c.seen_log.ensures.0 c.at.ensures.chain)

pub returns-in-Err-clause-history : goal.returns-in-Err-clause-history
returns-in-Err-clause-history g c = is_history _ (subst IsLog c.seen_log-in-Err.ensures.0 c.at-in-Err.ensures.chain)
