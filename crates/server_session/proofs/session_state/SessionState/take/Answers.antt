use Rattle.std.proofs.Common.{subst}
use Rattle.book_history.specs.Logs.{IsLog}
use Rattle.book_history.proofs.Chains.{is_history}
use Rattle.server_session.proofs.session_state.SessionState.take.Goals as goal

pub returns-clause-history : goal.returns-clause-history
returns-clause-history g c = is_history _ (subst IsLog c.seen_log.ensures.0 c.at.ensures.chain)
