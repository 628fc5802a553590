use Rattle.std.proofs.Common.{rules}
use Rattle.version_core.proofs.answers.VersionAnswers.edges_in.Goals as goal

-- found by search alone: it is here so that a wrong body is refused without working out what to write
pub returns-in-Oversize-clause-refused : goal.returns-in-Oversize-clause-refused
returns-in-Oversize-clause-refused c = search rules
