use Rattle.std.proofs.Common.{ap, ◌∙◌}
use Rattle.overlay_terms.specs.Layers.{answer_at}
use Rattle.version_core.proofs.answers.VersionAnswers.locate.Goals as goal

pub returns-clause-ok : goal.returns-clause-ok
returns-clause-ok c = c.in_ok-direct.ensures.ok ∙ ap (λ ls. answer_at ls c.args.name.now c.args.query.now) c.layers.ensures.value
