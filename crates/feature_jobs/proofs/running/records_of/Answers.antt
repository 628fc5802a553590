use Rattle.std.proofs.Common.{ℕ, List, ◌++◌, ap, ◌∙◌}
use Rattle.std.specs.List.{concat}
use Rattle.feature_jobs.specs.Shared.{AreShared, asked_of}
use Rattle.feature_jobs.proofs.RowLemmas.{given}
use Rattle.feature_jobs.proofs.running.records_of.Goals as goal

pub returns-in-Ok : goal.returns-in-Ok
returns-in-Ok c shared =
    let all = c.in-Ok.ensures.ok in
    let ground = c.args.ground.now in (
      all.0,
      given ground.features (asked_of ground.shared) (AreShared ground.features ground.shared) shared c.args.jobs.now all.0 all.1,
      all.2 ∙ ap (λ (bytes : List ℕ). bytes ++ concat all.0) c.new-records.ensures.items,
    )
