use Rattle.std.proofs.Common.{sym, subst}
use Rattle.block_reading.specs.declared.job.Job.{Job}
use Rattle.feature_jobs.specs.Answers.{IsRow}
use Rattle.feature_jobs.specs.Shared.{asked_of}
use Rattle.feature_jobs.proofs.RowLemmas.{of_ok}
use Rattle.feature_jobs.proofs.running.GroundAnsweringJob.row.Goals as goal

pub returns-in-Pair : goal.returns-in-Pair
returns-in-Pair c =
    let ground = c.args.self.now in
    record {
      answers =
          of_ok c.row_of_pair.result
          (λ row is shared. subst (λ (job : Job). IsRow ground.features (asked_of ground.shared) job row.items) (sym c.in-Pair.is) (is shared))
          c.row_of_pair.ensures;
    }
