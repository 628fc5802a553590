use Rattle.std.proofs.Common.{List, subst}
use Rattle.overlay_terms.specs.Plane.{WholePoint}
use Rattle.block_reading.specs.declared.job.Job.{Job}
use Rattle.feature_jobs.specs.Answers.{AreRows}
use Rattle.feature_jobs.specs.Shared.{asked_of}
use Rattle.feature_jobs.proofs.running.answered.Goals as goal

pub reply_of-requires : goal.reply_of-requires
reply_of-requires c =
    let ground = c.in_ok-ground.ground in
    let records = c.in_ok-records.ensures c.in_ok-ground.ensures.shared in
    record {
      asked = asked_of ground.shared;
      spelled = c.in_ok-ground.ensures.asked;
      rows =
          subst (λ (features : List (List (List WholePoint))). AreRows features (asked_of ground.shared) c.args.block.now.jobs c.in_ok-records.records.items) c.in_ok-ground.ensures.features
          (subst (λ (jobs : List Job). AreRows ground.features (asked_of ground.shared) jobs c.in_ok-records.records.items) c.jobs.ensures records);
    }
