use Rattle.std.proofs.Common.{ℕ, List, ◌++◌, ap, ◌∙◌}
use Rattle.feature_jobs.specs.Bytes.{wide}
use Rattle.feature_jobs.specs.Rows.{bound_of}
use Rattle.feature_jobs.proofs.reply.pair_row.Goals as goal

pub returns : goal.returns
returns c =
    let one = c.args.one.now in
    let rest = c.deref.result.now in (
      c.ring_count.result,
      rest,
      c.in_ok-extend_from_slice.ensures.items
          ∙ ap (λ (bytes : List ℕ). bytes ++ rest)
          (c.in_ok-add_common_area.ensures
          ∙ ap (λ (bytes : List ℕ). (bytes ++ wide one.both.twice) ++ wide (bound_of one))
          (c.in_ok-add_own_areas.ensures ∙ ap (λ (bytes : List ℕ). (bytes ++ wide one.a.twice) ++ wide one.b.twice) c.in_ok-row.ensures)),
    )
