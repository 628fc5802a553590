use Rattle.std.proofs.Common.{ℕ, List, ◌++◌, ap, ◌∙◌}
use Rattle.feature_jobs.specs.Bytes.{wide}
use Rattle.feature_jobs.proofs.reply.cells_row.Goals as goal

pub returns : goal.returns
returns c =
    let found = c.args.found.now in
    let rest = c.deref.result.now in (
      c.ring_count.result,
      rest,
      c.in_ok-extend_from_slice.ensures.items
          ∙ ap (λ (bytes : List ℕ). bytes ++ rest)
          (c.in_ok-add_area.ensures ∙ ap (λ (bytes : List ℕ). (bytes ++ wide found.twice) ++ wide found.bound) c.in_ok-row.ensures),
    )
