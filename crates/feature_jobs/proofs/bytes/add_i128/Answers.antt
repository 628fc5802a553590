use Rattle.std.proofs.Common.{ℕ, List, ◌++◌, ap, ◌∙◌}
use Rattle.std.specs.Int.{w128}
use Rattle.std.proofs.lemmas.Int.{to_z-of_z}
use Rattle.feature_jobs.specs.Bytes.{wide}
use Rattle.feature_jobs.proofs.bytes.add_i128.Goals as goal

pub returns : goal.returns
returns c =
    c.in_ok-extend_from_slice.ensures.items
    ∙ ap (λ (bytes : List ℕ). c.args.to.now.items ++ bytes) (c.wide.ensures ∙ ap wide (to_z-of_z w128 c.args.number c.ranges.number))
