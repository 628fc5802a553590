use Rattle.std.proofs.Common.{◌≡◌, ◌≤◌, ℕ, sym, subst, ◌∙◌}
use Rattle.overlay_terms.specs.Commands.{version_max}
use Rattle.commit_plan.specs.Image.{table_held}
use Rattle.overlay_engine.specs.Covers.{version_of}
use Rattle.overlay_engine.proofs.recovery.restored.Goals as goal

pub restore_table-requires : goal.restore_table-requires
restore_table-requires c =
    let parts = sym c.into_table-number.ensures in
    record { small = subst (λ (n : ℕ). n ≤ version_max) (λ i. (parts i).0) c.args.image.small }

pub returns : goal.returns
returns c =
    let parts = c.into_table-number.ensures in
    c.restore_table.ensures ∙ (λ i. version_of (table_held (parts i).0 (parts i).1.value))
