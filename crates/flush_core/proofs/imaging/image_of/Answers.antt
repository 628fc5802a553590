-- The image of a version holds its number, layers and tiles, since it has its very table.
use Rattle.std.proofs.Common.{◌≡◌, refl, sym, subst, ◌∙◌}
use Rattle.commit_plan.specs.Image.{table_held}
use Rattle.flush_core.specs.Imaging.{version_held}
use Rattle.flush_core.specs.Stored.{IsImageOf}
use Rattle.flush_core.proofs.imaging.image_of.Goals as goal

pub returns-clause-value : goal.returns-clause-value
returns-clause-value c =
    let table = c.in_ok-table.ensures in
    let same : table_held c.number.result c.in_ok-table.table.value ≡ version_held c.args.version.now =
    (λ i. record { number = c.number.ensures.value i; layers = table.layers i; tiles = table.tiles i }) in
    c.of_table.ensures.held ∙ same

pub returns-clause-tiles : goal.returns-clause-tiles
returns-clause-tiles c =
    let table = c.in_ok-table.ensures in
    let same : table_held c.number.result c.in_ok-table.table.value ≡ version_held c.args.version.now =
    (λ i. record { number = c.number.ensures.value i; layers = table.layers i; tiles = table.tiles i }) in
    subst (IsImageOf c.args.version.now) (sym (c.of_table.ensures.held ∙ same)) (record { number = refl; layers = refl; tiles = λ name k. refl })
