use Rattle.std.proofs.Common.{ap}
use Rattle.overlay_terms.specs.Layers.{Name, base}
use Rattle.overlay_terms.specs.Commands.{put}
use Rattle.root_reading.proofs.StoredLemmas.{longer_by}
use Rattle.root_reading.proofs.contents.with_base.Goals as goal

pub returns-clause-longer : goal.returns-clause-longer
returns-clause-longer c =
    let rings = c.in-Ok.rings.value in
    let is = c.in_ok-layers.ensures c.args.name.now (base rings) c.in_ok-name.ensures.valid
    (ap (λ (n : Name). put n rings) c.in_ok-name.ensures.ok) in
    longer_by c.args.layers.now c.args.name.now (base rings) c.in_ok-layers.layers is
