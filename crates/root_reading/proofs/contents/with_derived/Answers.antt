use Rattle.std.proofs.Common.{ap, subst, List, ◌≡◌, Ok, sym}
use Rattle.overlay_terms.specs.Layers.{Name, Layer, derived}
use Rattle.overlay_terms.specs.Commands.{define}
use Rattle.store_terms.specs.Image.{with_layer}
use Rattle.root_reading.proofs.StoredLemmas.{longer_by, next_grows}
use Rattle.root_reading.proofs.contents.with_derived.Goals as goal

pub returns-clause-longer : goal.returns-clause-longer
returns-clause-longer g c =
    let tree = c.in_ok-expression-2.expression.value in
    let is = c.in_ok-layers.ensures c.args.name.now (derived tree) c.in_ok-name.ensures.valid
    (ap (λ (n : Name). define n tree) c.in_ok-name.ensures.ok) in
    longer_by c.args.layers.now c.args.name.now (derived tree) c.in_ok-layers.layers is

pub returns-clause-next : goal.returns-clause-next
returns-clause-next g c table valid known longer same kept =
    let tree = c.in_ok-expression-2.expression.value in
    let is = c.in_ok-layers.ensures c.args.name.now (derived tree) c.in_ok-name.ensures.valid
    (ap (λ (n : Name). define n tree) c.in_ok-name.ensures.ok) in
    next_grows c.args.name.now tree c.in_ok-layers.layers table longer valid
    (subst (λ (ls : List Layer). with_layer ls c.args.name.now (derived tree) ≡ Ok c.in_ok-layers.layers) (sym known) is) same kept
