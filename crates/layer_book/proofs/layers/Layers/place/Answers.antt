use Rattle.std.proofs.Common.{ap, sym, ◌∙◌, if◌then◌else◌}
use Rattle.overlay_terms.specs.Layers.{inside, outside}
use Rattle.exact_point.specs.Place.{place}
use Rattle.layer_book.proofs.Edges.{on_edge, off_edge, edge_there, inside_there}
use Rattle.layer_book.proofs.layers.Layers.place.Goals as goal

pub returns-then-seen : goal.returns-then-seen
returns-then-seen c =
    λ name at.
    let layers = c.args.self.now in
    let q = c.args.query.now in
    let p = place c.point.result in
    let on = edge_there layers name p q c.seen-seen.result.edge c.seen-seen.ensures.valid.sound.orderly c.point.ensures (c.seen-seen.ensures.edge name at) in
    on_edge layers name q c.seen-seen.result.edge on c.if-seen.true

pub returns-then-seen-2 : goal.returns-then-seen-2
returns-then-seen-2 c =
    λ name at.
    let layers = c.args.self.now in
    let q = c.args.query.now in
    let p = place c.point.result in
    let on = edge_there layers name p q c.seen-seen.result.edge c.seen-seen.ensures.valid.sound.orderly c.point.ensures (c.seen-seen.ensures.edge name at) in
    let within = inside_there layers name p q c.seen-seen.result.inside c.point.ensures (c.seen-seen.ensures.inside name at) in
    ap (λ b. if b then inside else outside) (sym c.if-seen-2.true)
    ∙ off_edge layers name q c.seen-seen.result.edge c.seen-seen.result.inside on c.if-seen.false within

pub returns-else-seen-2 : goal.returns-else-seen-2
returns-else-seen-2 c =
    λ name at.
    let layers = c.args.self.now in
    let q = c.args.query.now in
    let p = place c.point.result in
    let on = edge_there layers name p q c.seen-seen.result.edge c.seen-seen.ensures.valid.sound.orderly c.point.ensures (c.seen-seen.ensures.edge name at) in
    let within = inside_there layers name p q c.seen-seen.result.inside c.point.ensures (c.seen-seen.ensures.inside name at) in
    ap (λ b. if b then inside else outside) (sym c.if-seen-2.false)
    ∙ off_edge layers name q c.seen-seen.result.edge c.seen-seen.result.inside on c.if-seen.false within
