use Rattle.std.proofs.Common.{ap, sym, ◌∙◌, is_some}
use Rattle.layer_book.proofs.layers.Layers.direct.Goals as goal

pub returns-clause-ok : goal.returns-clause-ok
returns-clause-ok c = c.place.ensures c.args.name.now (sym c.in-Some.ensures.known, c.in-Some.ensures.index.0)
