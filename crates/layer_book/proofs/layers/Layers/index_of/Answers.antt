use Rattle.std.proofs.Common.{sym, ◌∙◌}
use Rattle.layer_book.proofs.Lookups.{absent_index}
use Rattle.layer_book.proofs.layers.Layers.index_of.Goals as goal

pub returns-in-None : goal.returns-in-None
returns-in-None c = c.len.ensures.value ∙ sym (absent_index c.args.self.now c.args.name.now (sym c.in-None.ensures.known))
