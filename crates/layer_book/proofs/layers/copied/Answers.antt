use Rattle.layer_book.proofs.Entries.{copies_ok}
use Rattle.layer_book.proofs.layers.copied.Goals as goal

pub returns : goal.returns
returns c = copies_ok (λ m. m.entries) c.args.map.now.entries c.clone.result _ c.clone.ensures.cases
