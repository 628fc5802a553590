use Rattle.std.proofs.Common.{◌∙◌, rules, tests}
use Rattle.std.proofs.lemmas.Iterator.{YieldsList-from_slice}
use Rattle.std.proofs.lemmas.Iterator.Search.{any_from_yields_List}
use Rattle.version_book.specs.HeldTiles.{is_of}
use Rattle.version_book.proofs.held_tiles.HeldTiles.has.Goals as goal

pub returns : goal.returns
returns c =
    let items = c.args.self.now.list.items in
    let chain = YieldsList-from_slice items (c.iter.ensures.rest ∙ c.deref.ensures.value) in
    any_from_yields_List (is_of c.args.name.now c.args.column) _ _ _ c.any.ensures.ran chain (λ x b q k. search (rules, tests))
