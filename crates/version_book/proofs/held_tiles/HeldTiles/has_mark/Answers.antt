use Rattle.std.proofs.Common.{◌∙◌, rules, tests}
use Rattle.std.proofs.lemmas.Iterator.{YieldsList-from_slice}
use Rattle.std.proofs.lemmas.Iterator.Search.{any_from_yields_List}
use Rattle.std.specs.Prelude.{◌&&◌, bytes_eq}
use Rattle.version_book.proofs.held_tiles.HeldTiles.has_mark.Goals as goal

pub returns : goal.returns
returns c =
    let items = c.args.self.now.list.items in
    let chain = YieldsList-from_slice items (c.iter.ensures.rest ∙ c.deref.ensures.value) in
    any_from_yields_List (λ tile. tile.marked && bytes_eq tile.name c.args.name.now) _ _ _ c.any.ensures.ran chain (λ x b q k. search (rules, tests))
