use Rattle.std.proofs.Common.{ap, sym, ◌∙◌, ◌≤◌, length, subst}
use Rattle.version_book.specs.HeldTiles.{marked_within}
use Rattle.version_book.proofs.Marking.{change_at, changed_all}
use Rattle.version_book.proofs.held_tiles.HeldTiles.give_back_strip.Goals as goal

pub loop-tile-preserved : goal.loop-tile-preserved
loop-tile-preserved c =
    let mark = marked_within c.args.name.now c.args.first c.args.end in
    let changed = c.mark_within.ensures ∙ ap mark (sym c.tile-item.is) in
    change_at mark c.args.self.now.list.items c.loop-tile.tile-items c.loop-tile.tile-index c.tile-item.result c.mark_within.new.self c.loop-tile.invariant c.tile-item.is changed

pub loop-tile-init : goal.loop-tile-init
loop-tile-init c = c.deref_mut-tile-items.ensures.value

pub returns : goal.returns
returns c =
    let list = c.args.self.now.list in
    let mark = marked_within c.args.name.now c.args.first c.args.end in
    let value = c.deref_mut-tile-items.ensures.value in
    changed_all mark list.items c.loop-tile.tile-items c.loop-tile.tile-index list.len (subst (λ l. length l ≤ c.loop-tile.tile-index) value c.loop-tile-test.false) list.ok.0 c.loop-tile.invariant
