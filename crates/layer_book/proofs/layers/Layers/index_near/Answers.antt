use Rattle.std.proofs.Common.{subst, sym, ◌∙◌}
use Rattle.layer_book.specs.Layer.{IsBook}
use Rattle.layer_book.proofs.Entries.{near_is}
use Rattle.layer_book.proofs.layers.Layers.index_near.Goals as goal

pub returns-in-Some : goal.returns-in-Some
returns-in-Some c =
    let book : IsBook c.args.self.now = subst IsBook c.self.view_is c.self.invariant in
    near_is c.self.inside.map.entries c.args.self.now c.args.near c.in-Some.own.now c.args.name.now c.in-Some.field-0-1.now book.sound.orderly c.self.view_is
    c.in-Some.ensures.entry (sym c.eq.ensures ∙ c.if-eq.true)
