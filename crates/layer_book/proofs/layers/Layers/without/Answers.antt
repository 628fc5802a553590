use Rattle.std.proofs.Common.{◌∙◌, subst, sym}
use Rattle.layer_book.specs.Layer.{IsBook}
use Rattle.layer_book.proofs.Entries.{without_is}
use Rattle.layer_book.proofs.Accepted.{remove_book}
use Rattle.layer_book.proofs.layers.Layers.without.Goals as goal

pub invariant_of-result : goal.invariant_of-result
invariant_of-result c =
    let book : IsBook c.args.self.now = subst IsBook c.self.view_is c.self.invariant in
    let made = without_is c.in_ok-map.map.entries c.args.self.now c.args.name.now c.shift_remove.new.self.entries book.sound.orderly (c.in_ok-map.ensures ∙ c.self.view_is) c.shift_remove.ensures.entries in
    subst IsBook (sym made) (remove_book c.args.self.now c.args.name.now book c.requires)

pub returns : goal.returns
returns c =
    let book : IsBook c.args.self.now = subst IsBook c.self.view_is c.self.invariant in
    without_is c.in_ok-map.map.entries c.args.self.now c.args.name.now c.shift_remove.new.self.entries book.sound.orderly (c.in_ok-map.ensures ∙ c.self.view_is) c.shift_remove.ensures.entries
