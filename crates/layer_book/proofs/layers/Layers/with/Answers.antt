use Rattle.std.proofs.Common.{◌≡◌, ◌∙◌, subst, sym, rules}
use Rattle.layer_book.specs.Layer.{content, IsBook}
use Rattle.layer_book.proofs.Entries.{with_is}
use Rattle.layer_book.proofs.Accepted.{kept_book}
use Rattle.layer_book.proofs.layers.Layers.with.Goals as goal

pub invariant_of-result : goal.invariant_of-result
invariant_of-result c =
    let book : IsBook c.args.self.now = subst IsBook c.self.view_is c.self.invariant in
    let same_name : c.in_ok-clone.field-0 ≡ c.args.name.now = search (rules, c.in_ok-clone.ensures.cases) in
    let made = with_is c.in_ok-map.map.entries c.args.self.now c.in_ok-clone.field-0 c.args.name.now c.args.layer c.insert.new.self.entries book.sound.orderly (c.in_ok-map.ensures ∙ c.self.view_is) same_name c.in_ok-insert.ensures.entries in
    subst IsBook (sym made) (kept_book c.args.self.now c.args.name.now (content c.args.layer) c.known.ensures.name c.known.ensures.rings book c.requires)

pub returns : goal.returns
returns c =
    let book : IsBook c.args.self.now = subst IsBook c.self.view_is c.self.invariant in
    let same_name : c.in_ok-clone.field-0 ≡ c.args.name.now = search (rules, c.in_ok-clone.ensures.cases) in
    with_is c.in_ok-map.map.entries c.args.self.now c.in_ok-clone.field-0 c.args.name.now c.args.layer c.insert.new.self.entries book.sound.orderly (c.in_ok-map.ensures ∙ c.self.view_is) same_name c.in_ok-insert.ensures.entries
