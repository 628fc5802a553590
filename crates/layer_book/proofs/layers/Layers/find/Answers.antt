use Rattle.std.proofs.Common.{◌≡◌, ◌<◌, sym, ◌∙◌, arith}
use Rattle.std.proofs.lemmas.Bool.Decides.{nat_tests}
use Rattle.layer_book.proofs.Lines.{none_there}
use Rattle.layer_book.proofs.Names.{stands_is}
use Rattle.layer_book.proofs.Wanted.{index_behind, index_here}
use Rattle.layer_book.proofs.layers.Layers.find.Goals as goal
use Rattle.layer_book.proofs.layers.Layers.find.Goals.{in-Some+else-is_named, in_default}

pub returns-then-is_named-clause-known : goal.returns-then-is_named-clause-known
returns-then-is_named-clause-known c =
    sym (index_here c.args.self.now c.args.name.now c.loop-index.index _ c.len-index-end.ensures.valid.sound.orderly (sym c.in-Some.ensures) (sym c.is_named.ensures ∙ c.if-is_named.true)).0

pub returns-then-is_named-clause-index : goal.returns-then-is_named-clause-index
returns-then-is_named-clause-index c = (
  sym (index_here c.args.self.now c.args.name.now c.loop-index.index _ c.len-index-end.ensures.valid.sound.orderly (sym c.in-Some.ensures) (sym c.is_named.ensures ∙ c.if-is_named.true)).1,
  omega (arith, c.len-index-end.ensures.value, c.loop-index-test.true),
)

pub loop-index-preserved : goal.loop-index-preserved
loop-index-preserved c =
    let layers = c.args.self.now in
    elim c.match-at.branch [
      | in-Some+else-is_named w ↦ index_behind layers c.args.name.now c.loop-index.index _ (sym w.in-Some.ensures) (sym w.is_named.ensures ∙ w.if-is_named.false) c.loop-index.invariant
      | in_default w ↦ absurd (none_there layers c.loop-index.index (omega (arith, c.len-index-end.ensures.value)) w.in_default.ensures)
    ]

pub returns-clause-known : goal.returns-clause-known
returns-clause-known c =
    sym (stands_is c.args.self.now c.args.name.now ∙ grind (arith, nat_tests, c.loop-index.invariant, c.loop-index-test.false, c.len-index-end.ensures.value))
