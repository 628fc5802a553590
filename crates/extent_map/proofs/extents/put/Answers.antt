use Rattle.std.proofs.Common.{◌≡◌, ◌∷◌, ◌++◌, List, take, drop, sym, subst}
use Rattle.extent_map.specs.declared.extent.Extent.{Extent}
use Rattle.extent_map.specs.Extents.{AreAlike, Ascend}
use Rattle.extent_map.proofs.Gaps.{ascend_insert, alike_insert}
use Rattle.extent_map.proofs.extents.put.Goals as goal

pub returns-clause-ascending : goal.returns-clause-ascending
returns-clause-ascending c u =
    let es = c.args.taken.now.items in
    let is : c.insert.new.self.items ≡ take c.args.place es ++ c.args.extent ∷ drop c.args.place es = c.in_ok-insert.ensures.items in
    subst Ascend (sym is) (ascend_insert es c.args.place c.args.extent c.requires.ascending c.requires.gap)

pub returns-clause-alike : goal.returns-clause-alike
returns-clause-alike c given alike u =
    let es = c.args.taken.now.items in
    let is : c.insert.new.self.items ≡ take c.args.place es ++ c.args.extent ∷ drop c.args.place es = c.in_ok-insert.ensures.items in
    subst (λ (l : List Extent). AreAlike (c.args.extent ∷ given) l) (sym is) (alike_insert given es c.args.place c.args.extent alike)
