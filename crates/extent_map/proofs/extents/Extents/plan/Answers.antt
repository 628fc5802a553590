use Rattle.std.proofs.Common.{◌≡◌, ℕ, ◌<◌, ◌+◌, ◌∷◌, [], ◌++◌, List, length, take, drop, get_or, refl, sym, ◌∙◌, ap, subst, rules}
use Rattle.std.proofs.lemmas.List.{take_more, take-append-drop, at_drop_more}
use Rattle.extent_map.specs.declared.extent.Extent.{Extent}
use Rattle.extent_map.specs.Extents.{AreAlike}
use Rattle.extent_map.specs.Blocks.{blocks}
use Rattle.extent_map.specs.FirstFit.{IsFirstFit, NoFit, IsPlanned, taken_with}
use Rattle.extent_map.proofs.Plans.{fit_alike, none_alike, planned_more, taken_more}
use Rattle.extent_map.proofs.extents.Extents.plan.Goals as goal

pub returns-in_default-clause-full : goal.returns-in_default-clause-full
returns-in_default-clause-full c u =
    let given = c.args.self.now.taken.items in
    let taken = c.loop-length.taken.items in
    let lengths = c.args.lengths.now in
    let i = c.loop-length.length-index in
    let n = get_or lengths i 0 in
    let inside : i < length lengths = search rules in
    let here = subst (λ (l : List Extent). NoFit l c.args.self.now.limit c.blocks_of-need.result) c.deref-in-loop-length.ensures.value c.in_default.ensures.none in
    let none = subst (λ (m : ℕ). NoFit taken c.args.self.now.limit m) c.blocks_of-need.ensures here in
    record {
      before = take i lengths;
      wanted = n;
      behind = drop (i + 1) lengths;
      runs = c.loop-length.runs.items;
      are = sym (take-append-drop i lengths) ∙ ap (λ (l : List ℕ). take i lengths ++ l) (at_drop_more (λ (l : List ℕ). l) lengths i 0 inside);
      planned = c.loop-length.invariant.planned;
      none = none_alike (taken_with given c.loop-length.runs.items) taken c.args.self.now.limit (blocks n) c.loop-length.invariant.alike none;
    }

pub loop-length-preserved : goal.loop-length-preserved
loop-length-preserved c =
    let given = c.args.self.now.taken.items in
    let limit = c.args.self.now.limit in
    let taken = c.loop-length.taken.items in
    let runs = c.loop-length.runs.items in
    let lengths = c.args.lengths.now in
    let i = c.loop-length.length-index in
    let n = get_or lengths i 0 in
    let run = c.in-Some.found.run in
    let so_far = c.loop-length.invariant in
    let inside : i < length lengths = search rules in
    let pushed : c.push.new.self.items ≡ runs ++ run ∷ [] = c.in_ok-push.ensures.items in
    let size = c.in-Some.ensures.size ∙ c.blocks_of-need.ensures in
    let here = subst (λ (l : List Extent). IsFirstFit l limit c.blocks_of-need.result run.block) c.deref-in-loop-length.ensures.value c.in-Some.ensures.fit in
    let fit = subst (λ (m : ℕ). IsFirstFit taken limit m run.block) c.blocks_of-need.ensures here in
    let planned = planned_more given limit (take i lengths) runs n run so_far.planned size (fit_alike (taken_with given runs) taken limit (blocks n) run.block so_far.alike fit) in
    let more = subst (λ (l : List ℕ). IsPlanned given limit l (runs ++ run ∷ [])) (sym (take_more lengths i 0 inside)) planned in
    let alike = subst (λ (l : List Extent). AreAlike l c.put.new.taken.items) (sym (taken_more given runs run)) (c.in_ok-put.ensures.alike (taken_with given runs) so_far.alike refl) in
    record {
      ascending = c.in_ok-put.ensures.ascending refl;
      planned = subst (λ (l : List Extent). IsPlanned given limit (take (i + 1) lengths) l) (sym pushed) more;
      alike = subst (λ (l : List Extent). AreAlike (taken_with given l) c.put.new.taken.items) (sym pushed) alike;
    }
