use Rattle.std.proofs.Common.{◌≡◌, ◌<◌, ◌+◌, ◌∷◌, [], ◌++◌, List, length, take, drop, refl, sym, ◌∙◌, ap, subst, rules}
use Rattle.std.proofs.lemmas.List.{take_more, take-append-drop}
use Rattle.extent_map.specs.declared.extent.Extent.{Extent}
use Rattle.extent_map.specs.Extents.{IsUnused, IsGap, AreApart, AreAlike}
use Rattle.extent_map.proofs.Gaps.{split_at, alike_last, gap_free, apart_more, apart_before}
use Rattle.extent_map.proofs.extents.Extents.of.Goals as goal

pub returns-in_default-clause-overlap : goal.returns-in_default-clause-overlap
returns-in_default-clause-overlap c u apart =
    let es = c.args.extents.now in
    let i = c.loop-extent.extent-index in
    let e = c.extent-item.result in
    let inside : i < length es = search rules in
    let none = subst (λ (l : List Extent). IsUnused l e.block e.blocks → ⊥) c.deref.ensures.value c.in_default.ensures.none in
    let around : es ≡ take i es ++ e ∷ drop (i + 1) es = sym (take-append-drop i es) ∙ ap (λ (l : List Extent). take i es ++ l) (split_at es i e inside c.extent-item.is) in
    none (c.loop-extent.invariant.alike.there e.block e.blocks (apart_before (take i es) e (drop (i + 1) es) (subst AreApart around apart)))

pub loop-extent-preserved : goal.loop-extent-preserved
loop-extent-preserved c =
    let es = c.args.extents.now in
    let i = c.loop-extent.extent-index in
    let e = c.extent-item.result in
    let taken = c.loop-extent.taken.items in
    let so_far = c.loop-extent.invariant in
    let inside : i < length es = search rules in
    let front : take (i + 1) es ≡ take i es ++ e ∷ [] = take_more es i e inside ∙ ap (λ (x : Extent). take i es ++ x ∷ []) (sym c.extent-item.is) in
    let gap = subst (λ (l : List Extent). IsGap l c.in-Some.place e.block e.blocks) c.deref.ensures.value c.in-Some.ensures.some in
    record {
      ascending = c.in_ok-put.ensures.ascending refl;
      apart = subst AreApart (sym front) (apart_more (take i es) e so_far.apart (so_far.alike.back e.block e.blocks (gap_free taken c.in-Some.place e.block e.blocks gap)));
      alike = subst (λ (l : List Extent). AreAlike l c.put.new.taken.items) (sym front)
          (alike_last (take i es) e c.put.new.taken.items (c.in_ok-put.ensures.alike (take i es) so_far.alike refl));
    }
