-- A plan that is made is not full.
use Rattle.std.proofs.Common.{◌≡◌, inl, inr, ⊎_elim, ℕ, List, [], ◌∷◌, ◌++◌, sym, ◌∙◌, subst, arith}
use Rattle.std.proofs.lemmas.Bool.{cases_lt}
use Rattle.extent_map.specs.declared.extent.Extent.{Extent}
use Rattle.extent_map.specs.Extents.{IsApart, AreAlike}
use Rattle.extent_map.specs.Blocks.{blocks}
use Rattle.extent_map.specs.FirstFit.{IsFirstFit, NoFit, IsPlanned, taken_with, PlannedIsNotFull}
use Rattle.extent_map.proofs.Gaps.{alike_self}

-- of what is alike there is one lowest run
one_fit : (taken other : List Extent) (limit need a b : ℕ) → AreAlike taken other → IsFirstFit taken limit need a → IsFirstFit other limit need b → a ≡ b
one_fit taken other limit need a b alike first second = ⊎_elim
    (λ below. absurd (second.lowest a first.behind below (alike.there a need first.free)))
    (λ from. ⊎_elim
    (λ below. absurd (first.lowest b second.behind below (alike.back b need second.free)))
    (λ back. omega (arith, from, back))
    (cases_lt b a))
    (cases_lt a b)

apart_same : (d e : Extent) (start need : ℕ) → d.block ≡ e.block → d.blocks ≡ e.blocks → IsApart start need d → IsApart start need e
apart_same d e start need block blocks (inl before) = inl (omega (arith, block, before))
apart_same d e start need block blocks (inr behind) = inr (omega (arith, block, blocks, behind))

alike_more : (taken other : List Extent) (d e : Extent) → d.block ≡ e.block → d.blocks ≡ e.blocks → AreAlike taken other → AreAlike (d ∷ taken) (e ∷ other)
alike_more taken other d e block blocks alike = record {
  there = λ start need free. (apart_same d e start need block blocks free.0, alike.there start need free.1);
  back = λ start need free. (apart_same e d start need (sym block) (sym blocks) free.0, alike.back start need free.1);
}

not_full : (taken other : List Extent) (limit : ℕ) (before : List ℕ) (wanted : ℕ) (behind : List ℕ) (runs all : List Extent) → AreAlike taken other → IsPlanned taken limit before runs
    → IsPlanned other limit (before ++ wanted ∷ behind) all → NoFit (taken_with taken runs) limit (blocks wanted) → ⊥
not_full taken other limit [] wanted behind [] [] alike planned whole none = whole
not_full taken other limit [] wanted behind [] (r ∷ all) alike planned whole none = none r.block whole.1.behind whole.1.below (alike.back r.block (blocks wanted) whole.1.free)
not_full taken other limit [] wanted behind (d ∷ runs) all alike planned whole none = planned
not_full taken other limit (n ∷ before) wanted behind [] all alike planned whole none = planned
not_full taken other limit (n ∷ before) wanted behind (d ∷ runs) [] alike planned whole none = whole
not_full taken other limit (n ∷ before) wanted behind (d ∷ runs) (e ∷ all) alike planned whole none =
    let block = one_fit taken other limit (blocks n) d.block e.block alike planned.1 whole.1 in
    let blocks = planned.0 ∙ sym whole.0 in
    not_full (d ∷ taken) (e ∷ other) limit before wanted behind runs all (alike_more taken other d e block blocks alike) planned.2 whole.2 none

pub planned_is_not_full : PlannedIsNotFull
planned_is_not_full taken limit lengths runs planned full =
    not_full taken taken limit full.before full.wanted full.behind full.runs runs (alike_self taken) full.planned
    (subst (λ (l : List ℕ). IsPlanned taken limit l runs) full.are planned) full.none
