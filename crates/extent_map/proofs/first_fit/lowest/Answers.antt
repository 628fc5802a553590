use Rattle.std.proofs.Common.{◌≡◌, ⊎_elim, inl, inr, ℕ, ◌+◌, ◌<◌, ◌≤◌, max, length, arith, rules}
use Rattle.std.proofs.lemmas.Bool.{cases_lt}
use Rattle.extent_map.specs.declared.extent.Extent.{Extent}
use Rattle.extent_map.specs.Extents.{IsApart}
use Rattle.extent_map.proofs.Gaps.{all_wider, all_more, behind_from, free_at}
use Rattle.extent_map.proofs.first_fit.lowest.Goals as goal
use Rattle.extent_map.proofs.first_fit.lowest.Goals.{then-end-start, else-end-start}

pub returns-then-ends_by-clause-gap : goal.returns-then-ends_by-clause-gap
returns-then-ends_by-clause-gap c =
    let e = c.index-taken-i.result in
    let inside : c.loop-i.i < length c.args.taken.now = search rules in
    let room : c.loop-i.start + c.args.need ≤ e.block = search rules in
    record {
      within = omega arith;
      before = c.loop-i.invariant.before;
      behind = behind_from c.args.taken.now c.loop-i.i e (c.loop-i.start + c.args.need) inside c.index-taken-i.is c.requires room;
    }

in_the_way : (e : Extent) (start need next s : ℕ) → (start + need ≤ e.block → ⊥) → next ≡ max start (e.block + e.blocks) → start ≤ s → s < next → IsApart s need e → ⊥
in_the_way e start need next s no_room is from below (inl left) = no_room (omega (arith, from, left))
in_the_way e start need next s no_room is from below (inr right) = absurd (omega (arith, is, from, below, right))

pub loop-i-preserved : goal.loop-i-preserved
loop-i-preserved c =
    let taken = c.args.taken.now in
    let e = c.index-taken-i.result in
    let start = c.loop-i.start in
    let next = c.if-end-start.start in
    let so_far = c.loop-i.invariant in
    let inside : c.loop-i.i < length taken = search rules in
    let no_room : start + c.args.need ≤ e.block → ⊥ = search rules in
    let is : next ≡ max start (e.block + e.blocks) = elim c.if-end-start.branch [ then-end-start w ↦ omega arith | else-end-start w ↦ omega arith ] in
    record {
      behind = omega (arith, is, so_far.behind);
      before = all_more (λ f. f.block + f.blocks ≤ next) taken c.loop-i.i e inside c.index-taken-i.is
          (all_wider (λ f. f.block + f.blocks ≤ start) (λ f. f.block + f.blocks ≤ next) (λ f h. omega (arith, is, h)) _ so_far.before) (omega (arith, is));
      lowest = λ s two below free. ⊎_elim
          (λ low. so_far.lowest s two low free)
          (λ from. in_the_way e start c.args.need next s no_room is from below (free_at taken c.loop-i.i e s c.args.need inside c.index-taken-i.is free))
          (cases_lt s start);
    }
