use Rattle.std.proofs.Common.{List, subst, rules}
use Rattle.std.specs.List.Sorted.{IsPermutation}
use Rattle.std.proofs.lemmas.List.Sorted.{answers_always}
use Rattle.ring_joining.specs.declared.ending.PieceEnd.{PieceEnd}
use Rattle.ring_joining.specs.Following.{end_key}
use Rattle.ring_joining.proofs.ending.sorted_ends.Goals as goal

pub returns : goal.returns
returns c =
    record {
      moved = subst (λ (xs : List PieceEnd). IsPermutation xs c.sort_unstable_by_key.new.self.items) c.in_ok-ends.ensures c.sort_unstable_by_key.ensures.permutation;
      in_order = c.sort_unstable_by_key.ensures.sorted end_key (answers_always _ _ _ (λ f a r g h. search rules));
    }
