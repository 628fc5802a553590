use Rattle.std.proofs.Common.{◌≡◌, ◌++◌, length}
use Rattle.std.specs.Vec.Iter.{into_iter_items, into_iter_len}
use Rattle.commit_plan.specs.Filed.{AreWritesOf}
use Rattle.commit_plan.proofs.draft.Draft.into_writes.Given as goal

-- the records so far have their writes
abbrev pub invariant-loop-filed : goal.invariant-loop-filed
invariant-loop-filed l = record {
  all : l.yielded ++ into_iter_items l.filed-iterator ≡ into_iter_items l.initial.filed-iterator;
  left : into_iter_len l.filed-iterator ≡ length (into_iter_items l.filed-iterator);
  writes : AreWritesOf l.yielded l.writes.items;
}
