use Rattle.std.proofs.Common.{◌≡◌, length, map, take}
use Rattle.std.specs.Prelude.{IsTrue}
use Rattle.std.specs.Cmp.Lexicographic.{pointwise}
use Rattle.exact_point.specs.NamedPiece.{ends_of}
use Rattle.commit_plan.specs.Same.{same_ends}
use Rattle.commit_plan.proofs.equality.same_pieces.Given as goal

-- the pieces so far have the same ends
abbrev pub invariant-loop-i : goal.invariant-loop-i
invariant-loop-i l = record {
  as_long : length l.held ≡ length l.new;
  same : IsTrue (pointwise same_ends (take l.i (map ends_of l.held)) (take l.i (map ends_of l.new)));
}
