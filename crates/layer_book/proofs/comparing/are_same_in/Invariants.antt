use Rattle.std.proofs.Common.{◌≡◌, map, drop}
use Rattle.std.specs.Cmp.Lexicographic.{pointwise}
use Rattle.overlay_terms.specs.SameInput.{same_marked}
use Rattle.layer_book.specs.Touching.{marked_in}
use Rattle.layer_book.proofs.SameMarks.{marked_from}
use Rattle.layer_book.proofs.comparing.are_same_in.Given as goal

-- all are the same where the base layers that are left are
abbrev pub invariant-loop-i : goal.invariant-loop-i
invariant-loop-i l =
    pointwise same_marked (marked_in l.column (map (λ b. b.now) l.new)) (marked_in l.column (map (λ b. b.now) l.old))
    ≡ pointwise same_marked (marked_from l.column l.i (drop l.i (map (λ b. b.now) l.new))) (marked_from l.column l.i (drop l.i (map (λ b. b.now) l.old)))
