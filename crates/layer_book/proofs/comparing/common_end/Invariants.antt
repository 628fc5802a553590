use Rattle.std.proofs.Common.{◌≡◌, ◌-◌, drop, length}
use Rattle.layer_book.proofs.comparing.common_end.Given as goal

-- the lists end alike so far
abbrev pub invariant-loop-end : goal.invariant-loop-end
invariant-loop-end l = drop (length l.new - l.end) l.new ≡ drop (length l.old - l.end) l.old
