use Rattle.std.proofs.Common.{◌≡◌, take}
use Rattle.layer_book.proofs.comparing.common_front.Given as goal

-- the lists begin alike so far
abbrev pub invariant-loop-front : goal.invariant-loop-front
invariant-loop-front l = take l.front l.new ≡ take l.front l.old
