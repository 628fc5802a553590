use Rattle.std.proofs.Common.{take}
use Rattle.std.specs.List.{All}
use Rattle.book_lock.specs.Steps.{HasAllOf}
use Rattle.version_book.proofs.locked_book.closing.has_all_of_each.Given as goal

-- the log has all of the sessions before this one
abbrev pub invariant-loop-session : goal.invariant-loop-session
invariant-loop-session g l = All (λ session. HasAllOf l.log session) (take l.session-index l.sessions)
