use Rattle.std.proofs.Common.{◌≡◌, take}
use Rattle.session_threads.specs.Counting.{made_in}
use Rattle.session_threads.proofs.counting.made_by_all.Given as goal

-- what the sessions before this one made
abbrev pub invariant-loop-session : goal.invariant-loop-session
invariant-loop-session g l = l.made ≡ made_in (take l.session-index l.sessions)
