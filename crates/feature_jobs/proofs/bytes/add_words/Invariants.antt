use Rattle.std.proofs.Common.{◌≡◌, ◌++◌, take}
use Rattle.feature_jobs.specs.Bytes.{words}
use Rattle.feature_jobs.proofs.bytes.add_words.Given as goal

-- the numbers so far are added
abbrev pub invariant-loop-number : goal.invariant-loop-number
invariant-loop-number l = l.to.items ≡ l.fn.to.items ++ words (take l.number-index l.numbers)
