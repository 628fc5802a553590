use Rattle.std.proofs.Common.{◌≡◌, ◌*◌, map, take, vec_len}
use Rattle.program_words.specs.Plans.{paths_of}
use Rattle.program_words.proofs.live_reading.paired.Given as goal

-- the pairs so far
abbrev pub invariant-loop-i : goal.invariant-loop-i
invariant-loop-i l = (paths_of l.pairs.items ≡ map (λ text. text.now) (take (2 * l.i) l.paths)) × (vec_len l.pairs ≡ l.i)
