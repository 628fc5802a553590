use Rattle.std.proofs.Common.{◌≡◌, ◌∷◌, map, take, string_bytes}
use Rattle.program_words.proofs.matching.named.Given as goal

abbrev pub invariant-loop-word : goal.invariant-loop-word
invariant-loop-word l = map (λ word. word.now) l.all.items ≡ l.program ∷ map string_bytes (take l.word-index l.words)
