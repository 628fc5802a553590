use Rattle.std.proofs.Common.{◌≡◌, map, take, string_bytes, vec_len}
use Rattle.program_words.proofs.matching.all_owned.Given as goal

-- the copies so far
abbrev pub invariant-loop-text : goal.invariant-loop-text
invariant-loop-text l = (map string_bytes l.copies.items ≡ map (λ t. t.now) (take l.text-index l.texts)) × (vec_len l.copies ≡ l.text-index)
