use Rattle.std.proofs.Common.{◌≡◌, ◌-◌, ◌≤◌, length, drop}
use Rattle.wkt_form.specs.Reading.{with_tokens, nothing_read}
use Rattle.wkt_form.specs.Seen.{seen_from}
use Rattle.wkt_form.proofs.reading.read_tokens.Given as goal

-- the tokens that are left make of what is read what all tokens make of nothing
abbrev pub invariant-loop-token : goal.invariant-loop-token
invariant-loop-token l = record {
  same : with_tokens nothing_read (seen_from 0 l.bytes) ≡ with_tokens l.reader (seen_from l.at (drop l.at l.bytes));
  within : l.at ≤ length l.bytes;
}

abbrev pub decreases-loop-token : goal.decreases-loop-token
decreases-loop-token l = length l.bytes - l.at
