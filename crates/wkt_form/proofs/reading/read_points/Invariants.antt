use Rattle.std.proofs.Common.{◌≡◌, ◌-◌, ◌≤◌, length, drop}
use Rattle.wkt_form.specs.declared.state.State.TheVariants as states
use Rattle.wkt_form.specs.Reading.{with_tokens}
use Rattle.wkt_form.specs.Seen.{seen_from}
use Rattle.wkt_form.proofs.reading.read_points.Given as goal

-- the tokens that are left make of what is read what those from the start made of what was read there
abbrev pub invariant-loop-found : goal.invariant-loop-found
invariant-loop-found l = record {
  same : with_tokens l.initial.reader (seen_from l.start (drop l.start l.bytes)) ≡ with_tokens l.reader (seen_from l.at (drop l.at l.bytes));
  due : l.reader.state ≡ states.First;
  on : l.start ≤ l.at;
  within : l.at ≤ length l.bytes;
}

abbrev pub decreases-loop-found : goal.decreases-loop-found
decreases-loop-found l = length l.bytes - l.at
