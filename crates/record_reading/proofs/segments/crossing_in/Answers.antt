use Rattle.std.proofs.Common.{◌-◌, length, take, drop, rules, ap, arith, ◌∙◌}
use Rattle.record_reading.specs.Added.{before}
use Rattle.record_reading.proofs.NamedPieceLemmas.{crossing_read}
use Rattle.record_reading.proofs.segments.crossing_in.Goals as goal

pub returns-in-Some-segment_in-clause-value : goal.returns-in-Some-segment_in-clause-value
returns-in-Some-segment_in-clause-value c =
    let bytes = c.args.bytes.now in
    crossing_read bytes c.in-Some.first c.in-Some-segment_in.second (omega (arith, c.if-bytes-lt33.false)) (search rules)
    (c.segment_in.ensures ∙ ap (before (drop 16 (take (length bytes - 1) (drop 1 bytes)))) c.in-Some.is)
    (c.segment_in-in-Some.ensures ∙ ap (before (drop 16 (take (length bytes - 17) (drop 17 bytes)))) c.in-Some-segment_in.is)
