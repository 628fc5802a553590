use Rattle.std.proofs.Common.{◌-◌, length, drop, Some, ap, arith, sym, ◌∙◌}
use Rattle.std.proofs.lemmas.List.{take_all, length-drop}
use Rattle.record_reading.specs.Added.{before}
use Rattle.record_reading.proofs.NamedPieceLemmas.{segment_short}
use Rattle.record_reading.proofs.segments.segment_at.Goals as goal

pub returns-then-bytes-lt16 : goal.returns-then-bytes-lt16
returns-then-bytes-lt16 c = segment_short c.args.bytes.now (omega arith)

pub returns-in-Some : goal.returns-in-Some
returns-in-Some c =
    let bytes = c.args.bytes.now in
    let rest = take_all (length bytes - 16) (drop 16 bytes) (omega (arith, length-drop 16 bytes)) in
    c.segment_in.ensures ∙ ap (before (drop 16 bytes)) c.in-Some.is ∙ (λ i. Some (c.in-Some.seg, sym rest i))
