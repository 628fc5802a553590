use Rattle.std.proofs.Common.{◌-◌, length, drop, Some, ap, arith, ◌∙◌, sym}
use Rattle.std.proofs.lemmas.List.{take_all, length-drop}
use Rattle.record_reading.specs.Added.{before}
use Rattle.record_reading.proofs.PointLemmas.{point_short}
use Rattle.record_reading.proofs.points.point_at.Goals as goal

pub returns-then-bytes-lt8 : goal.returns-then-bytes-lt8
returns-then-bytes-lt8 c = point_short c.args.bytes.now (omega arith)

pub returns-in-Some : goal.returns-in-Some
returns-in-Some c =
    let bytes = c.args.bytes.now in
    let rest = take_all (length bytes - 8) (drop 8 bytes) (omega (arith, length-drop 8 bytes)) in
    c.point_in.ensures ∙ ap (before (drop 8 bytes)) c.in-Some.is ∙ (λ i. Some (c.in-Some.point, sym rest i))
