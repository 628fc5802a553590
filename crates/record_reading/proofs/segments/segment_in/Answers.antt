use Rattle.std.proofs.Common.{◌≡◌, ◌-◌, length, drop, Some, ap, arith, sym, ◌∙◌}
use Rattle.std.proofs.lemmas.List.{take_all, length-drop, drop-drop}
use Rattle.store_terms.specs.BaseRecord.{whole_point}
use Rattle.record_reading.specs.Added.{before}
use Rattle.record_reading.proofs.NamedPieceLemmas.{ends_read}
use Rattle.record_reading.proofs.segments.segment_in.Goals as goal

pub returns-in-Some-point_in : goal.returns-in-Some-point_in
returns-in-Some-point_in c =
    let bytes = c.args.bytes.now in
    let behind = take_all (length bytes - 8) (drop 8 bytes) (omega (arith, length-drop 8 bytes)) in
    let left = c.point_in.ensures ∙ ap (before (drop 8 bytes)) c.in-Some.is in
    let right : whole_point.read (drop 8 bytes) ≡ Some (c.in-Some-point_in.right, drop 8 (drop 8 bytes)) =
    (λ i. whole_point.read (sym behind i)) ∙ c.point_in-in-Some.ensures
    ∙ (λ i. before (drop 8 (behind i)) (c.in-Some-point_in.is i)) in
    ends_read bytes (drop 8 bytes) (drop 8 (drop 8 bytes)) c.in-Some.left c.in-Some-point_in.right left right
    ∙ (λ i. before (drop-drop 8 8 bytes i) (sym c.segment_of.ensures i))
