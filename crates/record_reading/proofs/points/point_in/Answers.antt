use Rattle.std.proofs.Common.{◌≡◌, ◌-◌, length, drop, Some, refl, arith, rules, sym, subst, ◌∙◌, to_z, of_z}
use Rattle.std.specs.Int.{w64}
use Rattle.std.proofs.lemmas.Bool.{false≢true}
use Rattle.std.proofs.lemmas.List.{take_all, length-drop}
use Rattle.overlay_terms.specs.Plane.{InRange}
use Rattle.record_reading.specs.Added.{number_in}
use Rattle.record_reading.proofs.PointLemmas.{point_read, point_out}
use Rattle.record_reading.proofs.points.point_in.Goals as goal

pub returns-in-Ok : goal.returns-in-Ok
returns-in-Ok c =
    let bytes = c.args.bytes.now in
    let behind = take_all (length bytes - 4) (drop 4 bytes) (omega (arith, length-drop 4 bytes)) in
    let first : to_z w64 (of_z w64 c.coordinate_in.result) ≡ c.coordinate_in.result = search rules in
    let second : to_z w64 (of_z w64 c.coordinate_in-2.result) ≡ c.coordinate_in-2.result = search rules in
    let within = c.in-Ok.ensures.in_range.0 refl in
    let x = first ∙ c.coordinate_in.ensures.value (subst InRange first within.0) in
    let y = second ∙ c.coordinate_in-2.ensures.value (subst InRange second within.1) ∙ (λ i. number_in (behind i)) in
    let made : c.in-Ok.point ≡ record { x = number_in bytes; y = number_in (drop 4 bytes) } =
    c.in-Ok.ensures.ok ∙ (λ i. record { x = x i; y = y i }) in
    point_read bytes c.requires (subst InRange x within.0) (subst InRange y within.1) ∙ (λ i. Some (sym made i, drop 8 bytes))

pub returns-in-Err : goal.returns-in-Err
returns-in-Err c =
    let bytes = c.args.bytes.now in
    let behind = take_all (length bytes - 4) (drop 4 bytes) (omega (arith, length-drop 4 bytes)) in
    let first : to_z w64 (of_z w64 c.coordinate_in.result) ≡ c.coordinate_in.result = search rules in
    let second : to_z w64 (of_z w64 c.coordinate_in-2.result) ≡ c.coordinate_in-2.result = search rules in
    point_out bytes c.requires (λ within.
    let x = c.coordinate_in.ensures.in_range.1 within.0 in
    let y = c.coordinate_in-2.ensures.in_range.1 (subst InRange (λ i. number_in (sym behind i)) within.1) in
    false≢true (c.in-Err.ensures.in_range.1 (subst InRange (sym first) x, subst InRange (sym second) y)))
