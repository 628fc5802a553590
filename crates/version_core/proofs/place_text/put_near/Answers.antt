use Rattle.std.proofs.Common.{◌≡◌, ◌+◌, ◌-◌, drop, sym, arith, rules, to_z, of_z, to_z-of_z}
use Rattle.std.specs.Int.{w64}
use Rattle.std.proofs.lemmas.List.{drop-set, length-set}
use Rattle.exact_point.specs.Place.{place}
use Rattle.version_core.proofs.LineLemmas.{text_and_rest}
use Rattle.version_core.proofs.place_text.put_near.Goals as goal

pub returns-clause-written : goal.returns-clause-written
returns-clause-written c =
    let p = c.args.point in
    let w = c.put_number-w in
    let y = c.put_number-y in
    let before_w : w.result - 1 + 1 ≡ w.result = omega arith in
    let before_y : y.result - 1 + 1 ≡ y.result = omega arith in
    let back_x : to_z w64 (of_z w64 c.x.result) ≡ p.x = search (rules, to_z-of_z, c.x.ensures) in
    let back_y : to_z w64 (of_z w64 c.y.result) ≡ p.y = search (rules, to_z-of_z, c.y.ensures) in
    let back_w : to_z w64 (of_z w64 c.w.result) ≡ p.w = search (rules, to_z-of_z, c.w.ensures) in
    rw (c.put_number.ensures.written, drop-set y.new.bytes (y.result - 1) 32 (omega (arith, length-set w.new.bytes (w.result - 1) 32)), before_y, y.ensures.written, drop-set w.new.bytes (w.result - 1) 32 (omega arith), before_w, w.ensures.written, back_x, back_y, back_w)
    (sym (text_and_rest (place p) (drop c.args.end c.args.bytes.now)))
