use Rattle.std.proofs.Common.{◌≡◌, ◌+◌, ◌-◌, drop, sym, arith, rules, to_z, of_z, to_z-of_z}
use Rattle.std.specs.Int.{w128}
use Rattle.std.proofs.lemmas.List.{drop-set, length-set}
use Rattle.exact_point.specs.Place.{place}
use Rattle.version_core.proofs.LineLemmas.{text_and_rest}
use Rattle.version_core.proofs.place_text.put_place.Goals as goal

pub returns-clause-written : goal.returns-clause-written
returns-clause-written c =
    let p = c.args.point.now in
    let w = c.put_wide-w in
    let y = c.put_wide-y in
    let before_w : w.result - 1 + 1 ≡ w.result = omega arith in
    let before_y : y.result - 1 + 1 ≡ y.result = omega arith in
    let back_x : to_z w128 (of_z w128 p.x) ≡ p.x = search (rules, to_z-of_z) in
    let back_y : to_z w128 (of_z w128 p.y) ≡ p.y = search (rules, to_z-of_z) in
    let back_w : to_z w128 (of_z w128 p.w) ≡ p.w = search (rules, to_z-of_z) in
    rw (c.put_wide.ensures.written, drop-set y.new.bytes (y.result - 1) 32 (omega (arith, length-set w.new.bytes (w.result - 1) 32)), before_y, y.ensures.written, drop-set w.new.bytes (w.result - 1) 32 (omega arith), before_w, w.ensures.written, back_x, back_y, back_w)
    (sym (text_and_rest (place p) (drop c.args.end c.args.bytes.now)))
