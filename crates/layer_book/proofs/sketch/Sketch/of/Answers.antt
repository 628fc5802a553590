use Rattle.std.proofs.Common.{sym, arith}
use Rattle.layer_book.proofs.Lines.{none_there}
use Rattle.layer_book.proofs.Sketches.{sketch_more}
use Rattle.layer_book.proofs.sketch.Sketch.of.Goals as goal
use Rattle.layer_book.proofs.sketch.Sketch.of.Goals.{in-Some, in_default}

pub loop-i-preserved : goal.loop-i-preserved
loop-i-preserved c =
    let layers = c.args.layers.now in
    elim c.match-at.branch [
      | in-Some w ↦
          rw w.entries-is
          (record {
            made = sketch_more layers c.loop-i.entries.items _ c.loop-i.i _ w.of.result (sym w.in-Some.ensures) w.of.ensures c.loop-i.invariant.made w.push.ensures.items;
            count = omega (arith, w.push.ensures.len, c.loop-i.invariant.count);
          })
      | in_default w ↦ absurd (none_there layers c.loop-i.i (omega (arith, c.len-i-end.ensures.value)) w.in_default.ensures)
    ]
