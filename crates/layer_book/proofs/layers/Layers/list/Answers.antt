use Rattle.std.proofs.Common.{sym, codes, decimal, length, arith}
use Rattle.layer_book.specs.Layer.{named_layer}
use Rattle.layer_book.proofs.Lines.{line_step, none_there}
use Rattle.layer_book.proofs.layers.Layers.list.Goals as goal
use Rattle.layer_book.proofs.layers.Layers.list.Goals.{in-Some+in_ok-add_line-in-Some, in-None}

pub loop-i-preserved : goal.loop-i-preserved
loop-i-preserved c =
    elim c.match-at.branch [
      | in-Some+in_ok-add_line-in-Some w ↦
          rw w.text-is (line_step (codes "layers ") (decimal (length c.args.self.now)) c.args.self.now c.loop-i.i (named_layer (w.in-Some.name.now, w.in-Some.layer.now)) c.loop-i.text.items w.add_line.new.text.items (sym w.in-Some.ensures) c.loop-i.invariant w.in_ok-add_line-in-Some.ensures)
      | in-None w ↦ absurd (none_there c.args.self.now c.loop-i.i (omega (arith, c.len-count.ensures.value)) w.in-None.ensures)
    ]
