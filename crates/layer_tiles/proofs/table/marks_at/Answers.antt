use Rattle.layer_tiles.proofs.LookLemmas.{marks_read, marks_missed}
use Rattle.layer_tiles.proofs.table.marks_at.Goals as goal

pub returns-in-Some : goal.returns-in-Some
returns-in-Some c = marks_read c.args.touched.now c.args.place c.in-Some.marks.now c.in-Some.ensures.lookup.3.0 c.in-Some.ensures.lookup.1

pub returns-in-None : goal.returns-in-None
returns-in-None c = marks_missed c.args.touched.now c.args.place c.in-None.ensures.lookup.3
