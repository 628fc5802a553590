use Rattle.std.proofs.Common.{◌-◌, ◌≤◌, length, drop, arith}
use Rattle.std.proofs.lemmas.List.{take_all, length-drop}
use Rattle.block_reading.proofs.heading.after_head.Goals as goal

pub returns : goal.returns
returns c = take_all (length c.args.bytes.now - 56) (drop 56 c.args.bytes.now) (omega (arith, length-drop 56 c.args.bytes.now))
