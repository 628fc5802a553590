use Rattle.std.proofs.Common.{length, ap, arith}
use Rattle.std.proofs.lemmas.List.{length-drop}
use Rattle.version_core.proofs.line_text.LineText.put_coordinate.Goals as goal

pub put_number-self-inside-requires-clause-room : goal.put_number-self-inside-requires-clause-room
put_number-self-inside-requires-clause-room c = omega (arith, length-drop c.self.inside.start c.self.inside.bytes, ap length c.self.view_is, ap length c.put_byte.ensures)
