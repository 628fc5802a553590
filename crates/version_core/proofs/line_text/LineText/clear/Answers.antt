use Rattle.std.proofs.Common.{arith}
use Rattle.std.proofs.lemmas.List.{drop_all}
use Rattle.version_core.proofs.line_text.LineText.clear.Goals as goal

pub returns : goal.returns
returns c = drop_all 192 c.self.inside.bytes (omega arith)
