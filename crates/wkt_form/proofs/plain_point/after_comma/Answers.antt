use Rattle.std.proofs.Common.{rules}
use Rattle.wkt_form.proofs.PlainPoints.{comma_next}
use Rattle.wkt_form.proofs.plain_point.after_comma.Goals as goal

pub returns-then-bytes-at-eq44 : goal.returns-then-bytes-at-eq44
returns-then-bytes-at-eq44 c = comma_next c.args.bytes.now c.args.at (search rules) (search rules)
