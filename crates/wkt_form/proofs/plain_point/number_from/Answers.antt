use Rattle.std.proofs.Common.{rules}
use Rattle.wkt_form.proofs.PlainPoints.{number_next}
use Rattle.wkt_form.proofs.plain_point.number_from.Goals as goal

pub returns-in-Some : goal.returns-in-Some
returns-in-Some c =
    number_next c.in-Some.number c.args.bytes.now c.args.at c.past_space-start.result c.in-Some.size (search rules) (search rules) (search rules) c.in-Some.ensures
