use Rattle.wkt_form.proofs.Deciding.{read_or_refused}
use Rattle.wkt_form.proofs.laws.read_or_refused.Goals as goal

pub returns : goal.returns
returns c = read_or_refused
