use Rattle.wkt_form.proofs.TokenLemmas.{seen_past_blanks, visible_past_blanks}
use Rattle.wkt_form.proofs.token.past_blanks.Goals as goal

pub returns-clause-same : goal.returns-clause-same
returns-clause-same c = seen_past_blanks c.args.bytes.now c.args.at _ c.blank_count.ensures.value

pub returns-clause-visible : goal.returns-clause-visible
returns-clause-visible c = visible_past_blanks c.args.bytes.now c.args.at _ c.blank_count.ensures.value
