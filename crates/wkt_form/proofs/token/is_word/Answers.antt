use Rattle.wkt_form.proofs.TokenLemmas.{word_test}
use Rattle.wkt_form.proofs.token.is_word.Goals as goal

pub returns : goal.returns
returns c = word_test _ c.args.word.now c.args.upper.now c.requires c.eq_ignore_ascii_case.ensures.test
