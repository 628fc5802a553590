use Rattle.program_words.proofs.Live.{ask_once}
use Rattle.program_words.proofs.laws.words_ask_once.Goals as goal

pub returns : goal.returns
returns c = ask_once
