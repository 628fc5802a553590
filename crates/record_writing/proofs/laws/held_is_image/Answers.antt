use Rattle.record_writing.proofs.StoredLemmas as lemmas
use Rattle.record_writing.proofs.laws.held_is_image.Goals as goal

pub returns : goal.returns
returns c = lemmas.held_is_image
