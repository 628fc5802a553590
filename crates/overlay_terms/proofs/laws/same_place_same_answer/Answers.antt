use Rattle.overlay_terms.proofs.PlaceLemmas.{same_place_same_answer}
use Rattle.overlay_terms.proofs.laws.same_place_same_answer.Goals as goal

pub returns : goal.returns
returns c = same_place_same_answer
