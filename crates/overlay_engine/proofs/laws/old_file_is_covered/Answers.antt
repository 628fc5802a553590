use Rattle.overlay_engine.proofs.OldFiles as lemmas
use Rattle.overlay_engine.proofs.laws.old_file_is_covered.Goals as goal

pub returns : goal.returns
returns c = lemmas.old_file_is_covered
