use Rattle.overlay_engine.proofs.Opened as lemmas
use Rattle.overlay_engine.proofs.laws.recovered_answers.Goals as goal

pub returns : goal.returns
returns g c = lemmas.recovered_answers g.D.Disk
