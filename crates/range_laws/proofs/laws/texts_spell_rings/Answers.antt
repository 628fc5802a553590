use Rattle.range_laws.proofs.Spelled.{texts_spell_rings}
use Rattle.range_laws.proofs.laws.texts_spell_rings.Goals as goal

pub returns : goal.returns
returns c = texts_spell_rings
