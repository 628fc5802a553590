use Rattle.wkt_form.proofs.OneMeaning.{spells_one_layer, has_one_fault, never_both}
use Rattle.wkt_form.proofs.laws.one_meaning.Goals as goal

pub returns : goal.returns
returns c = record { layer = spells_one_layer; fault = has_one_fault; never_both = never_both }
