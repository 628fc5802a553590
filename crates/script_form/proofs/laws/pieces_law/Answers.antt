use Rattle.script_form.proofs.JoinLaws.{pieces_join, pieces_have_none}
use Rattle.script_form.proofs.laws.pieces_law.Goals as goal

pub returns : goal.returns
returns c = record { joined = pieces_join; none = pieces_have_none }
