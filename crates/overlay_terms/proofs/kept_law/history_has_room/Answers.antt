use Rattle.overlay_terms.proofs.KeptHistories.{history_has_room}
use Rattle.overlay_terms.proofs.kept_law.history_has_room.Goals as goal

pub returns : goal.returns
returns c = history_has_room
