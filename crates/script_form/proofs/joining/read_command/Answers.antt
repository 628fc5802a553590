use Rattle.script_form.proofs.OpenBatchLemmas.{put_unread}
use Rattle.script_form.proofs.joining.read_command.Goals as goal

pub returns-in-Put-clause-refused : goal.returns-in-Put-clause-refused
returns-in-Put-clause-refused c = rw c.in-Put.is (put_unread c.in-Put.name.now c.in-Put.text.now c.read_put.result c.read_put.ensures.refused)
