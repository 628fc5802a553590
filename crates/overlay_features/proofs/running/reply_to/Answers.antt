use Rattle.overlay_features.proofs.ReplyLemmas.{answered_so}
use Rattle.overlay_features.proofs.running.reply_to.Goals as goal

pub returns-in-Ok-answer : goal.returns-in-Ok-answer
returns-in-Ok-answer c =
    answered_so c.args.bytes.now c.in-Ok.block c.in-Ok-answer.reply c.in-Ok.ensures.block c.in-Ok-answer.ensures.reply c.in-Ok-answer.ensures.points
