use Rattle.std.proofs.Common.{inl, inr, arith}
use Rattle.feature_jobs.proofs.RowLemmas.{points_are, no_reply, of_ok}
use Rattle.feature_jobs.proofs.running.answer.Goals as goal

pub returns-in-Ok-clause-reply : goal.returns-in-Ok-clause-reply
returns-in-Ok-clause-reply c = inl c.in-Ok.ensures.answered

pub returns-in-Ok-clause-points : goal.returns-in-Ok-clause-points
returns-in-Ok-clause-points c = points_are c.args.block.now c.in-Ok.reply c.in-Ok.ensures.answered

pub returns-in-Err-clause-reply : goal.returns-in-Err-clause-reply
returns-in-Err-clause-reply c = of_ok c.refused_for.result (λ reply is. inr (c.in-Err.fault, is)) c.refused_for.ensures.reply

pub returns-in-Err-clause-points : goal.returns-in-Err-clause-points
returns-in-Err-clause-points c = no_reply c.args.block.now c.refused_for.result (λ is. c.refused_for.ensures.memory (c.in-Err.ensures.points (omega (arith, is))))
