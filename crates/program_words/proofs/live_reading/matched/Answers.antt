use Rattle.std.proofs.Common.{map}
use Rattle.std.proofs.lemmas.Result.{IfOk-weaker}
use Rattle.program_words.proofs.LiveLemmas.{faults_of_live_line, rows_of_live_line}
use Rattle.program_words.proofs.live_reading.matched.Goals as goal

pub returns-clause-found : goal.returns-clause-found
returns-clause-found c =
    IfOk-weaker c.try_get_matches_from.result _ _
    (λ m h. rows_of_live_line _ (map (λ word. word.now) c.args.words.now) _ _ c.in_ok-line.ensures h)
    c.try_get_matches_from.ensures.matches

pub returns-clause-faults : goal.returns-clause-faults
returns-clause-faults c =
    faults_of_live_line _ (map (λ word. word.now) c.args.words.now) c.try_get_matches_from.result c.in_ok-line.ensures c.try_get_matches_from.ensures.kinds
