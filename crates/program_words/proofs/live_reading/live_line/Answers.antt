use Rattle.std.proofs.Common.{ap₂, ◌∙◌}
use Rattle.std.proofs.lemmas.Result.{IfOk-weaker}
use Rattle.clap.specs.Words.{with_rule}
use Rattle.program_words.specs.LiveLine.{live_line}
use Rattle.program_words.proofs.live_reading.live_line.Goals as goal

pub returns : goal.returns
unfolding live_line
returns c =
    let one = c.in_ok-arg.ensures.shape c.option.ensures.local ∙ ap₂ with_rule c.new.ensures.app c.option.ensures.rule in
    let two = c.in_ok-arg-2.ensures.shape c.flag.ensures.local ∙ ap₂ with_rule one c.flag.ensures.rule in
    let three = c.in_ok-arg-3.ensures.shape c.flag-2.ensures.local ∙ ap₂ with_rule two c.flag-2.ensures.rule in
    let four = c.in_ok-arg-4.ensures.shape c.option-2.ensures.local ∙ ap₂ with_rule three c.option-2.ensures.rule in
    let five = c.in_ok-arg-5.ensures.shape c.option-3.ensures.local ∙ ap₂ with_rule four c.option-3.ensures.rule in
    IfOk-weaker c.arg-6.result _ _ (λ line added. added.shape c.others.ensures.local ∙ ap₂ with_rule five c.others.ensures.rule) c.arg-6.ensures
