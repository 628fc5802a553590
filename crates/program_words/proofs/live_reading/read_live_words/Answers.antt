use Rattle.std.proofs.Common.{◌≡◌, ◌∙◌, codes, false, map, string_bytes, sym}
use Rattle.program_words.specs.LiveLine.{is_alone}
use Rattle.program_words.specs.Plans.{live_request_kept}
use Rattle.program_words.proofs.Live.{refused_run, to_run}
use Rattle.program_words.proofs.live_reading.read_live_words.Goals as goal

pub returns-in_err-plan-clause-refused : goal.returns-in_err-plan-clause-refused
returns-in_err-plan-clause-refused c =
    let words = map string_bytes c.args.words.now in
    let help : is_alone (codes "--help") words ≡ false = sym c.is_alone.ensures ∙ c.if-is_alone.false in
    let version : is_alone (codes "--version") words ≡ false = sym c.is_alone-2.ensures ∙ c.if-is_alone-2.false in
    refused_run words _ _ c.from_residual.ensures.1 c.in_err-plan.ensures.refused help version

pub returns-clause-ok : goal.returns-clause-ok
returns-clause-ok c = to_run (map string_bytes c.args.words.now) (live_request_kept c.in_ok-plan.plan) c.in_ok-plan.ensures.ok
