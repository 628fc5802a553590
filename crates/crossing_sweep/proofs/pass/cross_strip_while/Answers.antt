use Rattle.std.proofs.Common.{◌≡◌, ◌⊎◌, ◌<◌, ◌≤◌, Bool, IfSome, subst, ◌∙◌, arith}
use Rattle.crossing_sweep.specs.PassState.{PassState}
use Rattle.crossing_sweep.specs.StripInput.{StripInput}
use Rattle.crossing_sweep.specs.StripCrossed.{IsStripCrossed}
use Rattle.crossing_sweep.proofs.pass.cross_strip_while.Goals as goal

pub returns-clause-found : goal.returns-clause-found
returns-clause-found g c =
    let cap = c.args.cap in
    let before : PassState = c.in_ok-pass.pass in
    let input = subst (λ o. IfSome o (λ (p : PassState). p.input ≡ before.input)) c.in-Some.is c.in_ok-done.ensures.input ∙ c.in_ok-pass.ensures.input in
    let listed = subst (λ o. IfSome o (λ (p : PassState). p.listed ≡ before.listed)) c.in-Some.is c.in_ok-done.ensures.listed ∙ c.in_ok-pass.ensures.listed in
    let ended = subst (λ o. IfSome o (λ (p : PassState). (p.ahead ≡ 0) ⊎ (cap < p.rows))) c.in-Some.is c.in_ok-done.ensures.ended in
    let settled = subst (λ o. IfSome o (λ (p : PassState). before.settled ≤ cap → p.settled ≤ cap)) c.in-Some.is c.in_ok-done.ensures.settled in
    let few : before.settled ≤ cap = omega (arith, c.in_ok-pass.ensures.settled) in
    subst (λ (i : StripInput). IsStripCrossed i cap c.args.listed c.in_ok-found.found) input
    (subst (λ (b : Bool). IsStripCrossed c.in-Some.pass.input cap b c.in_ok-found.found) listed
    (c.in_ok-found.ensures cap ended (settled few)))
