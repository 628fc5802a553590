use Rattle.std.proofs.Common.{◌++◌, length, drop, ap, ◌∙◌, arith}
use Rattle.std.proofs.lemmas.List.{length-drop}
use Rattle.version_core.proofs.LineLemmas.{text_before}
use Rattle.version_core.proofs.line_text.LineText.put_text.Goals as goal

pub returns-clause-text : goal.returns-clause-text
returns-clause-text c =
    let line = c.self.inside in
    let start = c.parts-start.result.1 in
    let long = length-drop line.start line.bytes in
    let same = ap length c.self.view_is in
    text_before line.bytes c.copy_from_slice.new.self line.start start (omega (arith, long, same)) (omega (arith, long, same)) (omega (arith, ap length c.copy_from_slice.ensures.after)) (omega arith)
    ∙ ap (λ ys. drop start ys ++ drop line.start line.bytes) c.copy_from_slice.ensures.after ∙ ap (λ t. t ++ drop line.start line.bytes) c.parts-start.ensures.text ∙ ap (λ t. c.args.text.now ++ t) c.self.view_is
