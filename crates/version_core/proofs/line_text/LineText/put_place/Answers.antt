use Rattle.std.proofs.Common.{◌-◌, length, drop, length-append, ap, ◌∙◌, arith}
use Rattle.std.proofs.lemmas.List.{length-drop}
use Rattle.exact_point.specs.Place.{place}
use Rattle.version_core.specs.Edges.{point_text}
use Rattle.version_core.proofs.LineLemmas.{text_between}
use Rattle.version_core.proofs.line_text.LineText.put_place.Goals as goal

pub returns-clause-alone : goal.returns-clause-alone
returns-clause-alone c =
    let line = c.self.inside in
    let put = c.put_place-self-inside in
    let text = point_text (place c.args.point.now) in
    let rest = drop line.start line.bytes in
    let left = length-drop line.start line.bytes in
    let same = ap length c.self.view_is in
    let after = length-drop put.result put.new.bytes in
    let written = ap length put.ensures.written in
    let both = length-append text rest in
    c.of.ensures
    ∙ text_between put.new.bytes text rest (line.start - 64) line.start put.result (omega (arith, left, same)) (omega (arith, left, same)) (omega (arith, left, same)) put.ensures.written (omega (arith, left, same, after, written, both))
