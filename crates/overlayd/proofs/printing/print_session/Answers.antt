use Rattle.std.proofs.Common.{◌∙◌, sym, subst}
use Rattle.std.specs.Io.KnownBytes.{Appends}
use Rattle.script_form.specs.Writing.{Writes}
use Rattle.overlayd.specs.Printing.{script_line, replies_of}
use Rattle.overlayd.proofs.PrintLemmas.{writes_first, writes_next}
use Rattle.overlayd.proofs.printing.print_session.Goals as goal
use Rattle.overlayd.proofs.printing.print_session.Goals.{then-several+in_ok-write_text, else-several}

pub returns-in_err-write_text : goal.returns-in_err-write_text
returns-in_err-write_text g c =
    let (front, cut, appended) = c.in_err-write_text.ensures.writes in
    let same = c.as_bytes.ensures.value ∙ c.as_str.ensures.value ∙ c.script_line.ensures in
    rw c.if-several.true
    (writes_first c.from_residual.result c.in_err-write_text.field-0.0 _ _ _ (script_line c.args.number) (replies_of c.args.session.now) front c.from_residual.ensures.1 same cut appended)

pub returns : goal.returns
returns g c =
    let new = g.W.Write.contents c.write_text-2.new.writer in
    let next = subst (λ t. Writes c.write_text-2.result (g.W.Write.contents c.if-several.output) new t) c.as_slice.ensures.value c.write_text-2.ensures.writes in
    elim c.if-several.branch [
      | then-several+in_ok-write_text w ↦
          let same = w.as_bytes.ensures.value ∙ w.as_str.ensures.value ∙ w.script_line.ensures in
          let before = subst (λ o. Appends (g.W.Write.contents c.args.output.now) (g.W.Write.contents o) w.as_bytes.result.now) (sym w.output-is) w.in_ok-write_text.ensures.writes in
          rw w.if-several.true (writes_next c.write_text-2.result _ _ new _ (script_line c.args.number) (replies_of c.args.session.now) same before next)
      | else-several w ↦
          rw w.if-several.false (subst (λ o. Writes c.write_text-2.result (g.W.Write.contents o) new (replies_of c.args.session.now)) w.output-is next)
    ]
