use Rattle.std.proofs.Common.{◌∙◌, sym, ap, refl, arith}
use Rattle.overlay_terms.specs.Plane.{segments_of}
use Rattle.layer_book.specs.Having.{marks_in, past}
use Rattle.layer_book.specs.Layer.{content}
use Rattle.layer_book.proofs.MarkedLayers.{read_mark}
use Rattle.layer_book.proofs.Lines.{none_there}
use Rattle.layer_book.proofs.HavingLemmas.{unwanted_passed, derived_passed, base_passed, base_other, all_passed, left_in}
use Rattle.layer_book.proofs.layers.Layers.has_marked.Goals as goal
use Rattle.layer_book.proofs.layers.Layers.has_marked.Goals.{in-Some+then-wanted-i+in-Base+in-Some-end_of, in-Some+then-wanted-i+in_default-layer, in-Some+else-wanted-i, in_default}

pub loop-i-init : goal.loop-i-init
loop-i-init c = record { few = omega arith; told = refl }

pub loop-i-preserved : goal.loop-i-preserved
loop-i-preserved c =
    let column = c.args.column in
    let ws = c.args.wanted.now in
    let layers = c.args.self.now in
    let marked = c.args.marked.now in
    let i = c.loop-i.i in
    let number = c.loop-i.number in
    let next = c.loop-i.next in
    elim c.match-at.branch [
      | in-Some+then-wanted-i+in-Base+in-Some-end_of w ↦
          rw (w.next-is, w.number-is)
          (record {
            few = omega (arith, c.loop-i.invariant.few);
            told = base_passed column ws layers marked _ i number next c.loop-i.invariant.told _ _ w.in-Some-end_of.end (sym w.in-Some.ensures) (read_mark ws i ∙ w.if-wanted-i.true) (ap content w.in-Base.is)
                (w.in-Some-end_of.ensures ∙ ap (λ ss. past (marks_in column number ss) (left_in column marked next)) (w.segs.ensures.value ∙ ap segments_of w.deref.ensures));
          })
      | in-Some+then-wanted-i+in_default-layer w ↦
          rw (w.next-is, w.number-is)
          (record {
            few = omega (arith, c.loop-i.invariant.few);
            told = derived_passed column ws layers marked _ i number next c.loop-i.invariant.told _ _ (sym w.in-Some.ensures) (read_mark ws i ∙ w.if-wanted-i.true) (ap content w.in_default-layer.is);
          })
      | in-Some+else-wanted-i w ↦
          rw (w.next-is, w.number-is)
          (record {
            few = omega (arith, c.loop-i.invariant.few);
            told = unwanted_passed column ws layers marked _ i number next c.loop-i.invariant.told _ (sym w.in-Some.ensures) (read_mark ws i ∙ w.if-wanted-i.false);
          })
      | in_default w ↦ absurd (none_there layers i (omega (arith, c.len-i-end.ensures.value)) w.in_default.ensures)
    ]

pub returns-in_default-end_of : goal.returns-in_default-end_of
returns-in_default-end_of c =
    let column = c.args.column in
    let ws = c.args.wanted.now in
    let layers = c.args.self.now in
    let marked = c.args.marked.now in
    let i = c.loop-i.i in
    let number = c.loop-i.number in
    let next = c.loop-i.next in
    base_other column ws layers marked _ i number next c.loop-i.invariant.told _ _ (sym c.in-Some.ensures) (read_mark ws i ∙ c.if-wanted-i.true) (ap content c.in-Base.is)
    (c.in_default-end_of.ensures ∙ ap (λ ss. past (marks_in column number ss) (left_in column marked next)) (c.segs.ensures.value ∙ ap segments_of c.deref.ensures))

pub returns : goal.returns
returns c = all_passed c.args.column c.args.wanted.now c.args.self.now c.args.marked.now _ c.loop-i.i c.loop-i.number c.loop-i.next c.loop-i.invariant.told c.first_marked.result c.first_marked.ensures.same c.first_marked.ensures.there (omega (arith, c.len-i-end.ensures.value))
