use Rattle.std.proofs.Common.{◌≤◌, List, length, map, sym, ◌∙◌, subst, arith}
use Rattle.std.specs.Prelude.{slice_range}
use Rattle.std.proofs.lemmas.List.Sorted.{IsPermutation-sym}
use Rattle.overlay_terms.specs.Layers.{Marked}
use Rattle.arrange.specs.Marked.{marked_of}
use Rattle.arrange.specs.LineEnds.{AreOnOneLine}
use Rattle.arrange.specs.Lines.{line_marked}
use Rattle.arrange.specs.AddedUnits.{HasAddedUnits}
use Rattle.arrange.specs.declared.line_seg.LineSeg.{LineSeg}
use Rattle.arrange.specs.declared.unit.Unit.{Unit}
use Rattle.arrange.proofs.LineLemmas.{HaveLines, IsRun, have_next_line, have_all_lines}
use Rattle.arrange.proofs.RunLemmas.{run_on_one_line}
use Rattle.arrange.proofs.UnitParts.{units_permuted}
use Rattle.arrange.proofs.finding_units.units_of.Goals as goal

pub add_units-requires : goal.add_units-requires
add_units-requires c =
    let start = c.loop-start.start in
    let end = c.line_end-end.result in
    let found : IsRun c.deref.result.now start end =
    record { after = c.line_end-end.ensures.after; within = c.line_end-end.ensures.within; same = c.line_end-end.ensures.same; next = c.line_end-end.ensures.next } in
    subst (λ (xs : List LineSeg). AreOnOneLine (slice_range xs start end)) (c.deref.ensures.value ∙ sym c.deref-in-loop-start.ensures.value) (run_on_one_line c.deref.result.now start end found)

pub loop-start-preserved : goal.loop-start-preserved
loop-start-preserved c =
    let lines : List LineSeg = c.in_ok-lines.lines.items in
    let start = c.loop-start.start in
    let end = c.line_end-end.result in
    let found : IsRun c.deref.result.now start end =
    record { after = c.line_end-end.ensures.after; within = c.line_end-end.ensures.within; same = c.line_end-end.ensures.same; next = c.line_end-end.ensures.next } in
    let run : IsRun lines start end = subst (λ (xs : List LineSeg). IsRun xs start end) c.deref.ensures.value found in
    let added : HasAddedUnits (map line_marked (slice_range lines start end)) c.loop-start.list.items c.add_units.new.list.items =
    subst (λ (xs : List LineSeg). HasAddedUnits (map line_marked (slice_range xs start end)) c.loop-start.list.items c.add_units.new.list.items) c.deref-in-loop-start.ensures.value c.in_ok-add_units.ensures in
    subst (λ (us : List Unit). HaveLines lines end us) (sym added.added)
    (have_next_line lines c.in_ok-lines.ensures.sorted start end c.loop-start.list.items added.more c.loop-start.invariant run added.are)

pub returns : goal.returns
returns c =
    let lines : List LineSeg = c.in_ok-lines.lines.items in
    let full : length lines ≤ c.loop-start.start = omega arith in
    let marked : List Marked = map marked_of c.args.marked.now in
    units_permuted (map line_marked lines) marked c.loop-start.list.items (IsPermutation-sym marked (map line_marked lines) c.in_ok-lines.ensures.moved) c.requires.proper
    (have_all_lines lines c.loop-start.start c.loop-start.list.items full c.loop-start.invariant)
