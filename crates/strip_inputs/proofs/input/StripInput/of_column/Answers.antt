use Rattle.std.proofs.Common.{◌≡◌, ◌≤◌, length, map, ap, subst, sym, ◌∙◌}
use Rattle.arrange.specs.Marked.{marked_of, segments_max}
use Rattle.crossing_sweep.specs.StripInput.{strip_of, IsStripInput, Span, StripInput}
use Rattle.strip_inputs.proofs.Own.{own_strip}
use Rattle.strip_inputs.proofs.input.StripInput.of_column.Goals as goal

pub by-requires : goal.by-requires
by-requires c =
    let strip = c.new-strip.ensures ∙ ap (λ k. record { first = k; last = k }) c.column-column.ensures.value in
    let marked = ap (map marked_of) c.in_ok-marked.ensures ∙ c.marked.ensures.value in
    let steps = c.in_ok-steps.ensures ∙ c.steps.ensures.value in
    let is : record { strip = c.new-strip.result; marked = map marked_of c.in_ok-marked.marked.items; steps = c.in_ok-steps.steps } ≡ strip_of c.args.input.now =
    λ i. record { strip = strip i; marked = marked i; steps = steps i } in
    (subst IsStripInput (sym is) (own_strip c.args.input.now c.column-column.ensures.valid), subst (λ ms. length ms ≤ segments_max) (sym marked) c.marked.ensures.fits)

pub returns : goal.returns
returns c =
    let strip = c.new-strip.ensures ∙ ap (λ k. record { first = k; last = k }) c.column-column.ensures.value in
    let marked = ap (map marked_of) c.in_ok-marked.ensures ∙ c.marked.ensures.value in
    let steps = c.in_ok-steps.ensures ∙ c.steps.ensures.value in
    c.in_ok-own.ensures ∙ (λ i. record { strip = strip i; marked = marked i; steps = steps i })
