use Rattle.std.proofs.Common.{◌≡◌, ◌≤◌, true, List, map, ap, sym, ◌∙◌, subst, arith}
use Rattle.overlay_terms.specs.Layers.{Layer, layers_in_reach, steps_in_reach}
use Rattle.overlay_terms.specs.Commands.{stands}
use Rattle.overlay_terms.proofs.KeptDerived.{derived_stands}
use Rattle.crossing_sweep.specs.StripInput.{Span}
use Rattle.layer_book.proofs.MarkedLayers.{rings_of}
use Rattle.layer_book.proofs.InputReach.{bases_counted}
use Rattle.version_book.proofs.StripLemmas.{handed_part, part_present}
use Rattle.version_book.proofs.strips.strip_parts.Goals as goal

pub bases_in_reach-requires : goal.bases_in_reach-requires
bases_in_reach-requires c =
    subst (λ (l : List Layer). stands l c.args.name.now ≡ true) (sym c.layers-book.ensures.value) (derived_stands c.args.version.now.layers c.args.name.now c.requires.pending.0)

pub steps_in_reach-requires : goal.steps_in_reach-requires
steps_in_reach-requires c =
    subst (λ (l : List Layer). stands l c.args.name.now ≡ true) (sym c.layers-book.ensures.value) (derived_stands c.args.version.now.layers c.args.name.now c.requires.pending.0)

pub of-requires : goal.of-requires
of-requires c =
    bases_counted (λ b. b.now) c.layers-book.result.now c.args.name.now c.as_slice-bases.result.now c.in_ok-steps.steps
    (ap (map (λ b. b.now)) c.as_slice-bases.ensures.value ∙ c.in_ok-found.ensures) c.in_ok-steps.ensures

pub returns : goal.returns
returns c =
    let version = c.args.version.now in
    let name = c.args.name.now in
    let held = c.args.held.now.list.items in
    let bases : map (λ b. b.now) c.as_slice-bases.result.now ≡ rings_of (layers_in_reach version.layers name) =
    ap (map (λ b. b.now)) c.as_slice-bases.ensures.value ∙ c.in_ok-found.ensures ∙ ap (λ (l : List Layer). rings_of (layers_in_reach l name)) c.layers-book.ensures.value in
    let steps : c.in_ok-steps.steps ≡ steps_in_reach version.layers name = c.in_ok-steps.ensures ∙ ap (λ (l : List Layer). steps_in_reach l name) c.layers-book.ensures.value in
    let first : c.in_ok-input.input.strip.first ≡ c.args.first = ap (λ s. s.first) (c.in_ok-input.ensures.strip ∙ c.new.ensures) in
    let last : c.in_ok-input.input.strip.last ≡ c.last_free-last.result = ap (λ s. s.last) (c.in_ok-input.ensures.strip ∙ c.new.ensures) in
    record {
      name = c.in_ok-copy.ensures.cases;
      first = first;
      each = λ k low high.
          handed_part version held name c.in_ok-input.input k (c.last_free-last.ensures.free k (omega (arith, low, first)) (omega (arith, high, last)))
          (part_present version.layers name k _ c.in_ok-steps.steps _ bases steps (c.in_ok-input.ensures.part k (subst (λ (s : Span). s.first ≤ k) c.in_ok-input.ensures.strip low) (subst (λ (s : Span). k ≤ s.last) c.in_ok-input.ensures.strip high)));
    }
