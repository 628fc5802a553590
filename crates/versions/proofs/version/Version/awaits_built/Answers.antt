use Rattle.std.proofs.Common.{◌≡◌, map, ap, sym, subst, refl, ◌∙◌, ◌↔◌}
use Rattle.std.specs.Prelude.{IsTrue}
use Rattle.std.proofs.lemmas.Bool.{false≢true}
use Rattle.overlay_terms.specs.Commands.{stands_as_derived}
use Rattle.overlay_terms.specs.Tiles.{input_of}
use Rattle.arrange.specs.Marked.{marked_of}
use Rattle.layer_book.specs.Having.{part_in}
use Rattle.versions.specs.Finish.{IsPending}
use Rattle.versions.proofs.NextVersion.{awaited_by}
use Rattle.versions.proofs.version.Version.awaits_built.Goals as goal

pub returns-then-not-is_pending : goal.returns-then-not-is_pending
returns-then-not-is_pending c = (
  λ no. absurd (false≢true no),
  λ awaited. absurd (false≢true (sym c.if-not-is_pending.true ∙ c.is_pending.ensures.1 (subst (IsPending c.args.self.now c.args.name.now) (sym c.column-column.ensures.value) awaited.0))),
)

pub returns-then-is_present : goal.returns-then-is_present
returns-then-is_present c =
    let pending = subst (IsPending c.args.self.now c.args.name.now) c.column-column.ensures.value (c.is_pending.ensures.0 c.if-not-is_pending.false) in
    (λ _. (pending, c.requires.present c.if-is_present.true), λ _. refl)

pub has_part-requires : goal.has_part-requires
has_part-requires c =
    let pending = c.is_pending.ensures.0 c.if-not-is_pending.false in
    ap (λ ls. stands_as_derived ls c.args.name.now) c.layers.ensures.value ∙ pending.0

pub returns : goal.returns
returns c =
    let version = c.args.self.now in
    let name = c.args.name.now in
    let built = c.args.built.now in
    let pending = subst (IsPending version name) c.column-column.ensures.value (c.is_pending.ensures.0 c.if-not-is_pending.false) in
    let same : part_in c.column-column.result (map marked_of c.marked.result.now) c.steps.result.now ≡ built.0 =
    (λ i. part_in (c.column-column.ensures.value i) (c.marked.ensures.value i) (c.steps.ensures.value i)) ∙ c.pass-strip.ensures in
    awaited_by version name built.0 c.layers.result.now c.has_part.result pending.0 pending.1 c.layers.ensures.value
    (subst (λ k. IsTrue c.has_part.result ↔ (built.0 ≡ input_of c.layers.result.now name k)) c.column-column.ensures.value
    (subst (λ i. IsTrue c.has_part.result ↔ (i ≡ input_of c.layers.result.now name c.column-column.result)) same c.has_part.ensures))
