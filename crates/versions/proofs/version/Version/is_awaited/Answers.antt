use Rattle.std.proofs.Common.{ap, sym, subst, ◌∙◌}
use Rattle.std.proofs.lemmas.Bool.{false≢true}
use Rattle.overlay_terms.specs.Commands.{stands_as_derived}
use Rattle.overlay_terms.specs.Histories.{tile_at}
use Rattle.versions.specs.Finish.{IsPending}
use Rattle.versions.proofs.NextVersion.{awaited_by}
use Rattle.versions.proofs.version.Version.is_awaited.Goals as goal

pub returns-then-not-is_pending : goal.returns-then-not-is_pending
returns-then-not-is_pending c = (
  λ no. absurd (false≢true no),
  λ awaited. absurd (false≢true (sym c.if-not-is_pending.true ∙ c.is_pending.ensures.1 (subst (IsPending c.args.self.now c.args.name.now) (sym c.column.ensures.value) awaited.0))),
)

pub has_input-requires : goal.has_input-requires
has_input-requires c =
    let pending = c.is_pending.ensures.0 c.if-not-is_pending.false in
    ap (λ ls. stands_as_derived ls c.args.name.now) c.layers.ensures.value ∙ pending.0

pub returns : goal.returns
returns c =
    let version = c.args.self.now in
    let name = c.args.name.now in
    let pending = c.is_pending.ensures.0 c.if-not-is_pending.false in
    awaited_by version name c.args.input.now c.layers.result.now c.has_input.result
    pending.0 (ap (tile_at version.tiles name) (sym c.column.ensures.value) ∙ pending.1)
    c.layers.ensures.value c.has_input.ensures
