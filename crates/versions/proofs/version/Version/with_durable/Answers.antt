use Rattle.std.proofs.Common.{◌∙◌, arith}
use Rattle.layer_tiles.specs.Table.{laid}
use Rattle.versions.specs.Laid.{numbered}
use Rattle.versions.proofs.NextVersion.{laid_is_version, laid_out}
use Rattle.versions.proofs.version.Version.with_durable.Goals as goal

pub of-requires : goal.of-requires
of-requires c =
    laid_is_version c.number-number.result c.args.durable (laid c.in_ok-table.table.value) c.number-number.ensures.small (omega (arith, c.number-number.ensures.value, c.requires)) c.in_ok-table.ensures.valid

pub returns : goal.returns
returns c = c.of.ensures ∙ (λ i. numbered (c.number-number.ensures.value i) (laid_out c.in_ok-table.table.value c.args.self.now c.in_ok-table.ensures.layers c.in_ok-table.ensures.tiles i) c.args.durable)
