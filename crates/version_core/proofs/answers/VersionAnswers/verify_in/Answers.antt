use Rattle.std.proofs.Common.{true, false}
use Rattle.tile_build.specs.Tile.{tile_of}
use Rattle.version_core.proofs.VerdictLemmas.{is_verdict}
use Rattle.version_core.proofs.answers.VersionAnswers.verify_in.Goals as goal

pub returns-then-is_same-clause-same : goal.returns-then-is_same-clause-same
returns-then-is_same-clause-same c =
    is_verdict c.args.self.now c.args.name.now c.args.column c.in_ok-column.column (tile_of c.in_ok-held.held.now) (tile_of c.in_ok-built.built) true
    c.in_ok-column.ensures.ok c.in_ok-held.ensures.ok c.in_ok-built.ensures c.if-is_same.ensures.value c.if-is_same.ensures.positive

pub returns-clause-same : goal.returns-clause-same
returns-clause-same c =
    is_verdict c.args.self.now c.args.name.now c.args.column c.in_ok-column.column (tile_of c.in_ok-held.held.now) (tile_of c.in_ok-built.built) false
    c.in_ok-column.ensures.ok c.in_ok-held.ensures.ok c.in_ok-built.ensures c.if-is_same.ensures.value c.if-is_same.ensures.positive
