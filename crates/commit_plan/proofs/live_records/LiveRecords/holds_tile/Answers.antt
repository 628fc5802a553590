-- A tile that is known to be the live root's is equal to it.
use Rattle.std.proofs.Common.{sym, ap, ◌∙◌, refl}
use Rattle.tile_build.specs.Tile.{tile_of}
use Rattle.commit_plan.specs.Staying.{holds_tile}
use Rattle.commit_plan.proofs.EqualityTests.{tile_decides}
use Rattle.commit_plan.proofs.live_records.LiveRecords.holds_tile.Goals as goal

pub returns-then-known : goal.returns-then-known
returns-then-known c =
    let t = tile_of c.args.tile.now in
    sym (ap (λ o. holds_tile o t) (c.requires c.if-known.true) ∙ (tile_decides t t).1 refl)
