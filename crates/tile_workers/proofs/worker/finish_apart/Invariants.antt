use Rattle.std.specs.Prelude.{◌≡◌, ◌+◌, ◌-◌}
use Rattle.tile_workers.proofs.worker.finish_apart.Given as goal

abbrev pub invariant-tiles : goal.invariant-tiles
invariant-tiles g l = l.strip.book ≡ l.fn.strip.book

-- how many tiles are left
abbrev pub decreases-tiles : goal.decreases-tiles
decreases-tiles g l = l.strip.input.strip.last + 1 - l.strip.next
