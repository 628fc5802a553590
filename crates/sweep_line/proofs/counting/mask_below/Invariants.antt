use Rattle.std.proofs.Common.{◌≡◌, ℕ, ◌<◌, map, take}
use Rattle.overlay_terms.specs.Trees.{mask_bits}
use Rattle.overlay_terms.specs.Tiles.{below_bits, midpoint}
use Rattle.arrange.specs.Marked.{marked_of}
use Rattle.exact_point.specs.Place.{place}
use Rattle.sweep_line.proofs.counting.mask_below.Given as goal

abbrev pub invariant-loop-m : goal.invariant-loop-m
invariant-loop-m l = (k : ℕ) → k < 32 → mask_bits l.mask k ≡ below_bits (map marked_of (take l.m-index l.marked)) (midpoint (place l.from) (place l.to)) k
