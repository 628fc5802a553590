use Rattle.std.proofs.Common.{◌≡◌, ℕ, ◌<◌, take}
use Rattle.overlay_terms.specs.Trees.{mask_bits}
use Rattle.exact_point.specs.Place.{place}
use Rattle.arrange.specs.Masks.{holding_bits}
use Rattle.arrange.proofs.masking.mask_over.Given as goal

-- the mask of the first segments
abbrev pub invariant-loop-m : goal.invariant-loop-m
invariant-loop-m l = (k : ℕ) → k < 32 → mask_bits l.mask k ≡ holding_bits (take l.m-index l.marked) (place l.from) (place l.to) k
