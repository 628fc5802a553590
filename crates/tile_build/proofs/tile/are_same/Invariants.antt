use Rattle.std.proofs.Common.{◌≡◌, length, map, take}
use Rattle.std.specs.Prelude.{IsTrue, All}
use Rattle.exact_point.specs.NamedPiece.{ends_of}
use Rattle.tile_laws.specs.SameTile.{same_ends, IsPositivePair}
use Rattle.tile_build.proofs.tile.are_same.Given as goal

-- the pieces so far are at the same places, and the held ones have positive denominators
abbrev pub invariant-loop-i : goal.invariant-loop-i
invariant-loop-i l = record {
  as_long : length l.held ≡ length l.built;
  same : IsTrue (same_ends (take l.i (map ends_of l.held)) (take l.i (map ends_of l.built)));
  positive : All (λ p. IsPositivePair (ends_of p)) (take l.i l.held);
}
