use Rattle.std.proofs.Common.{◌≡◌, ◌%◌, ◌==◌, count_by, take}
use Rattle.overlay_terms.specs.TileLaws.{is_pair_below}
use Rattle.exact_point.specs.Place.{place}
use Rattle.exact_point.specs.NamedPiece.{ends_of}
use Rattle.tile_build.proofs.tile.is_odd_below.Given as goal

abbrev pub invariant-loop-piece : goal.invariant-loop-piece
invariant-loop-piece l = l.odd ≡ (count_by (λ p. is_pair_below (place l.query) (ends_of p)) (take l.piece-index l.pieces) % 2 == 1)
