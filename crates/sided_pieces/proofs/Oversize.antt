-- Some boundary pieces of a strip are no more than all of them.
use Rattle.std.proofs.Common.{◌<◌, ◌≤◌, ℕ, List, length, arith}
use Rattle.std.specs.Prelude.{◌≡◌, Any, IsTrue}
use Rattle.std.specs.declared.cmp.Ordering.TheVariants.{Less}
use Rattle.std.proofs.lemmas.List.Elements.{All-weaker}
use Rattle.overlay_terms.specs.Plane.{Point}
use Rattle.overlay_terms.specs.Tiles.{pair_cmp}
use Rattle.tile_laws.specs.SameTile.{same_pair, IsPositivePair}
use Rattle.tile_laws.proofs.SamePairs.{pairs_rank}
use Rattle.tile_laws.proofs.Shorter.{no_longer}
use Rattle.crossing_sweep.specs.StripInput.{StripInput, IsStripBoundary, AreStripSome, IsStripTile}
use Rattle.sided_pieces.specs.Sided.{AreMoreThan}

-- a boundary piece of a strip
abbrev IsOne : StripInput → Point × Point → Type 0
IsOne input a = IsStripBoundary input.marked input.steps input.strip a.0 a.1

one_positive : (input : StripInput) (a : Point × Point) → IsOne input a → IsPositivePair a
one_positive input a h = (h.piece.from_positive, h.piece.to_positive)

some_are_no_more : (input : StripInput) (some tile : List (Point × Point)) → AreStripSome input some → IsStripTile input tile → length some ≤ length tile
some_are_no_more input some tile are is_tile =
    no_longer IsPositivePair same_pair (λ a b. pair_cmp a b ≡ Less) pairs_rank tile some
    (record {
      first = All-weaker (IsOne input) IsPositivePair (one_positive input) some are.sound;
      second = All-weaker (IsOne input) IsPositivePair (one_positive input) tile is_tile.are_some.sound;
      ordered = are.ordered;
      there = is_tile.are_some.ordered;
      covers = All-weaker (IsOne input) (λ a. Any (λ b. IsTrue (same_pair a b)) tile) (λ a h. is_tile.complete a.0 a.1 h) some are.sound;
    })

pub are_more : (cap : ℕ) (input : StripInput) (some : List (Point × Point)) → AreStripSome input some → cap < length some → AreMoreThan cap input
are_more cap input some are more = record {
  some = some;
  are_some = are;
  more = more;
  all = λ tile is. let fewer = some_are_no_more input some tile are is in omega (arith, more, fewer);
}
