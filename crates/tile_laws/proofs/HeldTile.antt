-- Beside a tile of an input, a held tile is that of the input exactly where the two are alike.
use Rattle.std.specs.Prelude.{◌≡◌, ℕ, ◌<◌, IsTrue, List, length, All, Any, AllPairs}
use Rattle.std.specs.Cmp.Lexicographic.{as_long}
use Rattle.std.specs.declared.cmp.Ordering.TheVariants.{Less}
use Rattle.std.proofs.Common.{refl, subst, arith, get_or}
use Rattle.std.proofs.lemmas.Bool.{false≢true}
use Rattle.std.proofs.lemmas.List.{get_or_default}
use Rattle.std.proofs.lemmas.List.Elements.{All-weaker}
use Rattle.overlay_terms.specs.Plane.{Point}
use Rattle.overlay_terms.specs.Trees.{Steps}
use Rattle.overlay_terms.specs.Layers.{Marked}
use Rattle.overlay_terms.specs.Tiles.{IsBoundary, pair_cmp, IsTileOf}
use Rattle.overlay_terms.specs.Histories.{pieces, oversize}
use Rattle.tile_laws.specs.SameTile.{same_pair, same_ends, IsPositivePair, HeldTile}
use Rattle.tile_laws.proofs.AlikeLists.{Covers, alike_at, alike_from_covers}
use Rattle.tile_laws.proofs.SamePairs.{pairs_rank}
use Rattle.tile_laws.proofs.SameBoundary.{boundary_alike}

-- a pair comes before another
abbrev IsBefore : Point × Point → Point × Point → Type 0
IsBefore a b = pair_cmp a b ≡ Less

module _ (marked : List Marked) (steps : Steps) (k : ℕ) where
  -- the denominators of a tile's ends are positive
  tile_positive : (tile : List (Point × Point)) → IsTileOf marked steps k tile → All IsPositivePair tile
  tile_positive tile is_tile =
      All-weaker (λ a. IsBoundary marked steps k a.0 a.1) IsPositivePair (λ a h. (h.piece.from_positive, h.piece.to_positive)) tile is_tile.sound

  -- two tiles of one input cover each other
  tiles_cover : (xs ys : List (Point × Point)) → IsTileOf marked steps k xs → IsTileOf marked steps k ys → Covers same_pair xs ys
  tiles_cover xs ys one other =
      All-weaker (λ a. IsBoundary marked steps k a.0 a.1) (λ a. Any (λ b. IsTrue (same_pair a b)) ys) (λ a h. other.complete a.0 a.1 h) xs one.sound

  -- two tiles of one input are the same pair by pair
  tiles_alike : (xs ys : List (Point × Point)) → IsTileOf marked steps k xs → IsTileOf marked steps k ys → IsTrue (same_ends xs ys)
  tiles_alike xs ys one other =
      alike_from_covers IsPositivePair same_pair IsBefore pairs_rank xs ys (tile_positive xs one) (tile_positive ys other) one.ordered other.ordered (tiles_cover xs ys one other) (tiles_cover ys xs other one)

  -- two tiles of one input are equally long
  tiles_long : (xs ys : List (Point × Point)) → IsTileOf marked steps k xs → IsTileOf marked steps k ys → length xs ≡ length ys
  tiles_long xs ys one other = as_long same_pair xs ys (tiles_alike xs ys one other)

  module _ (xs ys : List (Point × Point)) (positive : All IsPositivePair xs) (alike : IsTrue (same_ends xs ys)) (is_tile : IsTileOf marked steps k ys) where
    -- both are equally long
    long : length xs ≡ length ys
    long = as_long same_pair xs ys alike

    -- the denominators of the tile's ends are positive
    there : All IsPositivePair ys
    there = tile_positive ys is_tile

    -- at one number both lists have the same
    at_both : (i : ℕ) (d e : Point × Point) → i < length xs → IsTrue (same_pair (get_or xs i d) (get_or ys i e))
    at_both = alike_at same_pair xs ys alike

    -- the same, the other way round
    back_at : (i : ℕ) (d e : Point × Point) → i < length xs → IsTrue (same_pair (get_or ys i e) (get_or xs i d))
    back_at i d e l = pairs_rank.turned (get_or xs i d) (get_or ys i e) (positive i d l) (there i e (omega (arith, l, long))) (at_both i d e l)

    -- a list like a tile is ordered
    ordered_there : AllPairs IsBefore xs
    ordered_there i j d a l =
        let first : i < length xs = omega (arith, a, l) in
        let first_there : i < length ys = omega (arith, first, long) in
        let second_there : j < length ys = omega (arith, l, long) in
        pairs_rank.alike_left (get_or ys i d) (get_or xs i d) (get_or xs j d) (there i d first_there) (positive i d first) (positive j d l) (back_at i d d first)
        (pairs_rank.alike_right (get_or ys j d) (get_or xs j d) (get_or ys i d) (there j d second_there) (positive j d l) (there i d first_there) (back_at j d d l)
        (is_tile.ordered i j d a second_there))

    -- its pairs are of the boundary
    sound_there : All (λ a. IsBoundary marked steps k a.0 a.1) xs
    sound_there i d l =
        boundary_alike marked steps k (get_or ys i d) (get_or xs i d) (positive i d l) (back_at i d d l) (is_tile.sound i d (omega (arith, l, long)))

    -- what a pair of the tile is like is like one of the list
    found_there : (a : Point × Point) → IsPositivePair a → Any (λ b. IsTrue (same_pair a b)) ys → Any (λ b. IsTrue (same_pair a b)) xs
    found_there a h (i, b, l, at, e) =
        let within : i < length xs = omega (arith, l, long) in
        let c : Point × Point = get_or xs i b in
        let same_at : IsTrue (same_pair b (get_or xs i b)) = subst (λ z. IsTrue (same_pair z (get_or xs i b))) at (back_at i b b within) in
        let hb : IsPositivePair b = subst IsPositivePair at (there i b l) in
        (i, c, within, get_or_default xs i (get_or xs i b) b within, pairs_rank.same_through a b c h hb (positive i b within) e same_at)

    -- a list that is like a tile of the input is one
    tile_there : IsTileOf marked steps k xs
    tile_there = record {
      ordered = ordered_there;
      sound = sound_there;
      complete = λ p r h. found_there (p, r) (h.piece.from_positive, h.piece.to_positive) (is_tile.complete p r h);
    }

-- a held tile is that of the input exactly where it is like the built one
pub held_tile : HeldTile
held_tile input (pieces held) (pieces built) positive right = (
  λ alike. let long : length held ≡ length built = as_long same_pair held built alike in
      (omega (arith, long, right.0), tile_there input.marked input.steps input.column held built (positive alike) alike right.1),
  λ other. tiles_alike input.marked input.steps input.column held built other.1 right.1,
)
held_tile input (pieces held) oversize positive right = (
  λ alike. absurd (false≢true alike),
  λ other. let long : length held ≡ length right.0 = tiles_long input.marked input.steps input.column held right.0 other.1 right.2 in
      absurd (omega (arith, long, other.0, right.1)),
)
held_tile input oversize (pieces built) positive right = (
  λ alike. absurd (false≢true alike),
  λ other. let long : length other.0 ≡ length built = tiles_long input.marked input.steps input.column other.0 built other.2 right.1 in
      absurd (omega (arith, long, other.1, right.0)),
)
held_tile input oversize oversize positive right = (λ alike. right, λ other. refl)
