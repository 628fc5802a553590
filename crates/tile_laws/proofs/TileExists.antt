-- Each input has its tile: of all pairs of candidates on one segment those that are pieces of the boundary, in order and each once.
use Rattle.std.specs.Prelude.{◌≡◌, ◌≤◌, IsTrue, List, map, flat_map, length, All, Any, Contains}
use Rattle.std.specs.declared.cmp.Ordering.TheVariants.{Less}
use Rattle.std.proofs.Common.{arith}
use Rattle.std.proofs.lemmas.Bool.{and_from}
use Rattle.std.proofs.lemmas.List.Elements.{All-map, All-weaker, All-contains}
use Rattle.overlay_terms.specs.Plane.{Point, Segment, same_place}
use Rattle.overlay_terms.specs.Tiles.{Input, IsBoundary, pair_cmp, IsTileOf}
use Rattle.overlay_terms.specs.TileLaws.{IsInput, IsProper}
use Rattle.overlay_terms.proofs.Lists.{in_flat_map, contains_map}
use Rattle.tile_laws.specs.SameTile.{same_pair, IsPositivePair}
use Rattle.tile_laws.specs.TileExists.{EachHasItsTile, SomeAreNoMore, MoreIsOversize}
use Rattle.tile_laws.proofs.Statements.{segments_in}
use Rattle.tile_laws.proofs.Candidates.{candidates, IsAmong, node_among}
use Rattle.tile_laws.proofs.Shorter.{no_longer}
use Rattle.tile_laws.proofs.Gathered.{Gathered, gather}
use Rattle.tile_laws.proofs.SamePairs.{pairs_rank, pair_itself, pairs_compared}
use Rattle.tile_laws.proofs.SameBoundary.{boundary_alike}
use Rattle.tile_laws.proofs.BoundaryTest.{decide_boundary}

-- all pairs of candidates for nodes on a segment
abbrev pairs_on : List Segment → Segment → List (Point × Point)
pairs_on segments s = flat_map (λ p. map (λ r. (p, r)) (candidates segments s)) (candidates segments s)

-- the same on all segments
abbrev pairs : List Segment → List (Point × Point)
pairs segments = flat_map (pairs_on segments) segments

module _ (input : Input) where
  -- a piece of the input's boundary
  abbrev IsOne : Point × Point → Type 0
  IsOne a = IsBoundary input.marked input.steps input.column a.0 a.1

  -- its denominators are positive
  one_positive : (a : Point × Point) → IsOne a → IsPositivePair a
  one_positive a h = (h.piece.from_positive, h.piece.to_positive)

  -- a pair of candidates on a segment is among all
  pair_among : (s : Segment) (p r : Point) → Contains (segments_in input) s → Contains (candidates (segments_in input) s) p → Contains (candidates (segments_in input) s) r → Contains (pairs (segments_in input)) (p, r)
  pair_among s p r among c d =
      in_flat_map (pairs_on (segments_in input)) (segments_in input) s (p, r) among
      (in_flat_map (λ p. map (λ r. (p, r)) (candidates (segments_in input) s)) (candidates (segments_in input) s) p (p, r) c (contains_map (λ r. (p, r)) (candidates (segments_in input) s) r d))

  module _ (valid : IsInput input) where
    proper : All IsProper (segments_in input)
    proper = All-map IsProper (λ m. m.segment) input.marked valid.proper

    -- those of all pairs that are pieces of the boundary
    gathered : Gathered IsPositivePair same_pair (λ a b. pair_cmp a b ≡ Less) pairs_rank pairs_compared pair_itself IsOne one_positive (pairs (segments_in input))
    gathered =
        gather IsPositivePair same_pair (λ a b. pair_cmp a b ≡ Less) pairs_rank pairs_compared pair_itself IsOne one_positive (decide_boundary input.marked input.steps input.column proper) (pairs (segments_in input))

    -- each piece of the boundary is like one of them
    found : (a : Point × Point) → IsOne a → Any (λ b. IsTrue (same_pair a b)) gathered.list
    found a h =
        let s : Segment = h.piece.support in
        let first = (All-contains IsProper (segments_in input) s proper h.piece.among).first in
        let p : IsAmong (candidates (segments_in input) s) a.0 = node_among (segments_in input) s first a.0 h.piece.from_on h.piece.from_node in
        let r : IsAmong (candidates (segments_in input) s) a.1 = node_among (segments_in input) s first a.1 h.piece.to_on h.piece.to_node in
        let c : Point × Point = (p.point, r.point) in
        let alike : IsTrue (same_pair a c) = and_from (same_place a.0 p.point) (same_place a.1 r.point) p.at r.at in
        let there : IsOne c = boundary_alike input.marked input.steps input.column a c (p.positive, r.positive) alike h in
        through a h c there alike (gathered.complete c (pair_among s p.point r.point h.piece.among p.among r.among) there)
      where
        through : (a : Point × Point) → IsOne a → (c : Point × Point) → IsOne c → IsTrue (same_pair a c) → Any (λ b. IsTrue (same_pair c b)) gathered.list → Any (λ b. IsTrue (same_pair a b)) gathered.list
        through a h c there alike (i, b, l, at, e) =
            (i, b, l, at, pairs_rank.same_through a c b (one_positive a h) (one_positive c there) (one_positive b (All-contains IsOne gathered.list b gathered.sound (i, l, at))) alike e)

    -- so they are the tile
    gathered_is_tile : IsTileOf input.marked input.steps input.column gathered.list
    gathered_is_tile = record { ordered = gathered.ordered; sound = gathered.sound; complete = λ p r h. found (p, r) h }

-- each input has its tile
pub each_has_its_tile : EachHasItsTile
each_has_its_tile input valid = ((gathered input valid).list, gathered_is_tile input valid)

-- pieces of the boundary, in order, are no more than the tile's
pub some_are_no_more : SomeAreNoMore
some_are_no_more input some tile are is_tile =
    no_longer IsPositivePair same_pair (λ a b. pair_cmp a b ≡ Less) pairs_rank tile some
    (record {
      first = All-weaker (IsOne input) IsPositivePair (one_positive input) some are.sound;
      second = All-weaker (IsOne input) IsPositivePair (one_positive input) tile is_tile.sound;
      ordered = are.ordered;
      there = is_tile.ordered;
      covers = All-weaker (IsOne input) (λ a. Any (λ b. IsTrue (same_pair a b)) tile) (λ a h. is_tile.complete a.0 a.1 h) some are.sound;
    })

-- so more of them than a cap make a tile oversize
pub more_is_oversize : MoreIsOversize
more_is_oversize input cap some valid are more =
    let all = each_has_its_tile input valid in
    let fewer : length some ≤ length all.0 = some_are_no_more input some all.0 are all.1 in
    (all.0, omega (arith, more, fewer), all.1)
