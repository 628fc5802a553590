-- The places passed are no more than the ends, crossings and border places that segments can have.
use Rattle.std.proofs.Common.{◌≡◌, ℕ, suc, pos, ◌+◌, ◌*◌, ◌<◌, ◌≤◌, ◌<ℤ◌, List, [], ◌∷◌, length, map, flat_map, get_or, ap, sym, ◌∙◌, arith}
use Rattle.std.specs.Prelude.{IsTrue, All, AllPairs}
use Rattle.std.proofs.lemmas.List.{length-map}
use Rattle.std.proofs.lemmas.List.Elements.{All-head, All-tail, All-map, All-contains}
use Rattle.std.proofs.Math.ListN.{length-append}
use Rattle.std.specs.declared.cmp.Ordering.TheVariants.{Less}
use Rattle.overlay_terms.specs.Plane.{Point, Segment, point_cmp}
use Rattle.overlay_terms.specs.Column.{columns, column_count}
use Rattle.overlay_terms.specs.Tiles.{is_node}
use Rattle.overlay_terms.specs.TileLaws.{IsProper}
use Rattle.exact_point.specs.PlaceOf.{cut_place}
use Rattle.exact_point.proofs.PlaceOrder.{one_positive}
use Rattle.tile_laws.proofs.Candidates.{candidates, candidates_with}
use Rattle.crossing_sweep.specs.StripInput.{segments_in}
use Rattle.crossing_sweep.specs.Beginning.{foot}
use Rattle.crossing_sweep.specs.RowLaws.{NodesAreFew}
use Rattle.overlay_terms.proofs.Pairs.{pairs_head, pairs_rest}
use Rattle.crossing_sweep.proofs.NextNode.{LiesOn, lies_on, places, rest_of, fewer, few_rest}
use Rattle.crossing_sweep.proofs.BeginLemmas.{after_foot}

-- ---- lists one after the other
-- where each has a number of elements, all have so many times theirs
all_long : {X Y : Type 0} (f : X → List Y) (m : ℕ) → ((x : X) → length (f x) ≡ m) → (xs : List X) → length (flat_map f xs) ≡ length xs * m
all_long f m each [] = omega arith
all_long f m each (x ∷ xs) = length-append (f x) (flat_map f xs) ∙ sum (length (f x)) (length (flat_map f xs)) (length xs) m (each x) (all_long f m each xs)
  where
    sum : (a b n m : ℕ) → a ≡ m → b ≡ n * m → a + b ≡ suc n * m
    sum a b n m e f = omega (arith, e, f)

-- how many candidates for nodes there are
candidate_count : (segments : List Segment) (s : Segment) → length (candidates segments s) ≡ length segments * 3 + column_count
candidate_count segments s =
    length-append (flat_map (candidates_with s) segments) (map (cut_place s) columns)
    ∙ ap (λ n. n + length (map (cut_place s) columns)) (all_long (candidates_with s) 3 (λ t. search arith) segments)
    ∙ ap (λ n. length segments * 3 + n) (length-map columns (cut_place s))

module _ (segments : List Segment) (proper : All IsProper segments) where
  place_count : length (places segments proper) ≡ length segments * (length segments * 3 + column_count)
  place_count = all_long (candidates segments) (length segments * 3 + column_count) (candidate_count segments) segments

  -- nodes in order after a place
  ordered_few : (z : Point) (zs : List Point) → pos 0 <ℤ z.w → All (λ y. point_cmp z y ≡ Less) zs → AllPairs (λ a b. point_cmp a b ≡ Less) zs → All (λ y. pos 0 <ℤ y.w) zs → All (λ y. IsTrue (is_node segments y)) zs
      → length zs ≤ rest_of segments proper z
  ordered_few z [] hz later ordered positive nodes = omega arith
  ordered_few z (y ∷ ys) hz later ordered positive nodes =
      let hy : pos 0 <ℤ y.w = All-head (λ (y : Point). pos 0 <ℤ y.w) y ys positive in
      let one : rest_of segments proper y < rest_of segments proper z =
      fewer segments proper z y hz hy (All-head (λ y. IsTrue (is_node segments y)) y ys nodes) (All-head (λ y. point_cmp z y ≡ Less) y ys later) in
      let others : length ys ≤ rest_of segments proper y =
      ordered_few y ys hy (pairs_head (λ a b. point_cmp a b ≡ Less) y ys ordered) (pairs_rest (λ a b. point_cmp a b ≡ Less) y ys ordered) (All-tail (λ (y : Point). pos 0 <ℤ y.w) y ys positive) (All-tail (λ y. IsTrue (is_node segments y)) y ys nodes) in
      omega (arith, one, others)

pub nodes_are_few : NodesAreFew
nodes_are_few input q passed valid is =
    let proper : All IsProper (segments_in input) = All-map IsProper (λ m. m.segment) input.marked valid.proper in
    let positive : All (λ (y : Point). pos 0 <ℤ y.w) passed = λ i d l. (is.small i d l).positive in
    let later : All (λ y. point_cmp (foot input.strip) y ≡ Less) passed =
    λ i d l. let y = get_or passed i d in
    let on : LiesOn (segments_in input) y = lies_on (segments_in input) proper y (positive i d l) (is.nodes i d l) in
    after_foot input.strip on.segment y (All-contains IsProper (segments_in input) on.segment proper on.among) (positive i d l) on.on (is.from i d l) in
    let few : length passed ≤ rest_of (segments_in input) proper (foot input.strip) = ordered_few (segments_in input) proper (foot input.strip) passed one_positive later is.ordered positive is.nodes in
    let all : rest_of (segments_in input) proper (foot input.strip) ≤ length (places (segments_in input) proper) = few_rest (segments_in input) proper (foot input.strip) in
    let count : length (places (segments_in input) proper) ≡ length (segments_in input) * (length (segments_in input) * 3 + column_count) = place_count (segments_in input) proper in
    let long : length (segments_in input) ≡ length input.marked = length-map input.marked (λ m. m.segment) in
    at_most (length passed) _ _ (length (segments_in input)) (length input.marked) few all count long
  where
    at_most : (p r l m n : ℕ) → p ≤ r → r ≤ l → l ≡ m * (m * 3 + column_count) → m ≡ n → p ≤ n * (n * 3 + column_count)
    at_most p r l m n h k e f = rw (sym f) (omega (arith, h, k, e))
