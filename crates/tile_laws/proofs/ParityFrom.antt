-- The parity law, from one rank to the next.
use Rattle.std.specs.Prelude.{◌≡◌, ◌≢◌, ℕ, zero, suc, pos, ◌+◌, ◌%◌, ◌==◌, ◌<◌, ◌<ℤ◌, Bool, true, false, not, ◌&&◌, ltb, eqb, IsTrue, List, get_or, count_by}
use Rattle.std.proofs.Common.{refl, ap, sym, ◌∙◌, arith}
use Rattle.std.proofs.lemmas.Bool.{ltb-true, lt-ltb, eqb-true, eq-eqb, false_from_ne_true, both_ways, true≢false, false≢true, and_right}
use Rattle.std.proofs.lemmas.Bool.Decides.{nat_tests}
use Rattle.overlay_terms.specs.Plane.{Point}
use Rattle.overlay_terms.specs.Column.{is_in_column}
use Rattle.overlay_terms.specs.Trees.{steps_value}
use Rattle.overlay_terms.specs.Tiles.{Input, IsPiece, IsTileOf, below_bits}
use Rattle.overlay_terms.specs.TileLaws.{IsInput, is_pair_below}
use Rattle.overlay_terms.proofs.ClosedRings.{bit}
use Rattle.overlay_terms.proofs.StepLaws.{nothing_from_nothing}
use Rattle.overlay_terms.proofs.ClosedLayers.{count-map}
use Rattle.overlay_terms.proofs.Tests.{same_behind}
use Rattle.tile_laws.proofs.Statements.{segments_in, SidesAreKept, EachHasAPiece, OnePieceOver, ParityFromPieces}
use Rattle.tile_laws.proofs.Counts.{count_alike, count_none, count_both}
use Rattle.tile_laws.proofs.Ranks.{Told, yes, no, told}
use Rattle.exact_point.proofs.OnLine.{on_line}
use Rattle.tile_laws.proofs.Stretches.{above_alike}
use Rattle.tile_laws.proofs.UnderLemmas.{over_wide}
use Rattle.tile_laws.proofs.RankedBits.{below_none, no_bits, place_rank, lower_ranked, below_ranked}
use Rattle.tile_laws.proofs.Edges.{Edge, ends, edges, ends_are}
use Rattle.tile_laws.proofs.ParityStep.{value_below, edge_over, edge_rank, is_at, piece_stretch, support_over, count_at_none, count_at_one}

-- two tests agree, or one is not the other
data Compared (b c : Bool) : Type 0 where
  same : b ≡ c → Compared b c
  other : b ≢ c → c ≡ not b → Compared b c

compared : (b c : Bool) → Compared b c
compared true true = same refl
compared true false = other true≢false refl
compared false true = other false≢true refl
compared false false = same refl

-- one more turns a parity over
one_more : (n : ℕ) → ((n + 1) % 2 == 1) ≡ not (n % 2 == 1)
one_more n = grind (arith, nat_tests)

-- a number that is neither below another nor the same is not below the next one
neither : (k n : ℕ) → k < suc n → (k < n → ⊥) → (k ≡ n → ⊥) → ⊥
neither k n l below equal = omega (arith, below, equal)

-- a number is below the next one where it is below, or the same
below_next : (o : Bool) (k n : ℕ) → bit (o && ltb k (suc n)) ≡ bit (o && ltb k n) + bit (o && eqb k n)
below_next false k n = refl
below_next true k n = by_test (told (ltb k n)) (told (eqb k n))
  where
    by_test : Told (ltb k n) → Told (eqb k n) → bit (ltb k (suc n)) ≡ bit (ltb k n) + bit (eqb k n)
    by_test (yes h) (yes e) = let l : k < n = ltb-true k n h in let f : k ≡ n = eqb-true k n e in absurd (omega arith)
    by_test (yes h) (no e) =
        let l : k < n = ltb-true k n h in
        let t : ltb k (suc n) ≡ true = lt-ltb k (suc n) (omega arith) in
        rw (t, h, e) refl
    by_test (no h) (yes e) =
        let f : k ≡ n = eqb-true k n e in
        let t : ltb k (suc n) ≡ true = lt-ltb k (suc n) (omega arith) in
        rw (t, h, e) refl
    by_test (no h) (no e) =
        let t : ltb k (suc n) ≡ false = false_from_ne_true (ltb k (suc n)) (λ m. neither k n (ltb-true k (suc n) m) (λ l. both_ways (ltb k n) h (lt-ltb k n l)) (λ f. both_ways (eqb k n) e (eq-eqb k n f))) in
        rw (t, h, e) refl

module _ (input : Input) (tile : List (Point × Point)) (q : Point) (is_input : IsInput input) (is_tile : IsTileOf input.marked input.steps input.column tile) (positive : pos 0 <ℤ q.w) (within : IsTrue (is_in_column input.column q)) where
  -- the edges of the tile
  abbrev found : List (Edge input)
  found = edges input tile is_tile.sound

  -- how many of them pass over the x with a rank below a number
  abbrev edges_below : ℕ → ℕ
  edges_below n = count_by (λ e. edge_over input q is_input positive within e && ltb (edge_rank input q is_input positive within e) n) found

  -- and with just that rank
  abbrev edges_at : ℕ → ℕ
  edges_at n = count_by (is_at input q is_input positive within n) found

  -- what the steps are over the ranks below it
  abbrev value : ℕ → Bool
  value n = value_below input q is_input positive within n

  -- one rank more
  next_rank : (n : ℕ) → edges_below (suc n) ≡ edges_below n + edges_at n
  next_rank n =
      count_both (λ (e : Edge input). edge_over input q is_input positive within e && ltb (edge_rank input q is_input positive within e) (suc n)) (λ e. edge_over input q is_input positive within e && ltb (edge_rank input q is_input positive within e) n) (is_at input q is_input positive within n) found
      (λ e. below_next (edge_over input q is_input positive within e) (edge_rank input q is_input positive within e) n)

  -- none has a rank below 0
  no_edges : edges_below 0 ≡ 0
  no_edges =
      count_none (λ (e : Edge input). edge_over input q is_input positive within e && ltb (edge_rank input q is_input positive within e) 0) found
      (λ k d l. let e : Edge input = get_or found k d in and_right (edge_over input q is_input positive within e) (ltb (edge_rank input q is_input positive within e) 0) (below_none (edge_rank input q is_input positive within e)))

  module _ (sides : SidesAreKept) (each : EachHasAPiece) (one : OnePieceOver) where
    -- the edges with ranks below a number are odd where the steps are true
    abbrev IsParity : ℕ → Type 0
    IsParity n = (edges_below n % 2 == 1) ≡ value n

    -- one rank more, by whether the steps change there
    parity_next : (n : ℕ) → IsParity n → Compared (value n) (value (suc n)) → IsParity (suc n)
    parity_next n before (same e) =
        let at : edges_at n ≡ 0 = count_at_none input q is_input positive within sides n e found in
        let more : edges_below (suc n) ≡ edges_below n + edges_at n = next_rank n in
        let all : edges_below (suc n) ≡ edges_below n = omega arith in
        ap (λ k. k % 2 == 1) all ∙ before ∙ e
    parity_next n before (other differ turned) =
        let at : edges_at n ≡ 1 = count_at_one input q is_input positive within n tile is_tile sides each one differ in
        let more : edges_below (suc n) ≡ edges_below n + edges_at n = next_rank n in
        let all : edges_below (suc n) ≡ edges_below n + 1 = omega arith in
        ap (λ k. k % 2 == 1) all ∙ one_more (edges_below n) ∙ ap not before ∙ sym turned

    -- so it is for every number
    parity_below : (n : ℕ) → IsParity n
    parity_below zero = ap (λ n. n % 2 == 1) no_edges ∙ sym (ap (steps_value input.steps) (no_bits input q positive) ∙ nothing_from_nothing input.steps)
    parity_below (suc n) = parity_next n (parity_below n) (compared (value n) (value (suc n)))

    -- an edge is below the place where its rank is
    pair_ranked : (e : Edge input) → is_pair_below q (ends e) ≡ (edge_over input q is_input positive within e && ltb (edge_rank input q is_input positive within e) (place_rank input q positive))
    pair_ranked e =
        same_behind (edge_over input q is_input positive within e) _ _
        (λ over.
        let piece : IsPiece (segments_in input) e.from e.to = e.boundary.piece in
        let over_x = support_over input q is_input positive within e.from e.to piece over in
        above_alike piece.support e.from e.to q (piece_stretch input q is_input positive within e.from e.to piece over) (over_wide q positive piece.support over_x) (on_line piece.support e.from piece.from_on) (on_line piece.support e.to piece.to_on)
        ∙ lower_ranked input q positive piece.support piece.among over_x)

    -- the pairs of the tile below the place
    pairs_below : count_by (is_pair_below q) tile ≡ edges_below (place_rank input q positive)
    pairs_below =
        ap (count_by (is_pair_below q)) (sym (ends_are input tile is_tile.sound))
        ∙ count-map (is_pair_below q) ends found
        ∙ count_alike (λ (e : Edge input). is_pair_below q (ends e)) (λ e. edge_over input q is_input positive within e && ltb (edge_rank input q is_input positive within e) (place_rank input q positive)) found (λ k d l. pair_ranked (get_or found k d))

    -- they are odd where the steps are true at the place
    parity_there : (count_by (is_pair_below q) tile % 2 == 1) ≡ steps_value input.steps (below_bits input.marked q)
    parity_there = ap (λ n. n % 2 == 1) pairs_below ∙ parity_below (place_rank input q positive) ∙ ap (steps_value input.steps) (sym (below_ranked input q positive))

-- the parity law
pub parity_from_pieces : ParityFromPieces
parity_from_pieces sides each one input tile q is_input is_tile positive within off = parity_there input tile q is_input is_tile positive within sides each one
