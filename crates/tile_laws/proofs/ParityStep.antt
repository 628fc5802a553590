-- From one rank to the next: a tile has one edge over an x with a rank where the steps change there, and none where they do not.
use Rattle.std.specs.Prelude.{◌≡◌, ◌≢◌, ℕ, suc, pos, ◌<◌, ◌<ℤ◌, Bool, true, false, ◌&&◌, ltb, eqb, IsTrue, List, get_or, count_by, Any, AllPairs}
use Rattle.std.specs.List.{list_any}
use Rattle.std.specs.declared.cmp.Ordering.TheVariants.{Less}
use Rattle.std.proofs.Common.{ap, sym, ◌∙◌, arith, subst}
use Rattle.std.proofs.lemmas.Bool.{and_parts, and_from, both_ways, eqb-true, eq-eqb, ltb-true, lt-ltb, false_from_ne_true}
use Rattle.std.proofs.lemmas.List.Folds.{Any-from_list_any}
use Rattle.overlay_terms.specs.Plane.{Point, Segment, same_place, is_on}
use Rattle.overlay_terms.specs.Column.{is_in_column}
use Rattle.overlay_terms.specs.Trees.{steps_value}
use Rattle.overlay_terms.specs.Tiles.{Input, IsPiece, IsBoundary, IsTileOf, under_of, over_of, pair_cmp}
use Rattle.overlay_terms.specs.TileLaws.{IsInput}
use Rattle.overlay_terms.proofs.Functions.{fun_ext}
use Rattle.overlay_terms.proofs.InputLists.{any_from_Contains}
use Rattle.overlay_terms.proofs.Tests.{same_tests}
use Rattle.tile_laws.proofs.JustRight.{is_over_x, is_level, is_stretch_over}
use Rattle.tile_laws.proofs.Statements.{segments_in, SidesAreKept, PieceOver, EachHasAPiece, OnePieceOver}
use Rattle.tile_laws.proofs.Counts.{count_none, count_once}
use Rattle.tile_laws.proofs.Ranks.{yes, no, told}
use Rattle.exact_point.proofs.OnLine.{on_line}
use Rattle.tile_laws.proofs.Stretches.{IsStretch, stretch_told, stretch_over, stretch_level}
use Rattle.tile_laws.proofs.RankedBits.{rank_of, ranked_bits, bits_alike, under_ranked, up_to_ranked, level_ranked, ranked_level}
use Rattle.tile_laws.proofs.Edges.{Edge, ends, support_of, edges, ends_are, pairs_from_map, any_behind, on_other, equal_places, equal_pairs, same_stretch}

module _ (input : Input) (q : Point) (is_input : IsInput input) (positive : pos 0 <ℤ q.w) (within : IsTrue (is_in_column input.column q)) where
  -- the value of the steps over the segments with a rank below a number
  abbrev pub value_below : ℕ → Bool
  value_below n = steps_value input.steps (ranked_bits input q positive n)

  -- whether an edge passes over the x
  abbrev pub edge_over : Edge input → Bool
  edge_over e = is_stretch_over (e.from, e.to) q

  -- the rank of its segment
  abbrev pub edge_rank : Edge input → ℕ
  edge_rank e = rank_of input q positive (support_of e)

  -- whether it passes over the x with a rank
  abbrev pub is_at : ℕ → Edge input → Bool
  is_at n e = edge_over e && eqb (edge_rank e) n

  module _ (p r : Point) (piece : IsPiece (segments_in input) p r) (over : is_stretch_over (p, r) q ≡ true) where
    -- a piece over the x, as a stretch
    pub piece_stretch : IsStretch p r q
    piece_stretch = stretch_told p r q piece.from_positive piece.to_positive positive over

    -- its segment passes over the x
    pub support_over : is_over_x piece.support q ≡ true
    support_over = stretch_over piece.support p r q piece_stretch piece.from_on piece.to_on

    -- a segment through both its ends has its rank
    pub rank_through : (t : Segment) → is_on t p ≡ true → is_on t r ≡ true → rank_of input q positive t ≡ rank_of input q positive piece.support
    rank_through t on_p on_r =
        level_ranked input q positive piece.support piece.among support_over t (stretch_over t p r q piece_stretch on_p on_r)
        (stretch_level t piece.support p r q piece_stretch (on_line t p on_p) (on_line t r on_r) (on_line piece.support p piece.from_on) (on_line piece.support r piece.to_on))

    module _ (sides : SidesAreKept) (begins : IsTrue (is_in_column input.column p)) where
      -- under it the steps are as over the lower ranks
      pub under_is_value : under_of input.marked input.steps p r ≡ value_below (rank_of input q positive piece.support)
      under_is_value =
          ap (steps_value input.steps) (fun_ext (λ k. (sides input p r q piece is_input positive begins within over k).0) ∙ under_ranked input q positive piece.support piece.among support_over)

      -- over it they are as over those and its own
      pub over_is_value : over_of input.marked input.steps p r ≡ value_below (suc (rank_of input q positive piece.support))
      over_is_value =
          ap (steps_value input.steps) (fun_ext (λ k. (sides input p r q piece is_input positive begins within over k).1) ∙ up_to_ranked input q positive piece.support piece.among support_over)

  module _ (sides : SidesAreKept) (n : ℕ) where
    -- where the steps do not change at a rank, no edge has it
    none_at : value_below n ≡ value_below (suc n) → (e : Edge input) → is_at n e ≡ false
    none_at same e =
        false_from_ne_true (is_at n e) (λ h.
        let parts = and_parts (edge_over e) (eqb (edge_rank e) n) h in
        let rank_is : edge_rank e ≡ n = eqb-true (edge_rank e) n parts.1 in
        let piece : IsPiece (segments_in input) e.from e.to = e.boundary.piece in
        e.boundary.sides
        (under_is_value e.from e.to piece parts.0 sides e.boundary.column ∙ ap value_below rank_is ∙ same ∙ ap (λ k. value_below (suc k)) (sym rank_is) ∙ sym (over_is_value e.from e.to piece parts.0 sides e.boundary.column)))

    -- so none counts
    pub count_at_none : value_below n ≡ value_below (suc n) → (found : List (Edge input)) → count_by (is_at n) found ≡ 0
    count_at_none same found = count_none (is_at n) found (λ k d l. none_at same (get_or found k d))

  module _ (n : ℕ) where
    -- whether a segment passes over the x with the rank
    abbrev has_rank : Segment → Bool
    has_rank s = is_over_x s q && eqb (rank_of input q positive s) n

    -- where no segment has the rank, nothing changes
    same_without : list_any has_rank (segments_in input) ≡ false → value_below n ≡ value_below (suc n)
    same_without none =
        ap (steps_value input.steps)
        (bits_alike input q positive (λ s. ltb (rank_of input q positive s) n) (λ s. ltb (rank_of input q positive s) (suc n))
        (λ s among over. same_tests _ _ (λ h. let l : rank_of input q positive s < n = ltb-true _ _ h in lt-ltb _ _ (omega arith)) (λ h. lt-ltb _ _ (less (rank_of input q positive s) (ltb-true _ _ h) (λ e. both_ways _ none (any_from_Contains has_rank (segments_in input) s among (and_from _ _ over (eq-eqb _ _ e))))))))
      where
        less : (a : ℕ) → a < suc n → (a ≡ n → ⊥) → a < n
        less a l ne = omega (arith, ne)

    -- an edge on the line of another at one x, where one piece is
    alone_at : OnePieceOver → (a b : Edge input) → is_at n a ≡ true → is_at n b ≡ true → pair_cmp (ends a) (ends b) ≡ Less → ⊥
    alone_at one a b h k less =
        let at_a = and_parts (edge_over a) (eqb (edge_rank a) n) h in
        let at_b = and_parts (edge_over b) (eqb (edge_rank b) n) k in
        let pa : IsPiece (segments_in input) a.from a.to = a.boundary.piece in
        let pb : IsPiece (segments_in input) b.from b.to = b.boundary.piece in
        let level : is_level pa.support pb.support q ≡ true =
        ranked_level input q positive pb.support pb.among (support_over b.from b.to pb at_b.0) pa.support pa.among (support_over a.from a.to pa at_a.0) (eqb-true _ _ at_a.1 ∙ sym (eqb-true _ _ at_b.1)) in
        let same = one input a.from a.to b.from b.to q pa pb is_input positive at_a.0 at_b.0 level in
        equal_pairs a.from a.to b.from b.to (equal_places a.from b.from pa.from_positive pb.from_positive same.0) (equal_places a.to b.to pa.to_positive pb.to_positive same.1) less

    module _ (tile : List (Point × Point)) (is_tile : IsTileOf input.marked input.steps input.column tile) where
      -- a piece whose sides differ is an edge of the tile
      edge_at : SidesAreKept → value_below n ≢ value_below (suc n) → (s : Segment) → rank_of input q positive s ≡ n → PieceOver input s q → list_any (is_at n) (edges input tile is_tile.sound) ≡ true
      edge_at sides differ s rank_is there =
          let piece : IsPiece (segments_in input) there.from there.to = there.piece in
          let own : rank_of input q positive piece.support ≡ n = ap (rank_of input q positive) there.on_it ∙ rank_is in
          let under_is = under_is_value there.from there.to piece there.over sides there.begins in
          let over_is = over_is_value there.from there.to piece there.over sides there.begins in
          let boundary : IsBoundary input.marked input.steps input.column there.from there.to = record {
            piece = piece;
            column = there.begins;
            sides = λ e. differ (ap value_below (sym own) ∙ sym under_is ∙ e ∙ over_is ∙ ap (λ k. value_below (suc k)) own);
          } in
          let listed = is_tile.complete there.from there.to boundary in
          any_behind ends (λ a. same_place there.from a.0 && same_place there.to a.1) (is_at n) (edges input tile is_tile.sound)
          (subst (λ (t : List (Point × Point)). Any (λ a. IsTrue (same_place there.from a.0 && same_place there.to a.1)) t) (sym (ends_are input tile is_tile.sound)) listed)
          (λ e h. found_at piece there.over own e h)
        where
          found_at : (piece : IsPiece (segments_in input) there.from there.to) → is_stretch_over (there.from, there.to) q ≡ true → rank_of input q positive piece.support ≡ n → (e : Edge input) → (same_place there.from e.from && same_place there.to e.to) ≡ true → is_at n e ≡ true
          found_at piece over own e h =
              let places = and_parts (same_place there.from e.from) (same_place there.to e.to) h in
              let other : IsPiece (segments_in input) e.from e.to = e.boundary.piece in
              and_from (edge_over e) (eqb (edge_rank e) n)
              (same_stretch there.from there.to e.from e.to q (piece_stretch there.from there.to piece over) other.from_positive other.to_positive places.0 places.1)
              (eq-eqb (edge_rank e) n
              (rank_through there.from there.to piece over other.support
              (on_other there.from e.from piece.from_positive other.from_positive places.0 other.support other.from_on)
              (on_other there.to e.to piece.to_positive other.to_positive places.1 other.support other.to_on)
              ∙ own))

      -- where the steps change at the rank, an edge has it
      some_at : SidesAreKept → EachHasAPiece → value_below n ≢ value_below (suc n) → list_any (is_at n) (edges input tile is_tile.sound) ≡ true
      some_at sides each differ = elim (told (list_any has_rank (segments_in input))) [
        | no none ↦ absurd (differ (same_without none))
        | yes some ↦
            let there = Any-from_list_any has_rank (segments_in input) some in
            let s : Segment = there.1 in
            let parts = and_parts (is_over_x s q) (eqb (rank_of input q positive s) n) there.4 in
            edge_at sides differ s (eqb-true _ _ parts.1) (each input s q is_input positive within (there.0, there.2, there.3) parts.0)
      ]

      -- so one counts
      pub count_at_one : SidesAreKept → EachHasAPiece → OnePieceOver → value_below n ≢ value_below (suc n) → count_by (is_at n) (edges input tile is_tile.sound) ≡ 1
      count_at_one sides each one differ =
          count_once (is_at n) (λ a b. pair_cmp (ends a) (ends b) ≡ Less) (alone_at one) (edges input tile is_tile.sound)
          (pairs_from_map ends (λ a b. pair_cmp a b ≡ Less) (edges input tile is_tile.sound)
          (subst (AllPairs (λ a b. pair_cmp a b ≡ Less)) (sym (ends_are input tile is_tile.sound)) is_tile.ordered))
          (some_at sides each differ)
