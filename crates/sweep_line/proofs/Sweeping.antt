-- Passing the left end of a piece: the entries that stand under it, what lies under it, and the status after it.
use Rattle.std.proofs.Common.{◌≡◌, ℕ, ℤ, zero, suc, pos, ◌+◌, ◌<◌, ◌≤◌, ◌==◌, ◌*ℤ◌, ◌<ℤ◌, ◌≤ℤ◌, Bool, true, false, ◌&&◌, List, [], ◌∷◌, ◌++◌, length, map, filter, take, drop, get_or, inl, inr, ◌⊎◌, refl, ap, sym, subst, ◌∙◌, arith}
use Rattle.std.specs.Prelude.{int_lt, int_le, IsTrue, All, Any, Contains}
use Rattle.std.specs.List.{AllPairs}
use Rattle.std.specs.List.Sorted.{IsPartitionedBy, IsPartitionPoint}
use Rattle.std.proofs.lemmas.Int.{ints}
use Rattle.std.proofs.lemmas.Bool.{and_parts, both_ways}
use Rattle.std.proofs.lemmas.List.{get_or-take, length-take-le, get_or_default, take_more, length-map}
use Rattle.std.proofs.lemmas.List.Elements.{All-map, All-weaker, All-contains, All-filter, All-take, All-push, filter_passes, Contains-append_left, Contains-push, Contains-push_cases}
use Rattle.std.proofs.lemmas.List.Kept.{AllPairs-filter}
use Rattle.std.proofs.lemmas.Nat.Bits.{bit_at-zero}
use Rattle.overlay_terms.specs.Plane.{Point, Segment, same_place, is_on}
use Rattle.overlay_terms.specs.Trees.{mask_bits}
use Rattle.overlay_terms.specs.Tiles.{Input, midpoint, below_bits}
use Rattle.overlay_terms.specs.TileLaws.{IsInput}
use Rattle.overlay_terms.proofs.InputNumbers.{le_true, lt_true, true_lt, x_in_order}
use Rattle.overlay_terms.proofs.InputLists.{Contains-filter, Contains-from_filter}
use Rattle.overlay_terms.proofs.PlaceLemmas.{places_alike}
use Rattle.exact_point.specs.Crossing.{turn_of}
use Rattle.exact_point.specs.Place.{place}
use Rattle.exact_point.specs.PlaceOf.{place_of}
use Rattle.arrange.specs.Arrangement.{input_segments, IsElementary, ArePieces, ComesBefore}
use Rattle.arrange.specs.declared.piece.Elementary.{Elementary}
use Rattle.tile_laws.proofs.JustRight.{is_over_x, is_under, is_level, is_stretch_over, up_to_bits}
use Rattle.tile_laws.proofs.Statements.{PieceOver}
use Rattle.tile_laws.proofs.OneLine.{level_parts}
use Rattle.tile_laws.proofs.OnePieceOver.{one_piece_over}
use Rattle.tile_laws.proofs.PiecesOver.{each_has_a_piece}
use Rattle.tile_laws.proofs.Ranks.{Told, yes, no, told}
use Rattle.tile_laws.proofs.UnderLemmas.{none_under, level_back}
use Rattle.tile_laws.proofs.Stretches.{stretch_told}
use Rattle.tile_laws.proofs.Edges.{same_stretch}
use Rattle.tile_laws.proofs.StepUp.{level_through, level_tests, AreBelow, step_up, none_below}
use Rattle.tile_laws.proofs.Lying.{IsOver, stretches, over_it, support_over, on_support, other_level, sides_by, under_stays}
use Rattle.exact_point.proofs.Lines.{width}
use Rattle.exact_point.proofs.PlaceOrder.{on_same, same_from_equal, not_before_self}
use Rattle.overlay_terms.proofs.Lists.{contains_map}
use Rattle.overlay_terms.proofs.Pairs.{pairs_map}
use Rattle.overlay_terms.proofs.Whole.{most_same}
use Rattle.exact_point.proofs.ByX.{Left, AtMost, left_after, at_most_through}
use Rattle.exact_point.proofs.OnLine.{on_line}
use Rattle.sweep_line.specs.Status.{goes_on, passes_under, is_passed}
use Rattle.sweep_line.specs.Sweep.{IsEntryOf, StandsUnder, IsSwept}
use Rattle.sweep_line.specs.declared.status.StatusEntry.{StatusEntry}
use Rattle.sweep_line.proofs.ListLemmas.{pairs_take, all_first, among_first, all_insert, pairs_insert, any_insert, inserted, image_at}
use Rattle.sweep_line.proofs.Passing.{Order, before, equal, behind, order_of, not_itself, lies, not_known}
use Rattle.sweep_line.proofs.SideTests.{IsTestFor, over_begin, slanted_test}

-- what is asked: the number of a piece among all, and the status after those before it
pub record IsTurnOf (input : Input) (pieces : List Elementary) (i : ℕ) (e : Elementary) (from : Point) (old : List StatusEntry) : Type 0 where
  pub valid : IsInput input
  pub are : ArePieces input pieces
  pub inside : i < length pieces
  pub here : get_or pieces i e ≡ e
  pub swept : IsSwept input (take i pieces) from old

module _ (input : Input) (pieces : List Elementary) (i : ℕ) (e : Elementary) (from : Point) (old : List StatusEntry) (is_turn : IsTurnOf input pieces i e from old) where
  abbrev q : Point
  q = place_of e.from

  abbrev done : List Elementary
  done = take i pieces

  -- the entries that go on
  abbrev on : List StatusEntry
  on = filter (goes_on (place_of e.from)) old

  is_e : IsElementary input e
  is_e = subst (IsElementary input) is_turn.here (is_turn.are.sound i e is_turn.inside)

  hq : pos 0 <ℤ q.w
  hq = is_e.piece.from_positive

  done_long : length done ≡ i
  done_long = length-take-le i pieces (omega (arith, is_turn.inside))

  done_sound : All (IsElementary input) done
  done_sound = All-take (IsElementary input) i pieces is_turn.are.sound

  -- the pieces before it come before it
  come_before : All (λ p. ComesBefore p e) done
  come_before j d l =
      let j_in : j < i = omega (arith, l, done_long) in
      subst (λ p. ComesBefore p e) (sym (get_or-take i pieces j d j_in))
      (subst (λ p. ComesBefore (get_or pieces j d) p) (get_or_default pieces i d e is_turn.inside ∙ is_turn.here) (is_turn.are.ordered j i d j_in is_turn.inside))

  later : AtMost from q
  later = is_turn.swept.ahead e is_e come_before

  -- ---- an entry that goes on is that of a piece over the x
  record Origin (a : StatusEntry) : Type 0 where
    pub piece : Elementary
    pub known : Contains done piece
    pub entry : IsEntryOf input piece a
    pub sound : IsElementary input piece
    pub over : IsOver input a.support (place_of piece.from) (place_of piece.to) q

  origin_by : (a : StatusEntry) → goes_on q a ≡ true → Any (λ p. IsEntryOf input p a) done → Origin a
  origin_by a going (j, p, l, at, entry) =
      let sound : IsElementary input p = All-contains (IsElementary input) done p done_sound (j, l, at) in
      let begun : AtMost (place_of p.from) from = All-contains (λ p. AtMost (place_of p.from) from) done p is_turn.swept.begun (j, l, at) in
      record {
        piece = p;
        known = (j, l, at);
        entry = entry;
        sound = sound;
        over = record {
          lies = record {
            piece = sound.piece;
            from_on = subst (λ s. IsTrue (is_on s (place_of p.from))) (sym entry.support) sound.from_on;
            to_on = subst (λ s. IsTrue (is_on s (place_of p.to))) (sym entry.support) sound.to_on;
          };
          positive = hq;
          begun = at_most_through (place_of p.from) from q sound.piece.from_positive is_turn.swept.positive hq begun later;
          goes_on = subst (λ r. Left q r) entry.to (lt_true (q.x *ℤ (place a.to).w) ((place a.to).x *ℤ q.w) going);
        };
      }

  origin : (a : StatusEntry) → Contains on a → Origin a
  origin a c =
      origin_by a (All-contains (λ x. goes_on q x ≡ true) on a (filter_passes (goes_on q) old) c)
      (All-contains (λ a. Any (λ p. IsEntryOf input p a) done) old a is_turn.swept.entries (Contains-from_filter (goes_on q) old a c))

  contains_at : (j : ℕ) (d : StatusEntry) → j < length on → Contains on (get_or on j d)
  contains_at j d l = (j, l, get_or_default on j (get_or on j d) d l)

  entries_over : All (λ a. is_over_x a.support q ≡ true) on
  entries_over j d l =
      let o : Origin (get_or on j d) = origin (get_or on j d) (contains_at j d l) in
      over_it input (get_or on j d).support (place_of o.piece.from) (place_of o.piece.to) q o.over

  still_ordered : AllPairs (StandsUnder from) on
  still_ordered = AllPairs-filter (StandsUnder from) (goes_on q) old is_turn.swept.ordered

  going_at : (j : ℕ) (d : StatusEntry) → j < length on → goes_on q (get_or on j d) ≡ true
  going_at j d l = filter_passes (goes_on q) old j d l

  ordered_there : AllPairs (λ a b. is_under a.support b.support q ≡ true) on
  ordered_there j k d l m = still_ordered j k d l m q hq later (going_at j d (omega (arith, l, m))) (going_at k d m)

  -- ---- what passes under the place comes first
  module _ (test : Segment → Bool) (is_test : IsTestFor input e test) where
    passed_at : (j : ℕ) (d : StatusEntry) → j < length on → is_passed q e.support (get_or on j d) ≡ test (get_or on j d).support
    passed_at j d l = is_test.passed (get_or on j d).support (entries_over j d l)

    pub partitioned : IsPartitionedBy (is_passed (place_of e.from) e.support) on
    partitioned j k d le m pass = by (order_of j k) where
      j_in : j < length on
      j_in = omega (arith, le, m)

      by : Order j k → is_passed q e.support (get_or on j d) ≡ true
      by (before l) =
          passed_at j d j_in
          ∙ is_test.lower.down (get_or on j d).support (get_or on k d).support (entries_over j d j_in) (entries_over k d m) (sym (passed_at k d m) ∙ pass) (ordered_there j k d l m)
      by (equal l) = ap (λ n. is_passed q e.support (get_or on n d)) l ∙ pass
      by (behind l) = absurd (omega (arith, le, l))

    -- ---- what passes lies on the line of a piece that was passed
    record Known (t : Segment) : Type 0 where
      pub piece : Elementary
      pub known : Contains done piece
      pub over : IsOver input piece.support (place_of piece.from) (place_of piece.to) q
      pub level : is_level t piece.support q ≡ true
      pub passes : passes_under q e.support piece.support ≡ true

    module _ (t : Segment) (among : Contains (input_segments input) t) (over_t : is_over_x t q ≡ true) (pass : test t ≡ true) where
      there : PieceOver input t q
      there = each_has_a_piece input t q is_turn.valid hq is_e.begins among over_t

      known_by : Any (λ p. IsTrue (same_place there.from (place_of p.from) && same_place there.to (place_of p.to))) pieces → Known t
      known_by (j, p, l, at, same) =
          by (order_of j i)
        where
          parts : IsTrue (same_place there.from (place_of p.from)) × IsTrue (same_place there.to (place_of p.to))
          parts = and_parts (same_place there.from (place_of p.from)) (same_place there.to (place_of p.to)) same

          is_p : IsElementary input p
          is_p = All-contains (IsElementary input) pieces p is_turn.are.sound (j, l, at)

          stretch : is_stretch_over (place_of p.from, place_of p.to) q ≡ true
          stretch =
              same_stretch there.from there.to (place_of p.from) (place_of p.to) q (stretch_told there.from there.to q there.piece.from_positive there.piece.to_positive hq there.over) is_p.piece.from_positive is_p.piece.to_positive parts.0 parts.1

          over_p : IsOver input p.support (place_of p.from) (place_of p.to) q
          over_p =
              let told_by = and_parts (int_le ((place_of p.from).x *ℤ q.w) (q.x *ℤ (place_of p.from).w)) (int_lt (q.x *ℤ (place_of p.to).w) ((place_of p.to).x *ℤ q.w)) stretch in
              record { lies = lies input p is_p; positive = hq; begun = le_true _ _ told_by.0; goes_on = lt_true _ _ told_by.1 }

          on_from : IsTrue (is_on t (place_of p.from))
          on_from = sym (on_same t there.from (place_of p.from) there.piece.from_positive is_p.piece.from_positive parts.0) ∙ subst (λ s. IsTrue (is_on s there.from)) there.on_it there.piece.from_on

          on_to : IsTrue (is_on t (place_of p.to))
          on_to = sym (on_same t there.to (place_of p.to) there.piece.to_positive is_p.piece.to_positive parts.1) ∙ subst (λ s. IsTrue (is_on s there.to)) there.on_it there.piece.to_on

          level : is_level t p.support q ≡ true
          level = other_level input p.support (place_of p.from) (place_of p.to) q over_p t on_from on_to

          over_line : is_over_x p.support q ≡ true
          over_line = over_it input p.support (place_of p.from) (place_of p.to) q over_p

          passes : passes_under q e.support p.support ≡ true
          passes = is_test.passed p.support over_line ∙ sym (level_tests q is_test.positive test is_test.lower t p.support over_t over_line level) ∙ pass

          by : Order j i → Known t
          by (before m) =
              record { piece = p; known = (j, omega (arith, m, done_long), get_or-take i pieces j p m ∙ at); over = over_p; level = level; passes = passes }
          by (equal m) =
              let same_piece : p ≡ e = sym at ∙ ap (λ n. get_or pieces n p) m ∙ get_or_default pieces i p e is_turn.inside ∙ is_turn.here in
              absurd (not_itself q e.support (on_line e.support q is_e.from_on) (subst (λ (x : Elementary). passes_under q e.support x.support ≡ true) same_piece passes))
          by (behind m) =
              let after : ComesBefore e p =
              subst (λ x. ComesBefore x p) (get_or_default pieces i p e is_turn.inside ∙ is_turn.here) (subst (λ x. ComesBefore (get_or pieces i p) x) at (is_turn.are.ordered i j p m l)) in
              absurd (not_known input e p is_e is_p over_p after passes)

      known : Known t
      known = known_by (is_turn.are.complete there.from there.to there.piece there.begins)

    -- ---- those that stand under the piece
    module _ (k : ℕ) (k_in : k ≤ length on) (point : IsPartitionPoint (λ a. is_passed (place_of e.from) e.support a ≡ true) (λ a. is_passed (place_of e.from) e.support a ≡ false) on k) where
      abbrev below : List Segment
      below = map (λ (a : StatusEntry). a.support) (take k on)

      entry_there : (t : Segment) (known : Known t) → Any (λ a. IsEntryOf input known.piece a) old → Any (λ s. is_level t s q ≡ true) below
      entry_there t known (j, a, l, at, entry) =
          let going : goes_on q a ≡ true = true_lt _ _ (subst (λ r. Left q r) (sym entry.to) known.over.goes_on) in
          let c : Contains on a = Contains-filter (goes_on q) old a (j, l, at) going in
          let pass : is_passed q e.support a ≡ true = subst (λ s. passes_under q e.support s ≡ true) (sym entry.support) known.passes in
          let first : Contains (take k on) a = among_first (λ a. is_passed q e.support a ≡ false) k on k_in point.1 a c (λ f. both_ways (is_passed q e.support a) f pass) in
          let image : Contains below a.support = contains_map (λ (a : StatusEntry). a.support) (take k on) a first in
          (image.0, a.support, image.1, image.2, subst (λ s. is_level t s q ≡ true) (sym entry.support) known.level)

      are_below : AreBelow q is_test.positive input test below
      are_below = record {
        ordered = pairs_map (λ s t. is_under s t q ≡ true) (λ (a : StatusEntry). a.support) (take k on) (pairs_take (λ (a b : StatusEntry). is_under a.support b.support q ≡ true) k on k_in ordered_there);
        over = All-map (λ s. is_over_x s q ≡ true) (λ (a : StatusEntry). a.support) (take k on) (All-take (λ (a : StatusEntry). is_over_x a.support q ≡ true) k on entries_over);
        passes = All-map (λ s. test s ≡ true) (λ (a : StatusEntry). a.support) (take k on) (all_first (λ (a : StatusEntry). test a.support ≡ true) k on k_in (λ j d l m. sym (passed_at j d (omega (arith, m, k_in))) ∙ point.0 j d l m));
        complete = λ t among over_t pass.
            let known_t : Known t = known t among over_t pass in
            entry_there t known_t (is_turn.swept.members known_t.piece known_t.known (left_after from q (place_of known_t.piece.to) is_turn.swept.positive hq known_t.over.lies.piece.to_positive later known_t.over.goes_on));
      }

      below_long : length below ≡ k
      below_long = length-map (take k on) (λ (a : StatusEntry). a.support) ∙ length-take-le k on k_in

      -- the over mask of the highest of them is what lies under the piece
      over_highest : (n : ℕ) → k ≡ suc n → (a : StatusEntry) → get_or on n a ≡ a → (j : ℕ) → j < 32 → mask_bits a.over j ≡ below_bits input.marked (midpoint (place_of e.from) (place_of e.to)) j
      over_highest n is_n a at j few =
          let n_in : n < length (take k on) = omega (arith, is_n, length-take-le k on k_in) in
          let inside : n < length on = omega (arith, is_n, k_in) in
          let o : Origin a = origin a (n, inside, at) in
          let image = image_at (λ (a : StatusEntry). a.support) (take k on) n e.support n_in in
          let same_entry : image.0 ≡ a = sym image.1 ∙ get_or-take k on n image.0 (omega (arith, is_n)) ∙ get_or_default on n image.0 a inside ∙ at in
          let highest : get_or below n e.support ≡ a.support = image.2 ∙ ap (λ (x : StatusEntry). x.support) same_entry in
          o.entry.over j few
          ∙ (sides_by input a.support (place_of o.piece.from) (place_of o.piece.to) q o.over is_turn.valid o.sound.begins is_e.begins j).1
          ∙ ap (λ s. up_to_bits input.marked s q j) (sym highest)
          ∙ ap (λ bits. bits j) (step_up q is_test.positive input test is_test.lower below are_below n (below_long ∙ is_n) e.support)
          ∙ sym (is_test.counts j)

      -- so the piece learns its under mask
      pub under_is : (under : ℕ) → (k ≡ 0 → under ≡ 0) → ((n : ℕ) (d : StatusEntry) → k ≡ suc n → under ≡ (get_or on n d).over) → (j : ℕ) → j < 32 → mask_bits under j ≡ below_bits input.marked (midpoint (place_of e.from) (place_of e.to)) j
      under_is under lowest above j few = by (order_of 0 k) where
        by_predecessor : (m : ℕ) → k ≡ m → 0 < m → mask_bits under j ≡ below_bits input.marked (midpoint q (place_of e.to)) j
        by_predecessor zero is_m l = absurd (omega (arith, l))
        by_predecessor (suc n) is_m l =
            let found = image_at (λ (a : StatusEntry). a.support) on n e.support (omega (arith, is_m, k_in)) in
            ap (λ m. mask_bits m j) (above n found.0 is_m ∙ ap (λ (x : StatusEntry). x.over) found.1) ∙ over_highest n is_m found.0 found.1 j few

        by : Order 0 k → mask_bits under j ≡ below_bits input.marked (midpoint q (place_of e.to)) j
        by (before l) = by_predecessor k refl l
        by (equal l) =
            ap (λ m. mask_bits m j) (lowest (sym l)) ∙ ap (λ b. b == 1) (bit_at-zero j)
            ∙ sym (ap (λ bits. bits j) (none_below q is_test.positive input test is_test.lower below are_below (below_long ∙ sym l)))
            ∙ sym (is_test.counts j)
        by (behind l) = absurd (omega (arith, l))

  -- ---- the status after the piece
  abbrev now : List Elementary
  now = done ++ e ∷ []

  entries_now : All (λ a. Any (λ p. IsEntryOf input p a) now) on
  entries_now =
      All-weaker (λ a. Any (λ p. IsEntryOf input p a) done) (λ a. Any (λ p. IsEntryOf input p a) now) one_longer on
      (All-filter (goes_on q) (λ a. Any (λ p. IsEntryOf input p a) done) old is_turn.swept.entries)
    where
      one_longer : (a : StatusEntry) → Any (λ p. IsEntryOf input p a) done → Any (λ p. IsEntryOf input p a) now
      one_longer a (j, p, l, at, entry) = let c = Contains-append_left done (e ∷ []) p (j, l, at) in (c.0, p, c.1, c.2, entry)

  begun_now : All (λ p. AtMost (place_of p.from) q) now
  begun_now =
      All-push (λ p. AtMost (place_of p.from) q) done e
      (λ j d l. at_most_through (place_of (get_or done j d).from) from q (done_sound j d l).piece.from_positive is_turn.swept.positive hq (is_turn.swept.begun j d l) later)
      (at_itself (q.x *ℤ q.w))
    where
      at_itself : (a : ℤ) → a ≤ℤ a
      at_itself a = omega (arith, ints)

  ahead_now : (f : Elementary) → IsElementary input f → All (λ p. ComesBefore p f) now → AtMost q (place_of f.from)
  ahead_now f is_f all = by (All-contains (λ p. ComesBefore p f) now e all (Contains-push done e)) where
    by : ComesBefore e f → AtMost q (place_of f.from)
    by (inl less) = x_in_order q (place_of f.from) less
    by (inr turned) =
        most_same (q.x *ℤ (place_of f.from).w) ((place_of f.from).x *ℤ q.w)
        (places_alike q (place_of f.from) hq is_f.piece.from_positive (same_from_equal q (place_of f.from) hq is_f.piece.from_positive turned.0)).x_level

  ordered_now : AllPairs (StandsUnder q) on
  ordered_now j k d l m = λ z hz h.
      still_ordered j k d l m z hz (at_most_through from q z is_turn.swept.positive hq hz later h)

  -- an entry of a piece that was there before goes on
  old_member : (p : Elementary) → Contains done p → Left q (place_of p.to) → Any (λ a. IsEntryOf input p a) on
  old_member p known right = by (is_turn.swept.members p known (left_after from q (place_of p.to) is_turn.swept.positive hq sound.piece.to_positive later right)) where
    sound : IsElementary input p
    sound = All-contains (IsElementary input) done p done_sound known

    by : Any (λ a. IsEntryOf input p a) old → Any (λ a. IsEntryOf input p a) on
    by (j, a, l, at, entry) =
        let c = Contains-filter (goes_on q) old a (j, l, at) (true_lt _ _ (subst (λ r. Left q r) (sym entry.to) right)) in
        (c.0, a, c.1, c.2, entry)

  -- after a piece that does not go to the right
  pub passed_upright : (Left (place_of e.from) (place_of e.to) → ⊥) → IsSwept input (take (i + 1) pieces) (place_of e.from) on
  passed_upright upright =
      subst (λ d. IsSwept input d q on) (sym (take_more pieces i e is_turn.inside ∙ ap (λ x. done ++ x ∷ []) is_turn.here))
      (record {
        positive = hq;
        entries = entries_now;
        begun = begun_now;
        ahead = ahead_now;
        members = λ p c right. by p right (Contains-push_cases done e p c);
        ordered = ordered_now;
      })
    where
      by : (p : Elementary) → Left q (place_of p.to) → Contains done p ⊎ (e ≡ p) → Any (λ a. IsEntryOf input p a) on
      by p right (inl known) = old_member p known right
      by p right (inr same) = absurd (upright (subst (λ (x : Elementary). Left q (place_of x.to)) (sym same) right))

  -- ---- after one that does, with its entry put in
  module _ (wide : pos 0 <ℤ width e.support) (x : StatusEntry) (of_e : IsEntryOf input e x) (k : ℕ) (k_in : k ≤ length on)
      (point : IsPartitionPoint (λ a. is_passed (place_of e.from) e.support a ≡ true) (λ a. is_passed (place_of e.from) e.support a ≡ false) on k) where
    over_e : IsOver input e.support q (place_of e.to) q
    over_e = over_begin input is_turn.valid e is_e wide

    -- which of an entry and the piece stands under the other, from here on
    module _ (a : StatusEntry) (c : Contains on a) where
      o : Origin a
      o = origin a c

      over_a : is_over_x a.support q ≡ true
      over_a = over_it input a.support (place_of o.piece.from) (place_of o.piece.to) q o.over

      over_line : is_over_x e.support q ≡ true
      over_line = over_it input e.support q (place_of e.to) q over_e

      passed_is_under : is_passed q e.support a ≡ is_under a.support e.support q
      passed_is_under = (slanted_test input is_turn.valid e is_e wide).passed a.support over_a

      -- both over a later x
      a_over : (z : Point) → pos 0 <ℤ z.w → AtMost q z → goes_on z a ≡ true → IsOver input a.support (place_of o.piece.from) (place_of o.piece.to) z
      a_over z hz h going = record {
        lies = o.over.lies;
        positive = hz;
        begun = at_most_through (place_of o.piece.from) q z o.sound.piece.from_positive hq hz o.over.begun h;
        goes_on = subst (λ r. Left z r) o.entry.to (lt_true _ _ going);
      }

      e_over : (z : Point) → pos 0 <ℤ z.w → AtMost q z → goes_on z x ≡ true → IsOver input e.support q (place_of e.to) z
      e_over z hz h going = record { lies = over_e.lies; positive = hz; begun = h; goes_on = subst (λ r. Left z r) of_e.to (lt_true _ _ going) }

      stands_below : is_passed q e.support a ≡ true → StandsUnder q a x
      stands_below pass z hz h going_a going_x =
          subst (λ s. is_under a.support s z ≡ true) (sym of_e.support)
          (sym (under_stays input a.support e.support (place_of o.piece.from) (place_of o.piece.to) q (place_of e.to) q z o.over over_e (a_over z hz h going_a) (e_over z hz h going_x) h) ∙ sym passed_is_under ∙ pass)

      -- not on one line: they would be one piece
      not_level : is_level a.support e.support q ≡ true → ⊥
      not_level level = by (All-contains (λ p. ComesBefore p e) done o.piece come_before o.known)
        where
          a_support : is_over_x o.over.lies.piece.support q ≡ true
          a_support = support_over input a.support (place_of o.piece.from) (place_of o.piece.to) q o.over

          e_support : is_over_x over_e.lies.piece.support q ≡ true
          e_support = support_over input e.support q (place_of e.to) q over_e

          to_e : is_level o.over.lies.piece.support e.support q ≡ true
          to_e = level_through q hq o.over.lies.piece.support a.support e.support a_support over_a over_line (on_support input a.support (place_of o.piece.from) (place_of o.piece.to) q o.over) level

          both : is_level o.over.lies.piece.support over_e.lies.piece.support q ≡ true
          both = level_through q hq o.over.lies.piece.support e.support over_e.lies.piece.support a_support over_line e_support to_e (level_back q hq over_e.lies.piece.support e.support (on_support input e.support q (place_of e.to) q over_e))

          one : IsTrue (same_place (place_of o.piece.from) q)
          one = (one_piece_over input (place_of o.piece.from) (place_of o.piece.to) q (place_of e.to) q o.over.lies.piece over_e.lies.piece is_turn.valid hq
              (stretches input a.support (place_of o.piece.from) (place_of o.piece.to) q o.over) (stretches input e.support q (place_of e.to) q over_e) both).0

          no_turn : turn_of o.piece.support e.support ≡ pos 0
          no_turn = subst (λ s. turn_of s e.support ≡ pos 0) o.entry.support (level_parts a.support e.support q level).turn_none

          none : (z : ℤ) → z ≡ pos 0 → pos 0 <ℤ z → ⊥
          none z f g = omega (arith, ints)

          by : ComesBefore o.piece e → ⊥
          by (inl less) = not_before_self (place_of o.piece.from) q o.sound.piece.from_positive hq one less
          by (inr turned) = none (turn_of o.piece.support e.support) no_turn turned.1

      stands_above : is_passed q e.support a ≡ false → StandsUnder q x a
      stands_above out z hz h going_x going_a =
          subst (λ s. is_under s a.support z ≡ true) (sym of_e.support)
          (sym (under_stays input e.support a.support q (place_of e.to) (place_of o.piece.from) (place_of o.piece.to) q z over_e o.over (e_over z hz h going_x) (a_over z hz h going_a) h) ∙ under_it (told (is_under e.support a.support q)))
        where
          under_it : Told (is_under e.support a.support q) → is_under e.support a.support q ≡ true
          under_it (yes f) = f
          under_it (no f) = absurd (not_level (none_under q hq a.support e.support (sym passed_is_under ∙ out) f))

    pub passed_slanted : IsSwept input (take (i + 1) pieces) (place_of e.from) (take k on ++ x ∷ drop k on)
    passed_slanted =
        subst (λ d. IsSwept input d q (take k on ++ x ∷ drop k on)) (sym (take_more pieces i e is_turn.inside ∙ ap (λ y. done ++ y ∷ []) is_turn.here))
        (record {
          positive = hq;
          entries = all_insert (λ a. Any (λ p. IsEntryOf input p a) now) k x on (let c = Contains-push done e in (c.0, e, c.1, c.2, of_e)) entries_now;
          begun = begun_now;
          ahead = ahead_now;
          members = λ p c right. by p right (Contains-push_cases done e p c);
          ordered =
              pairs_insert (StandsUnder q) k x on ordered_now
              (λ j d l m. let j_in : j < length on = omega (arith, m, k_in) in stands_below (get_or on j d) (contains_at j d j_in) (point.0 j d l m))
              (λ j d l m. stands_above (get_or on j d) (contains_at j d m) (point.1 j d l m));
        })
      where
        by : (p : Elementary) → Left q (place_of p.to) → Contains done p ⊎ (e ≡ p) → Any (λ a. IsEntryOf input p a) (take k on ++ x ∷ drop k on)
        by p right (inl known) = any_insert (λ a. IsEntryOf input p a) k x on (old_member p known right)
        by p right (inr same) = let c = inserted k x on in (c.0, x, c.1, c.2, subst (λ (p : Elementary). IsEntryOf input p x) same of_e)
