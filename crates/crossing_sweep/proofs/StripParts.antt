-- The tiles of a strip's columns: each has the pieces of the strip's boundary that begin there.
use Rattle.std.proofs.Common.{◌≡◌, ℕ, ℤ, pos, ◌+◌, ◌≤◌, ◌*ℤ◌, ◌<ℤ◌, ◌≤ℤ◌, true, List, filter, ◌∙◌, sym, arith}
use Rattle.std.specs.Prelude.{IsTrue, Any, Contains, int_le, int_lt, ◌&&◌}
use Rattle.std.specs.declared.cmp.Ordering.TheVariants.{Less}
use Rattle.std.proofs.lemmas.Int.{ints}
use Rattle.std.proofs.lemmas.Bool.{and_parts, and_from}
use Rattle.std.proofs.lemmas.List.Elements.{All-contains}
use Rattle.std.proofs.lemmas.List.Kept.{AllPairs-filter}
use Rattle.overlay_terms.specs.Plane.{Point, same_place}
use Rattle.overlay_terms.specs.Column.{border, is_in_column}
use Rattle.overlay_terms.specs.Tiles.{IsBoundary, pair_cmp, IsTileOf}
use Rattle.overlay_terms.proofs.InputNumbers.{most_times, le_true, lt_true, true_le, true_lt}
use Rattle.overlay_terms.proofs.Lists.{any_from, any_contains}
use Rattle.overlay_terms.proofs.InputLemmas.{input_law}
use Rattle.exact_point.proofs.SameMiddle.{in_column_alike}
use Rattle.crossing_sweep.specs.StripInput.{is_in_strip, StripInput, IsStripBoundary, IsStripTile, Span}
use Rattle.crossing_sweep.specs.StripCrossed.{StripParts}
use Rattle.crossing_sweep.proofs.PassLemmas.{all_of, filter_contains, contains_filter}

-- borders rise with their numbers
borders_rise : (j k : ℕ) → j ≤ k → border j ≤ℤ border k
borders_rise j k h = omega (arith, ints, h)

-- what lies in a column lies in a strip with it
in_strip_from : (strip : Span) (k : ℕ) (p : Point) → pos 0 <ℤ p.w → strip.first ≤ k → k ≤ strip.last → is_in_column k p ≡ true → is_in_strip strip p ≡ true
in_strip_from strip k p hp from to h =
    let parts = and_parts (int_le (border k *ℤ p.w) p.x) (int_lt p.x (border (k + 1) *ℤ p.w)) h in
    and_from (int_le (border strip.first *ℤ p.w) p.x) (int_lt p.x (border (strip.last + 1) *ℤ p.w))
    (true_le (border strip.first *ℤ p.w) p.x (through (most_times (border strip.first) (border k) p.w hp (borders_rise strip.first k from)) (le_true (border k *ℤ p.w) p.x parts.0)))
    (true_lt p.x (border (strip.last + 1) *ℤ p.w) (before (lt_true p.x (border (k + 1) *ℤ p.w) parts.1) (most_times (border (k + 1)) (border (strip.last + 1)) p.w hp (borders_rise (k + 1) (strip.last + 1) (omega (arith, to))))))
  where
    through : {a b c : ℤ} → a ≤ℤ b → b ≤ℤ c → a ≤ℤ c
    through {a} {b} {c} h l = omega (arith, ints, h, l)

    before : {a b c : ℤ} → a <ℤ b → b ≤ℤ c → a <ℤ c
    before {a} {b} {c} h l = omega (arith, ints, h, l)

module _ (input : StripInput) (tile : List (Point × Point)) (k : ℕ) (is : IsStripTile input tile) (from : input.strip.first ≤ k) (to : k ≤ input.strip.last) where
  abbrev OfStrip : Point × Point → Type 0
  OfStrip a = IsStripBoundary input.marked input.steps input.strip a.0 a.1

  abbrev OfColumn : Point × Point → Type 0
  OfColumn a = IsBoundary input.marked input.steps k a.0 a.1

  one : (a : Point × Point) → Contains (filter (λ (a : Point × Point). is_in_column k a.0) tile) a → OfColumn a
  one a c =
      let parts = filter_contains (λ (a : Point × Point). is_in_column k a.0) tile a c in
      let b : OfStrip a = All-contains OfStrip tile a is.are_some.sound parts.0 in
      record { piece = b.piece; column = parts.1; sides = b.sides }

  pub column_part : IsTileOf input.marked input.steps k (filter (λ a. is_in_column k a.0) tile)
  column_part = record {
    ordered = AllPairs-filter (λ (a b : Point × Point). pair_cmp a b ≡ Less) (λ (a : Point × Point). is_in_column k a.0) tile is.are_some.ordered;
    sound = all_of OfColumn (filter (λ (a : Point × Point). is_in_column k a.0) tile) one;
    complete = λ p r b. complete p r b;
  }
    where
      complete : (p r : Point) → IsBoundary input.marked input.steps k p r → Any (λ (a : Point × Point). IsTrue (same_place p a.0 && same_place r a.1)) (filter (λ (a : Point × Point). is_in_column k a.0) tile)
      complete p r b =
          let any = is.complete p r (record { piece = b.piece; begins = in_strip_from input.strip k p b.piece.from_positive from to b.column; sides = b.sides }) in
          let among = any_contains (λ (a : Point × Point). IsTrue (same_place p a.0 && same_place r a.1)) tile any in
          let there : OfStrip any.1 = All-contains OfStrip tile any.1 is.are_some.sound among in
          let same = (and_parts (same_place p any.1.0) (same_place r any.1.1) any.4).0 in
          any_from (λ (a : Point × Point). IsTrue (same_place p a.0 && same_place r a.1)) (filter (λ (a : Point × Point). is_in_column k a.0) tile) any.1
          (contains_filter (λ (a : Point × Point). is_in_column k a.0) tile any.1 among (sym (in_column_alike p any.1.0 b.piece.from_positive there.piece.from_positive same k) ∙ b.column)) any.4

pub strip_parts : StripParts
strip_parts input tile k valid is from to =
    (input_law input.marked input.steps k (filter (λ a. is_in_column k a.0) tile) (omega (arith, to, valid.known)) valid.proper).0 (column_part input tile k is from to)
