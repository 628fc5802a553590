-- A column is a strip: what a pass over it finds is what it finds over the strip of this column alone.
use Rattle.std.proofs.Common.{◌≡◌, ℕ, ℤ, pos, ◌+◌, ◌*ℤ◌, ◌<ℤ◌, ◌≤ℤ◌, inl, inr, ◌⊎◌, Bool, true, false, List, map, ap, subst, arith}
use Rattle.std.specs.Prelude.{IsTrue, ◌&&◌, not}
use Rattle.std.specs.List.{list_any}
use Rattle.std.specs.Ordering.{int_eq}
use Rattle.std.proofs.lemmas.Int.{ints}
use Rattle.std.proofs.lemmas.Bool.{and_parts}
use Rattle.std.proofs.lemmas.List.{length-map}
use Rattle.std.proofs.lemmas.List.Elements.{All-weaker}
use Rattle.std.proofs.lemmas.List.Folds.{Any-from_list_any}
use Rattle.overlay_terms.specs.Plane.{Point, Segment, same_place, is_on}
use Rattle.overlay_terms.specs.Column.{columns, border}
use Rattle.overlay_terms.specs.Tiles.{Input, is_on_border, is_vertical}
use Rattle.overlay_terms.specs.TileLaws.{IsInput}
use Rattle.overlay_terms.proofs.InputNumbers.{less_back, less_times, last_turned}
use Rattle.overlay_terms.proofs.PlaceLemmas.{IsSamePlace, places_alike}
use Rattle.exact_point.specs.PlaceOf.{place_of}
use Rattle.exact_point.proofs.PlaceOrder.{same_self, level_from}
use Rattle.tile_laws.proofs.Ranks.{Told, yes, no, told}
use Rattle.tile_laws.proofs.TileExists.{more_is_oversize}
use Rattle.arrange.proofs.NodeLemmas.{one_of_two}
use Rattle.crossing_sweep.specs.StripInput.{strip_of, segments_in}
use Rattle.crossing_sweep.specs.NodeNames.{named_ends}
use Rattle.crossing_sweep.specs.declared.node_name.NodeName.{NodeName}
use Rattle.crossing_sweep.specs.Crossed.{IsNodeIn, IsInner, HasFound}
use Rattle.crossing_sweep.specs.StripCrossed.{IsNodeInStrip, IsInnerInStrip, HasStripFound}
use Rattle.crossing_sweep.specs.declared.row.Row.{Row}
use Rattle.crossing_sweep.proofs.StripLemmas.{column_some, column_tile}

-- no place of a border lies strictly between the borders of a column
not_on_border : (segments : List Segment) (k : ℕ) (p z : Point) → pos 0 <ℤ p.w → pos 0 <ℤ z.w → IsTrue (same_place p z) → (border k *ℤ p.w) <ℤ p.x → p.x <ℤ (border (k + 1) *ℤ p.w) → is_on_border segments z ≡ true → ⊥
not_on_border segments k p z hp hz e low high on =
    let parts = and_parts (list_any (λ j. int_eq z.x (border j *ℤ z.w)) columns) (list_any (λ s. is_on s z && not (is_vertical s)) segments) on in
    let which = Any-from_list_any (λ j. int_eq z.x (border j *ℤ z.w)) columns parts.0 in
    at_one which.1 (level_from z.x (border which.1 *ℤ z.w) which.4)
  where
    alike : IsSamePlace p z
    alike = places_alike p z hp hz e

    under_it : (b c x w y v : ℤ) → pos 0 <ℤ v → x *ℤ v ≡ y *ℤ w → y ≡ c *ℤ v → (b *ℤ w) <ℤ x → (b *ℤ w) <ℤ (c *ℤ w)
    under_it b c x w y v hv f g h = less_back (b *ℤ w) (c *ℤ w) v hv (omega (arith, ints, f, ap (λ t. t *ℤ w) g, last_turned c v w, less_times (b *ℤ w) x v hv h))

    over_it : (b c x w y v : ℤ) → pos 0 <ℤ v → x *ℤ v ≡ y *ℤ w → y ≡ c *ℤ v → x <ℤ (b *ℤ w) → (c *ℤ w) <ℤ (b *ℤ w)
    over_it b c x w y v hv f g h = less_back (c *ℤ w) (b *ℤ w) v hv (omega (arith, ints, f, ap (λ t. t *ℤ w) g, last_turned c v w, less_times x (b *ℤ w) v hv h))

    at_one : (j : ℕ) → z.x ≡ border j *ℤ z.w → ⊥
    at_one j f =
        let after_low : border k <ℤ border j = less_back (border k) (border j) p.w hp (under_it (border k) (border j) p.x p.w z.x z.w hz alike.x_level f low) in
        let before_high : border j <ℤ border (k + 1) = less_back (border j) (border (k + 1)) p.w hp (over_it (border (k + 1)) (border j) p.x p.w z.x z.w hz alike.x_level f high) in
        by after_low before_high (one_of_two j k (most after_low) (most before_high))
      where
        most : {a b : ℤ} → a <ℤ b → a ≤ℤ b
        most {a} {b} h = omega (arith, ints, h)

        not_less : (a : ℤ) → a <ℤ a → ⊥
        not_less a h = omega (arith, ints, h)

        by : border k <ℤ border j → border j <ℤ border (k + 1) → (j ≡ k) ⊎ (j ≡ k + 1) → ⊥
        by h l (inl g) = not_less (border k) (let P : ℕ → Type 0 = λ i. border k <ℤ border i in subst P g h)
        by h l (inr g) = not_less (border (k + 1)) (let P : ℕ → Type 0 = λ i. border i <ℤ border (k + 1) in subst P g l)

-- what is found
pub column_found : (input : Input) (cap : ℕ) (listed : Bool) (rows : List Row) (names : List NodeName) (nodes : ℕ) (tests : List (Segment × Segment)) → IsInput input → HasStripFound (strip_of input) cap listed rows names nodes tests → HasFound input cap listed rows names nodes tests
column_found input cap listed rows names nodes tests valid found = record {
  spans = found.spans;
  sides = found.sides;
  numbered = found.numbered;
  tile = λ few. column_tile input (map (named_ends names) rows) (found.tile few);
  too_many = λ more. more_is_oversize input cap (map (named_ends names) rows) valid (column_some input (map (named_ends names) rows) found.are_some) (omega (arith, more, length-map rows (named_ends names)));
  stops = found.stops;
  all = found.all;
  among = found.among;
  counted = found.counted;
  named = found.named;
  are_nodes = record {
    ordered = found.are_nodes.ordered;
    nodes = All-weaker (IsNodeInStrip (strip_of input)) (IsNodeIn input) (λ p is. record { positive = is.positive; node = is.node; from = is.from; up_to = is.up_to }) (map place_of found.all) found.are_nodes.nodes;
    all = λ few p is. found.are_nodes.all few p (record { positive = is.positive; node = is.node; from = is.from; up_to = is.up_to });
  };
  few = found.few;
  pairs = found.pairs;
  unlisted = found.unlisted;
  crossings = λ l few p is. found.crossings l few p (inner p is);
}
  where
    most : (a b : ℤ) → a <ℤ b → a ≤ℤ b
    most a b h = omega (arith, ints, h)

    inner : (p : Point) → IsInner input p → IsInnerInStrip (strip_of input) p
    inner p is = record {
      is = record { positive = is.positive; node = is.node; from = most (border input.column *ℤ p.w) p.x is.after_border; up_to = most p.x (border (input.column + 1) *ℤ p.w) is.before_border };
      no_end = is.no_end;
      no_border = off (told (is_on_border (segments_in (strip_of input)) p));
    }
      where
        off : Told (is_on_border (segments_in (strip_of input)) p) → is_on_border (segments_in (strip_of input)) p ≡ false
        off (yes e) = absurd (not_on_border (segments_in (strip_of input)) input.column p p is.positive is.positive (same_self p) is.after_border is.before_border e)
        off (no e) = e
