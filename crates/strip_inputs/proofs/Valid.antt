-- Of closed segments those that have a point in a strip are its input, and so are those of an input in a narrower one.
use Rattle.std.proofs.Common.{◌≡◌, ℕ, ◌+◌, ◌<◌, ◌≤◌, ℤ, pos, ◌*ℤ◌, ◌<ℤ◌, ◌≤ℤ◌, true, List, filter, map, ap, ◌∙◌, arith}
use Rattle.std.specs.Prelude.{◌%◌, ◌==◌, ◌&&◌, int_le, int_lt, All, count_by}
use Rattle.std.specs.Ordering.{int_eq}
use Rattle.std.proofs.lemmas.Int.{ints}
use Rattle.std.proofs.lemmas.Bool.{and_parts, and_from}
use Rattle.std.proofs.lemmas.Bool.Decides.{Decides-int_eq}
use Rattle.std.proofs.lemmas.List.Elements.{All-filter, filter_passes}
use Rattle.overlay_terms.specs.Plane.{WholePoint, Segment, whole, same_whole}
use Rattle.overlay_terms.specs.Column.{column_count, border, touches}
use Rattle.overlay_terms.specs.Trees.{Steps}
use Rattle.overlay_terms.specs.Layers.{layers_max, Marked}
use Rattle.overlay_terms.specs.TileLaws.{ends_at, IsProper, IsInput, AreClosed}
use Rattle.overlay_terms.proofs.InputNumbers.{left_most, le_true, lt_true, true_le, true_lt}
use Rattle.overlay_terms.proofs.InputLists.{count_kept_all}
use Rattle.arrange.specs.Marked.{marked_of}
use Rattle.arrange.specs.declared.marked_seg.MarkedSeg.{MarkedSeg}
use Rattle.crossing_sweep.specs.StripInput.{Span, is_in_strip, StripInput, part, strip_of, IsStripInput}
use Rattle.strip_inputs.specs.Strips.{meets, kept_in_strip}
use Rattle.strip_inputs.proofs.Parts.{borders_rise}

-- a whole point of a strip, by its x
record IsOver (strip : Span) (v : WholePoint) : Type 0 where
  pub low : border strip.first ≤ℤ v.x
  pub high : v.x <ℤ border (strip.last + 1)

is_over : (strip : Span) (v : WholePoint) → is_in_strip strip (whole v) ≡ true → IsOver strip v
is_over strip v h =
    let parts = and_parts (int_le (border strip.first *ℤ pos 1) v.x) (int_lt v.x (border (strip.last + 1) *ℤ pos 1)) h in
    record {
      low = once_le (border strip.first) v.x (le_true (border strip.first *ℤ pos 1) v.x parts.0);
      high = once_lt (border (strip.last + 1)) v.x (lt_true v.x (border (strip.last + 1) *ℤ pos 1) parts.1);
    }
  where
    once_le : (b x : ℤ) → (b *ℤ pos 1) ≤ℤ x → b ≤ℤ x
    once_le b x h = omega (arith, ints, h)

    once_lt : (b x : ℤ) → x <ℤ (b *ℤ pos 1) → x <ℤ b
    once_lt b x h = omega (arith, ints, h)

over_is : (strip : Span) (v : WholePoint) → IsOver strip v → is_in_strip strip (whole v) ≡ true
over_is strip v over =
    and_from (int_le (border strip.first *ℤ pos 1) v.x) (int_lt v.x (border (strip.last + 1) *ℤ pos 1))
    (true_le (border strip.first *ℤ pos 1) v.x (le_once (border strip.first) v.x over.low))
    (true_lt v.x (border (strip.last + 1) *ℤ pos 1) (lt_once (border (strip.last + 1)) v.x over.high))
  where
    le_once : (b x : ℤ) → b ≤ℤ x → (b *ℤ pos 1) ≤ℤ x
    le_once b x h = omega (arith, ints, h)

    lt_once : (b x : ℤ) → x <ℤ b → x <ℤ (b *ℤ pos 1)
    lt_once b x h = omega (arith, ints, h)

-- a whole point that is another has its x
x_alike : (a v : WholePoint) → same_whole a v ≡ true → a.x ≡ v.x
x_alike a v h = (Decides-int_eq a.x v.x).0 (and_parts (int_eq a.x v.x) (int_eq a.y v.y) h).0

module _ (strip : Span) (v : WholePoint) (over : IsOver strip v) (s : Segment) (proper : IsProper s) where
  -- a segment with an end at a point of the strip has a point there
  left_meets : same_whole s.left v ≡ true → meets strip s ≡ true
  left_meets h =
      let e : s.left.x ≡ v.x = x_alike s.left v h in
      let wide : s.left.x ≤ℤ s.right.x = left_most s proper.first in
      let low : border strip.first ≤ℤ v.x = over.low in
      let high : v.x <ℤ border (strip.last + 1) = over.high in
      let right : border strip.first ≤ℤ s.right.x = omega (arith, ints) in
      let left : s.left.x <ℤ border (strip.last + 1) = omega (arith, ints) in
      and_from (int_le (border strip.first) s.right.x) (int_lt s.left.x (border (strip.last + 1))) (true_le (border strip.first) s.right.x right) (true_lt s.left.x (border (strip.last + 1)) left)

  right_meets : same_whole s.right v ≡ true → meets strip s ≡ true
  right_meets h =
      let e : s.right.x ≡ v.x = x_alike s.right v h in
      let wide : s.left.x ≤ℤ s.right.x = left_most s proper.first in
      let low : border strip.first ≤ℤ v.x = over.low in
      let high : v.x <ℤ border (strip.last + 1) = over.high in
      let right : border strip.first ≤ℤ s.right.x = omega (arith, ints) in
      let left : s.left.x <ℤ border (strip.last + 1) = omega (arith, ints) in
      and_from (int_le (border strip.first) s.right.x) (int_lt s.left.x (border (strip.last + 1))) (true_le (border strip.first) s.right.x right) (true_lt s.left.x (border (strip.last + 1)) left)

-- the ends at a whole point of the strip are those of the segments that have a point there
ends_kept : (strip : Span) (marked : List Marked) (j : ℕ) (v : WholePoint) → IsOver strip v → All (λ m. IsProper m.segment) marked → ends_at (kept_in_strip strip marked) j v ≡ ends_at marked j v
ends_kept strip marked j v over proper = λ i. lefts i + rights i
  where
    lefts : count_by (λ (m : Marked). (m.layer == j) && same_whole m.segment.left v) (kept_in_strip strip marked) ≡ count_by (λ (m : Marked). (m.layer == j) && same_whole m.segment.left v) marked
    lefts =
        count_kept_all (λ (m : Marked). (m.layer == j) && same_whole m.segment.left v) (λ (m : Marked). meets strip m.segment) (λ (m : Marked). IsProper m.segment) marked
        (λ m is_proper h. left_meets strip v over m.segment is_proper (and_parts (m.layer == j) (same_whole m.segment.left v) h).1) proper

    rights : count_by (λ (m : Marked). (m.layer == j) && same_whole m.segment.right v) (kept_in_strip strip marked) ≡ count_by (λ (m : Marked). (m.layer == j) && same_whole m.segment.right v) marked
    rights =
        count_kept_all (λ (m : Marked). (m.layer == j) && same_whole m.segment.right v) (λ (m : Marked). meets strip m.segment) (λ (m : Marked). IsProper m.segment) marked
        (λ m is_proper h. right_meets strip v over m.segment is_proper (and_parts (m.layer == j) (same_whole m.segment.right v) h).1) proper

-- what is known of segments around a strip
record AreAround (strip : Span) (marked : List Marked) (steps : Steps) : Type 0 where
  pub in_order : strip.first ≤ strip.last
  pub known : strip.last < column_count
  pub few : steps.bases ≤ layers_max
  pub known_layers : All (λ m. m.layer < steps.bases) marked
  pub proper : All (λ m. IsProper m.segment) marked
  pub even : (k : ℕ) (v : WholePoint) → IsOver strip v → ends_at marked k v % 2 ≡ 0

around_valid : (strip : Span) (marked : List Marked) (steps : Steps) → AreAround strip marked steps → IsStripInput (record { strip = strip; marked = kept_in_strip strip marked; steps = steps })
around_valid strip marked steps are = record {
  in_order = are.in_order;
  known = are.known;
  few = are.few;
  known_layers = All-filter (λ (m : Marked). meets strip m.segment) (λ m. m.layer < steps.bases) marked are.known_layers;
  proper = All-filter (λ (m : Marked). meets strip m.segment) (λ m. IsProper m.segment) marked are.proper;
  even = λ j v h.
      let over : IsOver strip v = is_over strip v h in
      ap (λ n. n % 2) (ends_kept strip marked j v over are.proper) ∙ are.even j v over;
}

-- of closed segments
pub closed_valid : (strip : Span) (marked : List Marked) (steps : Steps) → strip.first ≤ strip.last → strip.last < column_count → steps.bases ≤ layers_max → All (λ m. m.layer < steps.bases) marked → AreClosed marked
    → IsStripInput (record { strip = strip; marked = kept_in_strip strip marked; steps = steps })
closed_valid strip marked steps in_order known few layers closed =
    around_valid strip marked steps (record { in_order = in_order; known = known; few = few; known_layers = layers; proper = closed.proper; even = λ k v over. closed.even k v })

-- of an input one column's
module _ (input : StripInput) (k : ℕ) (valid : IsStripInput input) (from : input.strip.first ≤ k) (to : k ≤ input.strip.last) where
  pub part_valid : IsStripInput (strip_of (part input k))
  part_valid =
      around_valid (record { first = k; last = k }) input.marked input.steps (record {
        in_order = omega arith;
        known = omega (arith, to, valid.known);
        few = valid.few;
        known_layers = valid.known_layers;
        proper = valid.proper;
        even = λ j v over. valid.even j v (over_is input.strip v (wider v over));
      })
    where
      through : {a b c : ℤ} → a ≤ℤ b → b ≤ℤ c → a ≤ℤ c
      through {a} {b} {c} h l = omega (arith, ints, h, l)

      before : {a b c : ℤ} → a <ℤ b → b ≤ℤ c → a <ℤ c
      before {a} {b} {c} h l = omega (arith, ints, h, l)

      wider : (v : WholePoint) → IsOver (record { first = k; last = k }) v → IsOver input.strip v
      wider v over = record {
        low = through (borders_rise input.strip.first k from) over.low;
        high = before over.high (borders_rise (k + 1) (input.strip.last + 1) (omega (arith, to)));
      }

  pub part_is_input : IsInput (part input k)
  part_is_input = record {
    column = part_valid.known;
    few = part_valid.few;
    touch = filter_passes (λ (m : Marked). touches k m.segment) input.marked;
    known_layers = part_valid.known_layers;
    proper = part_valid.proper;
    even = part_valid.even;
  }

-- of what is held in the form of the code, the segments that touch a column are its part
pub held_part : (input : StripInput) (k : ℕ) (strip : Span) (lent held : List MarkedSeg) (steps : Steps) → lent ≡ held → record { strip = strip; marked = map marked_of held; steps = steps } ≡ input
    → record { column = k; marked = filter (λ m. touches k m.segment) (map marked_of lent); steps = steps } ≡ part input k
held_part input k strip lent held steps same is =
    ap (λ (ms : List MarkedSeg). part (record { strip = strip; marked = map marked_of ms; steps = steps }) k) same ∙ ap (λ (i : StripInput). part i k) is
