-- What touches a column has a point in each strip with it, so the part of a strip's column is made of all segments that touch it.
use Rattle.std.proofs.Common.{◌≡◌, ℕ, ◌+◌, ◌≤◌, ℤ, ◌<ℤ◌, ◌≤ℤ◌, Bool, true, false, List, [], ◌∷◌, filter, refl, ap, sym, ◌∙◌, arith}
use Rattle.std.specs.Prelude.{int_le, int_lt}
use Rattle.std.proofs.lemmas.Int.{ints}
use Rattle.std.proofs.lemmas.Bool.{and_parts, and_from, false≢true}
use Rattle.overlay_terms.specs.Plane.{Segment}
use Rattle.overlay_terms.specs.Column.{border, touches}
use Rattle.overlay_terms.specs.Layers.{Marked}
use Rattle.overlay_terms.specs.Trees.{Steps}
use Rattle.overlay_terms.proofs.InputNumbers.{le_true, lt_true, true_le, true_lt}
use Rattle.crossing_sweep.specs.StripInput.{Span, StripInput, part}
use Rattle.strip_inputs.specs.Strips.{meets, kept_in_strip}

-- borders rise with their numbers
pub borders_rise : (j k : ℕ) → j ≤ k → border j ≤ℤ border k
borders_rise j k h = omega (arith, ints, h)

-- a segment with a point in a column has one in each strip with it
pub touching_meets : (strip : Span) (k : ℕ) (s : Segment) → strip.first ≤ k → k ≤ strip.last → touches k s ≡ true → meets strip s ≡ true
touching_meets strip k s from to h =
    let parts = and_parts (int_le (border k) s.right.x) (int_lt s.left.x (border (k + 1))) h in
    and_from (int_le (border strip.first) s.right.x) (int_lt s.left.x (border (strip.last + 1)))
    (true_le (border strip.first) s.right.x (through (borders_rise strip.first k from) (le_true (border k) s.right.x parts.0)))
    (true_lt s.left.x (border (strip.last + 1)) (before (lt_true s.left.x (border (k + 1)) parts.1) (borders_rise (k + 1) (strip.last + 1) (omega (arith, to)))))
  where
    through : {a b c : ℤ} → a ≤ℤ b → b ≤ℤ c → a ≤ℤ c
    through {a} {b} {c} h l = omega (arith, ints, h, l)

    before : {a b c : ℤ} → a <ℤ b → b ≤ℤ c → a <ℤ c
    before {a} {b} {c} h l = omega (arith, ints, h, l)

-- of two tests the one that passes less decides
module _ {X : Type 0} (p q : X → Bool) (less : (x : X) → p x ≡ true → q x ≡ true) where
  one_more : (x : X) (xs : List X) (b c : Bool) → p x ≡ b → q x ≡ c → filter p (filter q xs) ≡ filter p xs → filter p (filter q (x ∷ xs)) ≡ filter p (x ∷ xs)
  one_more x xs true true e f same = rw (e, f) (rw e (ap (λ ys. x ∷ ys) same))
  one_more x xs true false e f same = absurd (false≢true (sym f ∙ less x e))
  one_more x xs false true e f same = rw (e, f) (rw e same)
  one_more x xs false false e f same = rw (e, f) same

  pub filtered_twice : (xs : List X) → filter p (filter q xs) ≡ filter p xs
  filtered_twice [] = refl
  filtered_twice (x ∷ xs) = one_more x xs (p x) (q x) refl refl (filtered_twice xs)

-- so a column's segments are those of a strip with it that touch the column
pub column_of_strip : (strip : Span) (k : ℕ) (marked : List Marked) → strip.first ≤ k → k ≤ strip.last → filter (λ m. touches k m.segment) (kept_in_strip strip marked) ≡ filter (λ m. touches k m.segment) marked
column_of_strip strip k marked from to =
    filtered_twice (λ (m : Marked). touches k m.segment) (λ (m : Marked). meets strip m.segment) (λ m h. touching_meets strip k m.segment from to h) marked

pub part_of_strip : (strip : Span) (marked : List Marked) (steps : Steps) (input : StripInput) → input ≡ record { strip = strip; marked = kept_in_strip strip marked; steps = steps }
    → (k : ℕ) → strip.first ≤ k → k ≤ strip.last → part input k ≡ record { column = k; marked = filter (λ m. touches k m.segment) marked; steps = steps }
part_of_strip strip marked steps input is k from to = λ i. record { column = k; marked = marks i; steps = (is i).steps }
  where
    marks : filter (λ (m : Marked). touches k m.segment) input.marked ≡ filter (λ (m : Marked). touches k m.segment) marked
    marks = ap (λ (j : StripInput). filter (λ (m : Marked). touches k m.segment) j.marked) is ∙ column_of_strip strip k marked from to
