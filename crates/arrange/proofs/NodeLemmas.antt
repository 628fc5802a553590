-- The places that are found along a segment are its nodes.
use Rattle.std.proofs.Common.{◌≡◌, ◌≢◌, ℕ, ◌+◌, ◌<◌, ◌*ℤ◌, ◌<ℤ◌, ◌≤ℤ◌, int_le, ◌⊎◌, inl, inr, List, refl, ap, sym, ◌∙◌, subst, lit<, arith}
use Rattle.std.specs.Prelude.{IsTrue, Any, Contains, flat_map}
use Rattle.std.proofs.lemmas.Int.{ints, by_lt_z}
use Rattle.std.proofs.lemmas.Bool.{cases_eq, and_parts}
use Rattle.std.proofs.lemmas.List.Elements.{Contains-append_left, Contains-append_right}
use Rattle.std.proofs.lemmas.List.FromFn.{get_or-range_with_len, length-range_with_len}
use Rattle.std.specs.declared.cmp.Ordering.TheVariants.{Less}
use Rattle.overlay_terms.specs.Plane.{Point, Segment, whole, whole_cmp, same_place}
use Rattle.overlay_terms.specs.Column.{border, columns, column_count}
use Rattle.overlay_terms.specs.Tiles.{Input}
use Rattle.overlay_terms.proofs.InputNumbers.{le_true, most_back, between_from_on, times_one}
use Rattle.overlay_terms.proofs.Lists.{in_flat_map}
use Rattle.overlay_terms.proofs.Whole.{same_most}
use Rattle.exact_point.proofs.BorderLemmas.{one_over_x}
use Rattle.exact_point.specs.PointName.{IsPlaceOf, IsCutOf}
use Rattle.exact_point.specs.declared.point_name.PointName.{PointName}
use Rattle.exact_point.specs.declared.point_name.PointName.TheVariants.{Vertex, Cross, Border}
use Rattle.exact_point.proofs.OnLine.{left_on_line, right_on_line, on_line}
use Rattle.exact_point.proofs.PlaceOrder.{same_turned}
use Rattle.exact_point.proofs.Nodes.{NodeCause, at_left, at_right, across, over_border, node_cause}
use Rattle.arrange.specs.Arrangement.{input_segments, IsNodeOn}
use Rattle.arrange.specs.NamedPlaces.{spot, own_names, names_with, names_along, AreFound}
use Rattle.arrange.specs.declared.named_place.NamedPlace.{NamedPlace}

-- a border between the two of a closed column is one of them
pub one_of_two : (j k : ℕ) → border k ≤ℤ (border j) → border j ≤ℤ (border (k + 1)) → (j ≡ k) ⊎ (j ≡ k + 1)
one_of_two j k low high = by (cases_eq j k) where
  by : (j ≡ k) ⊎ (j ≢ k) → (j ≡ k) ⊎ (j ≡ k + 1)
  by (inl e) = inl e
  by (inr n) = inr (omega (arith, ints))

module _ (input : Input) (s : Segment) (ahead : whole_cmp s.left s.right ≡ Less) (found : List NamedPlace) (h : AreFound input.column s (names_along input s) found) (p : Point) (n : IsNodeOn input s p) where
  abbrev There : Type 0
  There = Any (λ z. IsTrue (same_place p (spot z))) found

  there : (name : PointName) → Contains (names_along input s) name → IsPlaceOf name p → There
  there name c st = h.complete name p c n.positive st n.on_segment n.in_column

  among : (t : Segment) (name : PointName) → Contains (input_segments input) t → Contains (names_with s t) name → Contains (names_along input s) name
  among t name c d = Contains-append_right (own_names s input.column) (flat_map (names_with s) (input_segments input)) name (in_flat_map (names_with s) (input_segments input) t name c d)

  own : (name : PointName) → Contains (own_names s input.column) name → Contains (names_along input s) name
  own name c = Contains-append_left (own_names s input.column) (flat_map (names_with s) (input_segments input)) name c

  at_left_end : s.left.x <ℤ s.right.x → p.x ≡ s.left.x *ℤ p.w → There
  at_left_end wide e =
      there (Vertex s.left) (own (Vertex s.left) (0, lit< tt, refl))
      (one_over_x s (whole s.left) p wide (left_on_line s) (on_line s p n.on_segment) (sym e ∙ sym (times_one p.x)))

  at_right_end : s.left.x <ℤ s.right.x → p.x ≡ s.right.x *ℤ p.w → There
  at_right_end wide e =
      there (Vertex s.right) (own (Vertex s.right) (1, lit< tt, refl))
      (one_over_x s (whole s.right) p wide (right_on_line s) (on_line s p n.on_segment) (sym e ∙ sym (times_one p.x)))

  at_cut : (j : ℕ) → j < column_count → p.x ≡ border j *ℤ p.w → s.left.x <ℤ (border j) → (border j) <ℤ s.right.x → There
  at_cut j known e low high = by (one_of_two j input.column (most_back _ _ p.w n.positive lower) (most_back _ _ p.w n.positive higher)) where
    lower : (border input.column *ℤ p.w) ≤ℤ (border j *ℤ p.w)
    lower = rw (← e) (le_true _ _ (and_parts (int_le (border input.column *ℤ p.w) p.x) (int_le p.x (border (input.column + 1) *ℤ p.w)) n.in_column).0)

    higher : (border j *ℤ p.w) ≤ℤ (border (input.column + 1) *ℤ p.w)
    higher = rw (← e) (le_true _ _ (and_parts (int_le (border input.column *ℤ p.w) p.x) (int_le p.x (border (input.column + 1) *ℤ p.w)) n.in_column).1)

    cut : IsCutOf s j p
    cut = record { cut = record { known_column = known; after_left = low; before_right = high }; on_segment = n.on_segment; on_border = e }

    by : (j ≡ input.column) ⊎ (j ≡ input.column + 1) → There
    by (inl f) = let Q : ℕ → Type 0 = λ i. IsCutOf s i p in there (Border s input.column) (own (Border s input.column) (2, lit< tt, refl)) (subst Q f cut)
    by (inr f) = let Q : ℕ → Type 0 = λ i. IsCutOf s i p in there (Border s (input.column + 1)) (own (Border s (input.column + 1)) (3, lit< tt, refl)) (subst Q f cut)

  -- on a border, of a segment in the same direction
  at_border : (j : ℕ) → j < column_count → p.x ≡ border j *ℤ p.w → s.left.x <ℤ s.right.x → There
  at_border j known e wide =
      by_lt_z s.left.x (border j)
      (λ low. by_lt_z (border j) s.right.x (λ high. at_cut j known e low high)
      (λ high. at_right_end wide (e ∙ ap (λ z. z *ℤ p.w) (same_most (border j) s.right.x (most_back (border j) s.right.x p.w n.positive (rw (← e) right)) high))))
      (λ low. at_left_end wide (e ∙ ap (λ z. z *ℤ p.w) (sym (same_most s.left.x (border j) (most_back s.left.x (border j) p.w n.positive (rw (← e) left)) low))))
    where
      left : (s.left.x *ℤ p.w) ≤ℤ p.x
      left = (between_from_on s p n.on_segment).from_left

      right : p.x ≤ℤ (s.right.x *ℤ p.w)
      right = (between_from_on s p n.on_segment).to_right

  in_columns : (j : ℕ) → Contains columns j → j < column_count
  in_columns j c = omega (arith, c.1, length-range_with_len 0 column_count, sym (get_or-range_with_len 0 column_count c.0 j (omega (arith, c.1, length-range_with_len 0 column_count))) ∙ c.2)

  -- each node on the segment within the closed column is found
  pub node_found : There
  node_found = by (node_cause (input_segments input) s ahead p n.node) where
    by : NodeCause (input_segments input) s p → There
    by (at_left t c e) = there (Vertex t.left) (among t (Vertex t.left) c (0, lit< tt, refl)) (same_turned p (whole t.left) e)
    by (at_right t c e) = there (Vertex t.right) (among t (Vertex t.right) c (1, lit< tt, refl)) (same_turned p (whole t.right) e)
    by (across t c np on) =
        there (Cross s t) (among t (Cross s t) c (2, lit< tt, refl)) (record { not_parallel = np; on_first = n.on_segment; on_second = on })
    by (over_border j c e wide) = at_border j (in_columns j c) e wide
