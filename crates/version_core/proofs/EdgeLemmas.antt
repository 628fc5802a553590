-- The text of a tile's edges grows line by line.
use Rattle.std.specs.Prelude.{◌≡◌, ℕ, ◌+◌, ◌≤◌, List, [], ◌∷◌, ◌++◌, length, take, flat_map, codes, decimal, IsTrue}
use Rattle.std.proofs.Common.{zero, suc, ◌<◌, get_or, add-one, refl, ap, sym, ◌∙◌, subst, arith, append_assoc, append-nil}
use Rattle.std.proofs.lemmas.Grind.{flat_map-append}
use Rattle.overlay_terms.specs.Plane.{Point, WholePoint, whole, same_place}
use Rattle.std.proofs.lemmas.Int.{ints}
use Rattle.exact_point.specs.declared.point.HPoint.{HPoint}
use Rattle.exact_point.specs.declared.point_name.PointName.{PointName}
use Rattle.exact_point.specs.Place.{place}
use Rattle.exact_point.specs.PlaceOf.{place_of}
use Rattle.exact_point.specs.Reduced.{IsLowest}
use Rattle.exact_point.proofs.PlaceOrder.{same_self}
use Rattle.exact_point.proofs.ReducedLemmas.{whole_lowest}
use Rattle.version_core.specs.Edges.{edge_line, point_text, HasEndBefore, IsLineOf, IsLowestOf, AreLowest, IsTextOf}

-- the count of pieces and the lines of those so far
pub record IsBegun (count : ℕ) (ends : List (Point × Point)) (text : List ℕ) : Type 0 where
  pub lows : List (Point × Point)
  pub lowest : AreLowest ends lows
  pub is : text ≡ codes "edges " ++ (decimal count ++ (10 ∷ flat_map edge_line lows))

-- one more pair of ends in lowest terms
lowest-push : (ends lows : List (Point × Point)) (a low : Point × Point) → AreLowest ends lows → IsLowestOf a.0 low.0 → IsLowestOf a.1 low.1 → AreLowest (ends ++ a ∷ []) (lows ++ low ∷ [])
lowest-push [] [] a low h from to = (from, to, tt)
lowest-push [] (m ∷ lows) a low h from to = absurd h
lowest-push (b ∷ ends) [] a low h from to = absurd h
lowest-push (b ∷ ends) (m ∷ lows) a low h from to = (h.0, h.1, lowest-push ends lows a low h.2 from to)

-- there are as many as before
lowest_length : (ends lows : List (Point × Point)) → AreLowest ends lows → length ends ≡ length lows
lowest_length [] [] h = refl
lowest_length [] (m ∷ lows) h = absurd h
lowest_length (b ∷ ends) [] h = absurd h
lowest_length (b ∷ ends) (m ∷ lows) h =
    let rest : length ends ≡ length lows = lowest_length ends lows h.2 in
    omega arith

-- no line yet
pub begun : (count : ℕ) (text : List ℕ) → text ≡ codes "edges " ++ (decimal count ++ (10 ∷ [])) → IsBegun count [] text
begun count text e = record { lows = []; lowest = tt; is = e }

-- one line more, after those before
pub begun_more : (count : ℕ) (ends : List (Point × Point)) (a : Point × Point) (text made of_line : List ℕ) → IsBegun count ends text → IsLineOf a of_line → made ≡ text ++ of_line → IsBegun count (ends ++ a ∷ []) made
begun_more count ends a text made of_line h line end = let low = line.low in record {
  lows = h.lows ++ low ∷ [];
  lowest = lowest-push ends h.lows a low h.lowest line.from line.to;
  is =
      end ∙ ap (λ t. text ++ t) line.is ∙ ap (λ t. t ++ edge_line low) h.is ∙ append_assoc (codes "edges ") (decimal count ++ (10 ∷ flat_map edge_line h.lows)) (edge_line low)
      ∙ ap (λ t. codes "edges " ++ t) (append_assoc (decimal count) (10 ∷ flat_map edge_line h.lows) (edge_line low))
      ∙ ap (λ t. codes "edges " ++ (decimal count ++ (10 ∷ t))) (ap (λ t. flat_map edge_line h.lows ++ t) (sym (append-nil (edge_line low))) ∙ sym (flat_map-append edge_line h.lows (low ∷ [])));
}

-- all lines
pub text_of_all : (count : ℕ) (ends : List (Point × Point)) (text : List ℕ) → count ≡ length ends → IsBegun count ends text → IsTextOf ends text
text_of_all count ends text n h = record {
  lows = h.lows;
  lowest = h.lowest;
  is = h.is ∙ ap (λ k. codes "edges " ++ (decimal k ++ (10 ∷ flat_map edge_line h.lows))) (n ∙ lowest_length ends h.lows h.lowest);
}

take_next : (xs : List (Point × Point)) (i : ℕ) (x : Point × Point) → i < length xs → x ≡ get_or xs i x → take (suc i) xs ≡ take i xs ++ x ∷ []
take_next [] i x h e = absurd (omega arith)
take_next (y ∷ xs) zero x h e = ap (λ z. z ∷ []) (sym e)
take_next (y ∷ xs) (suc i) x h e = ap (λ ys. y ∷ ys) (take_next xs i x (omega arith) e)

-- the line of the piece at a place
pub begun_step : (count : ℕ) (pieces : List (Point × Point)) (i : ℕ) (a : Point × Point) (text made of_line : List ℕ) → i < length pieces → a ≡ get_or pieces i a → IsBegun count (take i pieces) text → IsLineOf a of_line → made ≡ text ++ of_line → IsBegun count (take (i + 1) pieces) made
begun_step count pieces i a text made of_line h here begun line end =
    subst (λ ends. IsBegun count ends made) (sym (ap (λ k. take k pieces) (add-one i) ∙ take_next pieces i a h here)) (begun_more count (take i pieces) a text made of_line begun line end)

-- a line from its two ends, the right one first
pub line_of_ends : (a : Point × Point) (ended with_to spaced made : List ℕ) → ended ≡ 10 ∷ [] → HasEndBefore ended with_to a.1 → spaced ≡ 32 ∷ with_to → HasEndBefore spaced made a.0 → IsLineOf a made
line_of_ends a ended with_to spaced made end to space from = record {
  low = (from.low, to.low);
  from = from.lowest;
  to = to.lowest;
  is =
      from.is ∙ ap (λ t. point_text from.low ++ t) (space ∙ ap (λ t. 32 ∷ t) (to.is ∙ ap (λ t. point_text to.low ++ t) end));
}

-- one end before a text, by the text of its name
pub end_before : (name wanted : PointName) (low : HPoint) (before after text : List ℕ) → name ≡ wanted → IsTrue (same_place (place low) (place_of name)) → IsLowest (place low) → text ≡ point_text (place low) → after ≡ text ++ before → length after ≤ length before + 64 → HasEndBefore before after (place_of wanted)
end_before name wanted low before after text named same lowest is e short = record {
  low = place low;
  lowest = record { same = subst (λ n. IsTrue (same_place (place low) (place_of n))) named same; positive = omega (arith, ints, low.w_low); lowest_terms = lowest };
  is = e ∙ ap (λ t. t ++ before) is;
  short = short;
}

-- one end before a text, a whole point
pub whole_before : (point : WholePoint) (before after : List ℕ) → after ≡ point_text (whole point) ++ before → length after ≤ length before + 64 → HasEndBefore before after (whole point)
whole_before point before after e short = record {
  low = whole point;
  lowest = record { same = same_self (whole point); positive = omega (arith, ints); lowest_terms = whole_lowest (whole point) refl };
  is = e;
  short = short;
}
