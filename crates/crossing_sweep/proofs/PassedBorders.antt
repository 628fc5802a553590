-- Borders that do not lie between the ends of a segment: they offer no place.
use Rattle.std.proofs.Common.{◌≡◌, ℕ, ◌+◌, ◌<◌, ◌≤◌, List, [], ◌∷◌, ◌++◌, map, ap, sym, subst, ◌∙◌, append_assoc, arith, refl, zero, suc}
use Rattle.std.specs.List.{range_with_len}
use Rattle.std.proofs.lemmas.List.FromFn.{map-range_with_len_more}
use Rattle.overlay_terms.specs.Plane.{Segment}
use Rattle.exact_point.specs.PointName.{IsCutBy}
use Rattle.exact_point.specs.declared.point.HPoint.{HPoint}
use Rattle.exact_point.specs.declared.point_name.PointName.{PointName}
use Rattle.exact_point.specs.declared.point_name.PointName.TheVariants.{Border}
use Rattle.crossing_sweep.specs.StripInput.{Span}
use Rattle.crossing_sweep.specs.Ahead.{AreOffered}
use Rattle.crossing_sweep.proofs.KnownLemmas.{offered_nowhere}

-- borders that cut a segment nowhere, passed over after those that have offered theirs
module _ (strip : Span) (names : List PointName) (s : Segment) (found : List (HPoint × PointName)) (a n : ℕ) where
  abbrev cut : ℕ → PointName
  cut k = Border s k

  pub passed_over : AreOffered strip (names ++ map cut (range_with_len a n)) found → (m : ℕ) → ((k : ℕ) → a + n ≤ k → k < a + (n + m) → IsCutBy s k → ⊥) → AreOffered strip (names ++ map cut (range_with_len a (n + m))) found
  passed_over are zero none =
      let same : n ≡ n + 0 = omega arith in
      subst (λ j. AreOffered strip (names ++ map cut (range_with_len a j)) found) same are
  passed_over are (suc m) none =
      let same : (n + m) + 1 ≡ n + suc m = omega arith in
      let before = passed_over are m (λ k low high. none k low (omega (arith, high))) in
      let next = offered_nowhere strip (names ++ map cut (range_with_len a (n + m))) (cut (a + (n + m))) found before (λ p hp stands within. none (a + (n + m)) (omega arith) (omega arith) stands.cut) in
      subst (λ j. AreOffered strip (names ++ map cut (range_with_len a j)) found) same
      (subst (λ (l : List PointName). AreOffered strip l found) (append_assoc names (map cut (range_with_len a (n + m))) (cut (a + (n + m)) ∷ []) ∙ ap (λ (l : List PointName). names ++ l) (sym (map-range_with_len_more cut a (n + m) (a + (n + m)) refl))) next)
