-- Lists of segments that begin alike or end alike, compared in a column without what they have in common there.
use Rattle.std.proofs.Common.{◌≡◌, ℕ, ◌+◌, ◌-◌, ◌<◌, List, ◌∷◌, ◌++◌, length, filter, take, drop, get_or}
use Rattle.std.proofs.Common.{ap, sym, ◌∙◌, subst, arith}
use Rattle.std.specs.Cmp.Lexicographic.{pointwise, pointwise_decides}
use Rattle.std.proofs.lemmas.Bool.Decides.{same_from_decides, Decides-like}
use Rattle.std.proofs.lemmas.List.{take-append-drop, append_cancel_left, append_cancel_right}
use Rattle.std.proofs.lemmas.List.{take_more_same, take_all, length-drop}
use Rattle.std.proofs.lemmas.List.Elements.{filter-append}
use Rattle.overlay_terms.specs.Plane.{Segment}
use Rattle.overlay_terms.specs.Column.{touches}
use Rattle.overlay_terms.specs.SameInput.{same_segment, same_segment-Decides}
use Rattle.overlay_terms.proofs.Lists.{drop_there}
use Rattle.layer_book.specs.Touching.{same_in}

-- what is left of a list is all of what is left of it
pub whole_rest : (n : ℕ) (segs : List Segment) → take (length segs - n) (drop n segs) ≡ drop n segs
whole_rest n segs = take_all (length segs - n) (drop n segs) (omega (arith, length-drop n segs))

-- two pairs of lists, the lists of one pair the same just where those of the other are
told_alike : (us vs xs ys : List Segment) → (xs ≡ ys → us ≡ vs) → (us ≡ vs → xs ≡ ys)
    → pointwise same_segment us vs ≡ pointwise same_segment xs ys
told_alike us vs xs ys to from =
    same_from_decides (pointwise same_segment us vs) (pointwise same_segment xs ys)
    (pointwise_decides same_segment-Decides us vs)
    (Decides-like (pointwise same_segment xs ys) to from (pointwise_decides same_segment-Decides xs ys))

-- the segments that have a point in a column
abbrev kept : ℕ → List Segment → List Segment
kept column segs = filter (touches column) segs

module _ (column : ℕ) where
  -- those of a list, in two parts
  in_parts : (n : ℕ) (segs : List Segment) → kept column segs ≡ kept column (take n segs) ++ kept column (drop n segs)
  in_parts n segs =
      ap (kept column) (sym (take-append-drop n segs)) ∙ filter-append (touches column) (take n segs) (drop n segs)

  -- lists that begin alike are the same where what is left of them is
  pub after_same : (n : ℕ) (new old : List Segment) → take n new ≡ take n old
      → same_in column (drop n new) (drop n old) ≡ same_in column new old
  after_same n new old same =
      told_alike (kept column (drop n new)) (kept column (drop n old)) (kept column new) (kept column old)
      (λ e.
      append_cancel_left (kept column (take n new)) (kept column (drop n new)) (kept column (drop n old))
      (sym (in_parts n new) ∙ e ∙ in_parts n old ∙ ap (λ t. kept column t ++ kept column (drop n old)) (sym same)))
      (λ e. in_parts n new ∙ (λ i. kept column (same i) ++ e i) ∙ sym (in_parts n old))

  -- lists that end alike are the same where what comes before is
  pub before_same : (m n : ℕ) (new old : List Segment) → drop m new ≡ drop n old
      → same_in column (take m new) (take n old) ≡ same_in column new old
  before_same m n new old same =
      told_alike (kept column (take m new)) (kept column (take n old)) (kept column new) (kept column old)
      (λ e.
      append_cancel_right (kept column (take m new)) (kept column (take n old)) (kept column (drop m new))
      (sym (in_parts m new) ∙ e ∙ in_parts n old ∙ ap (λ t. kept column (take n old) ++ kept column t) (sym same)))
      (λ e. in_parts m new ∙ (λ i. e i ++ kept column (same i)) ∙ sym (in_parts n old))

-- a list's end with one segment more
one_more : (n : ℕ) (segs : List Segment) (s : Segment) → n < length segs → s ≡ get_or segs (length segs - 1 - n) s
    → drop (length segs - (n + 1)) segs ≡ s ∷ drop (length segs - n) segs
one_more n segs s h e =
    ap (λ k. drop k segs) (omega arith) ∙ drop_there segs (length segs - 1 - n) s (omega (arith, h)) e
    ∙ ap (λ k. s ∷ drop k segs) (omega (arith, h))

-- lists that end alike, with one segment more
pub end_more : (n : ℕ) (new old : List Segment) (s t : Segment) → n < length new → n < length old
    → s ≡ get_or new (length new - 1 - n) s → t ≡ get_or old (length old - 1 - n) t → s ≡ t
    → drop (length new - n) new ≡ drop (length old - n) old
    → drop (length new - (n + 1)) new ≡ drop (length old - (n + 1)) old
end_more n new old s t h k e f same rest =
    one_more n new s h e ∙ (λ i. same i ∷ rest i) ∙ sym (one_more n old t k f)

-- lists that begin alike, with one segment more
pub front_more : (n : ℕ) (new old : List Segment) (s t : Segment) → n < length new → n < length old
    → s ≡ get_or new n s → t ≡ get_or old n t → s ≡ t → take n new ≡ take n old
    → take (n + 1) new ≡ take (n + 1) old
front_more n new old s t h k e f same front =
    take_more_same new old n s h k front (sym e ∙ subst (λ r. r ≡ get_or old n r) (sym same) f)
