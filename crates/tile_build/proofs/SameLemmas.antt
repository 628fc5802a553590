-- Comparing pieces one after the other by the places of their ends.
use Rattle.std.proofs.Common.{◌≡◌, ℕ, ◌+◌, ◌<◌, Bool, true, false, List, [], ◌∷◌, ◌++◌, length, map, take, get_or, refl, ap, sym, ◌∙◌}
use Rattle.std.proofs.lemmas.Bool.{and_parts, and_from, false≢true, true≢false}
use Rattle.std.proofs.lemmas.List.{take_more}
use Rattle.std.proofs.Math.ListN.{get_or-map}
use Rattle.std.specs.Cmp.Lexicographic.{pointwise}
use Rattle.overlay_terms.specs.Plane.{Point, same_place}
use Rattle.overlay_terms.proofs.PointOrder.{is_eq_then}
use Rattle.exact_point.specs.Place.{place, same_hpoint}
use Rattle.exact_point.specs.declared.point.HPoint.{HPoint}
use Rattle.tile_laws.proofs.AlikeLists.{alike_at}

-- equal points are those at one place
pub same_places : (p q : HPoint) (a b : Point) (t : Bool) → place p ≡ a → place q ≡ b → t ≡ same_hpoint p q → t ≡ same_place a b
same_places p q a b t e f h = h ∙ is_eq_then _ _ ∙ (λ i. same_place (e i) (f i))

-- what is at a number of a list, and of its images
pub mapped_at : {X Y : Type 0} (f : X → Y) (xs : List X) (i : ℕ) (x : X) → x ≡ get_or xs i x → f x ≡ get_or (map f xs) i (f x)
mapped_at f xs i x h = ap f h ∙ sym (get_or-map f xs i x)

module _ {X : Type 0} (same : X → X → Bool) where
  pointwise-push : (xs ys : List X) (x y : X) → pointwise same xs ys ≡ true → same x y ≡ true → pointwise same (xs ++ x ∷ []) (ys ++ y ∷ []) ≡ true
  pointwise-push [] [] x y h e = and_from (same x y) true e refl
  pointwise-push [] (b ∷ ys) x y h e = absurd (false≢true h)
  pointwise-push (a ∷ xs) [] x y h e = absurd (false≢true h)
  pointwise-push (a ∷ xs) (b ∷ ys) x y h e =
      let parts = and_parts (same a b) (pointwise same xs ys) h in
      and_from (same a b) (pointwise same (xs ++ x ∷ []) (ys ++ y ∷ [])) parts.0 (pointwise-push xs ys x y parts.1 e)

  -- one pair more is the same
  pub pointwise_more : (xs ys : List X) (i : ℕ) (x y : X) → i < length xs → i < length ys → x ≡ get_or xs i x → y ≡ get_or ys i y → pointwise same (take i xs) (take i ys) ≡ true → same x y ≡ true → pointwise same (take (i + 1) xs) (take (i + 1) ys) ≡ true
  pointwise_more xs ys i x y h k at there so_far e =
      let first : take (i + 1) xs ≡ take i xs ++ x ∷ [] = take_more xs i x h ∙ ap (λ (z : X). take i xs ++ z ∷ []) (sym at) in
      let second : take (i + 1) ys ≡ take i ys ++ y ∷ [] = take_more ys i y k ∙ ap (λ (z : X). take i ys ++ z ∷ []) (sym there) in
      (λ j. pointwise same (first j) (second j)) ∙ pointwise-push (take i xs) (take i ys) x y so_far e

  -- lists with a pair that is not the same are not alike
  pub not_alike : (xs ys : List X) (i : ℕ) (x y : X) → i < length xs → x ≡ get_or xs i x → y ≡ get_or ys i y → same x y ≡ false → false ≡ pointwise same xs ys
  not_alike xs ys i x y h at there e = by (pointwise same xs ys) refl
    where
      by : (b : Bool) → pointwise same xs ys ≡ b → false ≡ b
      by false g = refl
      by true g = absurd (true≢false (sym (alike_at same xs ys g i x y h) ∙ (λ j. same (sym at j) (sym there j)) ∙ e))
