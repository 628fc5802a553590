-- How a list of members grows with one more.
use Rattle.std.proofs.Common.{◌≡◌, ℕ, suc, ◌+◌, ◌<◌, List, [], ◌∷◌, ◌++◌, map, length, get_or, take, refl, sym, ap, ◌∙◌, append_assoc, codes, eqb, arith}
use Rattle.std.proofs.lemmas.Bool.{cond-false, ne_eqb}
use Rattle.std.proofs.lemmas.List.{map-append, take_more, length-map, length-take-le}
use Rattle.wkt_form.specs.Spelling.{comma_listed, listed_front}

later_front : (n : ℕ) → listed_front (suc n) ≡ codes ", "
later_front n = cond-false (eqb (suc n) 0) _ _ (ne_eqb (suc n) 0 (λ e. omega (arith, e)))

listed_push : (ms : List (List ℕ)) (m : List ℕ) → comma_listed (ms ++ m ∷ []) ≡ comma_listed ms ++ (listed_front (length ms) ++ m)
listed_push [] m = refl
listed_push (k ∷ []) m = refl
listed_push (k ∷ l ∷ ms) m = ap (λ text. k ++ (codes ", " ++ text)) (listed_push (l ∷ ms) m)
    ∙ ap (λ front. k ++ (codes ", " ++ (comma_listed (l ∷ ms) ++ (front ++ m)))) (later_front (length ms) ∙ sym (later_front (suc (length ms))))
    ∙ simp append_assoc

module _ {A : Type 0} where
  -- one more of the members of a list
  pub listed_more : (f : A → List ℕ) (xs : List A) (i : ℕ) (x : A) → i < length xs → x ≡ get_or xs i x → comma_listed (map f (take (i + 1) xs)) ≡ comma_listed (map f (take i xs)) ++ (listed_front i ++ f x)
  listed_more f xs i x within here =
      let count : length (map f (take i xs)) ≡ i = length-map (take i xs) f ∙ length-take-le i xs (omega arith) in
      ap (λ ys. comma_listed (map f ys)) (take_more xs i x within ∙ ap (λ y. take i xs ++ y ∷ []) (sym here))
      ∙ ap comma_listed (map-append f (take i xs) (x ∷ []))
      ∙ listed_push (map f (take i xs)) (f x)
      ∙ ap (λ n. comma_listed (map f (take i xs)) ++ (listed_front n ++ f x)) count

-- a text with one more member
pub joined : (before so_far front member old mid after whole : List ℕ) → after ≡ mid ++ member → mid ≡ old ++ front → old ≡ before ++ so_far → whole ≡ so_far ++ (front ++ member) → after ≡ before ++ whole
joined before so_far front member old mid after whole e1 e2 e3 e4 =
    e1 ∙ ap (λ t. t ++ member) (e2 ∙ ap (λ t. t ++ front) e3) ∙ (simp append_assoc) ∙ ap (λ t. before ++ t) (sym e4)
