-- What one more window adds.
use Rattle.std.proofs.Common.{◌≡◌, ℕ, ℤ, pos, ◌+ℤ◌, ◌+◌, ◌<◌, ◌≤◌, ap, sym, subst, ◌∙◌, arith, List, [], ◌∷◌, ◌++◌, length, take}
use Rattle.std.specs.Prelude.{get_or}
use Rattle.std.specs.List.{AllZip}
use Rattle.std.proofs.lemmas.Int.{ints}
use Rattle.std.proofs.lemmas.List.{take_all, take_more}
use Rattle.overlay_terms.specs.Trees.{Steps}
use Rattle.feature_windows.specs.Sums.{twice_in_all, IsOf, AreFoundIn}
use Rattle.feature_windows.specs.declared.found.Found.{Found}
use Rattle.feature_windows.specs.declared.window.Window.{Window}

-- one more of both
zip_more : {A B : Type 0} (R : A → B → Type 0) (xs : List A) (ys : List B) (x : A) (y : B) → AllZip R xs ys → R x y → AllZip R (xs ++ x ∷ []) (ys ++ y ∷ [])
zip_more R [] [] x y h r = (r, tt)
zip_more R [] (b ∷ ys) x y h r = absurd h
zip_more R (a ∷ xs) [] x y h r = absurd h
zip_more R (a ∷ xs) (b ∷ ys) x y h r = (h.0, zip_more R xs ys x y h.1 r)

grouped : (a b c : ℤ) → a +ℤ (b +ℤ c) ≡ (a +ℤ b) +ℤ c
grouped a b c = omega (arith, ints)

twice_more : (parts : List Found) (one : Found) → twice_in_all (parts ++ one ∷ []) ≡ twice_in_all parts +ℤ one.twice
twice_more [] one = let t : ℤ = one.twice in let e : t +ℤ pos 0 ≡ pos 0 +ℤ t = omega (arith, ints) in e
twice_more (first ∷ parts) one = ap (λ (z : ℤ). first.twice +ℤ z) (twice_more parts one) ∙ grouped first.twice (twice_in_all parts) one.twice

-- the first windows, and one more
pub windows_more : (windows : List Window) (steps : Steps) (x y : ℤ) (i : ℕ) (window : Window) (old one new : Found) → i < length windows → window ≡ get_or windows i window
    → AreFoundIn (take i windows) steps x y old → IsOf steps x y window one → new.twice ≡ old.twice +ℤ one.twice → AreFoundIn (take (i + 1) windows) steps x y new
windows_more windows steps x y i window old one new lt is before own sum = record {
  parts = before.parts ++ one ∷ [];
  each = subst (λ ws. AllZip (IsOf steps x y) ws (before.parts ++ one ∷ [])) (ap (λ w. take i windows ++ w ∷ []) is ∙ sym (take_more windows i window lt))
      (zip_more (IsOf steps x y) (take i windows) before.parts window one before.each own);
  twice = sum ∙ ap (λ (z : ℤ). z +ℤ one.twice) before.twice ∙ sym (twice_more before.parts one);
}

-- all windows, seen from the same place
pub windows_all : (windows : List Window) (steps : Steps) (i : ℕ) (u v x y : ℤ) (all : Found) → length windows ≤ i → u ≡ x → v ≡ y → AreFoundIn (take i windows) steps u v all → AreFoundIn windows steps x y all
windows_all windows steps i u v x y all past e f h =
    subst (λ z. AreFoundIn windows steps x z all) f (subst (λ z. AreFoundIn windows steps z v all) e (subst (λ ws. AreFoundIn ws steps u v all) (take_all i windows past) h))
