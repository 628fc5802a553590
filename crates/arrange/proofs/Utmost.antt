-- The utmost element of a list that passes a test, by an order.
use Rattle.std.proofs.Common.{◌≡◌, ◌⊎◌, inl, inr, true, false, Bool, List, [], ◌∷◌, refl, sym, subst}
use Rattle.std.specs.Prelude.{Contains}
use Rattle.std.proofs.lemmas.Bool.{both_ways}
use Rattle.overlay_terms.specs.Plane.{WholePoint}
use Rattle.overlay_terms.proofs.Lists.{Contains-cons_cases, none_in_empty, contains_first, contains_rest}

-- the utmost of the elements of a list that pass a test, by an order
pub record IsUtmost (lt : WholePoint → WholePoint → Type 0) (test : WholePoint → Bool) (list : List WholePoint) (start v : WholePoint) : Type 0 where
  pub among : (v ≡ start) ⊎ Contains list v
  pub passes : test v ≡ true
  pub utmost : (u : WholePoint) → Contains list u → test u ≡ true → lt v u → ⊥

module _ (lt : WholePoint → WholePoint → Type 0) (through : (a b c : WholePoint) → lt a b → lt b c → lt a c) (none : (a : WholePoint) → lt a a → ⊥) (either : (a b : WholePoint) → lt a b ⊎ (lt a b → ⊥)) (test : WholePoint → Bool) (start : WholePoint) (passes : test start ≡ true) where
  pub utmost_of : (list : List WholePoint) → (v : WholePoint) × IsUtmost lt test list start v
  utmost_of [] = (start, record { among = inl refl; passes = passes; utmost = λ u c. absurd (nothing u c) }) where
    nothing : (u : WholePoint) → Contains [] u → ⊥
    nothing u c = none_in_empty u c
  utmost_of (x ∷ xs) = by (utmost_of xs) (test x) refl
    where
      keep : (v : WholePoint) → IsUtmost lt test xs start v → (test x ≡ true → lt v x → ⊥) → IsUtmost lt test (x ∷ xs) start v
      keep v is out = record {
        among = behind is.among;
        passes = is.passes;
        utmost = λ u c. above u (Contains-cons_cases x xs u c);
      } where
        behind : (v ≡ start) ⊎ Contains xs v → (v ≡ start) ⊎ Contains (x ∷ xs) v
        behind (inl e) = inl e
        behind (inr c) = inr (contains_rest x xs v c)

        above : (u : WholePoint) → (x ≡ u) ⊎ Contains xs u → test u ≡ true → lt v u → ⊥
        above u (inl e) = subst (λ (w : WholePoint). test w ≡ true → lt v w → ⊥) e out
        above u (inr c) = is.utmost u c

      take_it : (v : WholePoint) → IsUtmost lt test xs start v → test x ≡ true → lt v x → IsUtmost lt test (x ∷ xs) start x
      take_it v is pass more = record {
        among = inr (contains_first x xs);
        passes = pass;
        utmost = λ u c. above u (Contains-cons_cases x xs u c);
      } where
        above : (u : WholePoint) → (x ≡ u) ⊎ Contains xs u → test u ≡ true → lt x u → ⊥
        above u (inl e) t l = none x (subst (λ (w : WholePoint). lt x w) (sym e) l)
        above u (inr c) t l = is.utmost u c t (through v x u more l)

      which : (v : WholePoint) → IsUtmost lt test xs start v → test x ≡ true → lt v x ⊎ (lt v x → ⊥) → (w : WholePoint) × IsUtmost lt test (x ∷ xs) start w
      which v is pass (inl more) = (x, take_it v is pass more)
      which v is pass (inr out) = (v, keep v is (λ e. out))

      by : (v : WholePoint) × IsUtmost lt test xs start v → (b : Bool) → test x ≡ b → (w : WholePoint) × IsUtmost lt test (x ∷ xs) start w
      by (v, is) true e = which v is e (either v x)
      by (v, is) false e = (v, keep v is (λ t l. both_ways (test x) e t))
