-- Tests and counts over a list, where a filter keeps all that passes.
use Rattle.std.specs.Prelude.{◌≡◌, suc, ◌+◌, Bool, true, false, List, [], ◌∷◌, map, filter, count_by, All, Contains, ◌||◌}
use Rattle.std.specs.List.{list_any}
use Rattle.std.proofs.Common.{refl, ap, sym, ◌∙◌, arith}
use Rattle.std.proofs.lemmas.Bool.{false≢true}
use Rattle.std.proofs.lemmas.List.Elements.{All-nil, All-cons, All-head, All-tail, All-weaker, All-filter, All-contains, All-contains_itself}
use Rattle.std.proofs.lemmas.List.Folds.{list_any_at}
use Rattle.overlay_terms.proofs.ClosedRings.{bit, count-cons}

module _ {X : Type 0} (f g : X → Bool) where
  -- one element more, by what the filter and the test say of it
  any_step : (P : X → Type 0) (x : X) (xs : List X) (b c : Bool) → g x ≡ b → f x ≡ c → (c ≡ true → b ≡ true) → list_any f (filter g xs) ≡ list_any f xs → list_any f (filter g (x ∷ xs)) ≡ list_any f (x ∷ xs)
  any_step P x xs true c eg ef kept same = rw eg (ap (λ r. f x || r) same)
  any_step P x xs false true eg ef kept same = absurd (false≢true (kept refl))
  any_step P x xs false false eg ef kept same = rw (eg, ef) same

  -- a filter that keeps all that passes a test changes no answer to it
  pub any_kept : (P : X → Type 0) (xs : List X) → ((x : X) → P x → f x ≡ true → g x ≡ true) → All P xs → list_any f (filter g xs) ≡ list_any f xs
  any_kept P [] kept all = refl
  any_kept P (x ∷ xs) kept all =
      any_step P x xs (g x) (f x) refl refl (kept x (All-head P x xs all)) (any_kept P xs kept (All-tail P x xs all))

  -- the same for a count
  count_step : (x : X) (xs : List X) (b c : Bool) → g x ≡ b → f x ≡ c → (c ≡ true → b ≡ true) → count_by f (filter g xs) ≡ count_by f xs → count_by f (filter g (x ∷ xs)) ≡ count_by f (x ∷ xs)
  -- the same for a count
  count_step x xs true c eg ef kept same = rw eg (count-cons f x (filter g xs) ∙ ap (λ r. bit (f x) + r) same ∙ sym (count-cons f x xs))
  -- the same for a count
  count_step x xs false true eg ef kept same = absurd (false≢true (kept refl))
  -- the same for a count
  count_step x xs false false eg ef kept same =
      let none : bit (f x) ≡ 0 = ap bit ef in
      let one : count_by f (x ∷ xs) ≡ bit (f x) + count_by f xs = count-cons f x xs in
      rw eg (omega arith)

  -- a filter that keeps all that passes a test changes no count
  pub count_kept : (xs : List X) → ((x : X) → f x ≡ true → g x ≡ true) → count_by f (filter g xs) ≡ count_by f xs
  count_kept [] kept = refl
  count_kept (x ∷ xs) kept = count_step x xs (g x) (f x) refl refl (kept x) (count_kept xs kept)

module _ {X : Type 0} (f g : X → Bool) where
  -- the same where all elements have what the filter needs
  pub count_kept_all : (P : X → Type 0) (xs : List X) → ((x : X) → P x → f x ≡ true → g x ≡ true) → All P xs → count_by f (filter g xs) ≡ count_by f xs
  count_kept_all P [] kept all = refl
  count_kept_all P (x ∷ xs) kept all =
      count_step f g x xs (g x) (f x) refl refl (kept x (All-head P x xs all)) (count_kept_all P xs kept (All-tail P x xs all))

module _ {X Y : Type 0} (g : Y → Bool) (v : X → Y) where
  -- one element more, by what the filter says of it
  map_step : (x : X) (xs : List X) (b : Bool) → g (v x) ≡ b → map v (filter (λ y. g (v y)) xs) ≡ filter g (map v xs) → map v (filter (λ y. g (v y)) (x ∷ xs)) ≡ filter g (map v (x ∷ xs))
  -- one element more, by what the filter says of it
  map_step x xs true e same = rw e (ap (λ r. v x ∷ r) same)
  -- one element more, by what the filter says of it
  map_step x xs false e same = rw e same

  -- a filter before a map, or after it
  pub map-filter : (xs : List X) → map v (filter (λ y. g (v y)) xs) ≡ filter g (map v xs)
  map-filter [] = refl
  map-filter (x ∷ xs) = map_step x xs (g (v x)) refl (map-filter xs)

module _ {X : Type 0} where
  -- what passes a test and is in a list is found
  pub any_from_Contains : (f : X → Bool) (xs : List X) (x : X) → Contains xs x → f x ≡ true → list_any f xs ≡ true
  any_from_Contains f xs x among passes = list_any_at f xs among.0 x among.1 (rw among.2 passes)

  -- what a filter leaves is in the list
  pub Contains-from_filter : (g : X → Bool) (xs : List X) (x : X) → Contains (filter g xs) x → Contains xs x
  Contains-from_filter g xs x among =
      All-contains (Contains xs) (filter g xs) x (All-filter g (Contains xs) xs (All-contains_itself xs)) among

  -- a first element that passes
  kept_here : (g : X → Bool) (x : X) (xs : List X) (b : Bool) → g x ≡ b → g x ≡ true → Contains (filter g (x ∷ xs)) x
  kept_here g x xs true e passes = rw e (0, omega arith, refl)
  kept_here g x xs false e passes = absurd (false≢true (sym e ∙ passes))

  -- an element that a filter of the rest leaves
  more_here : (g : X → Bool) (x : X) (xs : List X) (b : Bool) → g x ≡ b → (y : X) → Contains (filter g xs) y → Contains (filter g (x ∷ xs)) y
  more_here g x xs true e y among = rw e (suc among.0, omega (arith, among.1), among.2)
  more_here g x xs false e y among = rw e among

  -- each element that passes is in what the filter leaves
  all_kept : (g : X → Bool) (xs : List X) → All (λ x. g x ≡ true → Contains (filter g xs) x) xs
  all_kept g [] = All-nil (λ x. g x ≡ true → Contains (filter g []) x)
  all_kept g (x ∷ xs) =
      All-cons (λ y. g y ≡ true → Contains (filter g (x ∷ xs)) y) x xs (kept_here g x xs (g x) refl)
      (All-weaker (λ y. g y ≡ true → Contains (filter g xs) y) (λ y. g y ≡ true → Contains (filter g (x ∷ xs)) y) (λ y more passes. more_here g x xs (g x) refl y (more passes)) xs (all_kept g xs))

  -- what is in a list and passes is left by the filter
  pub Contains-filter : (g : X → Bool) (xs : List X) (x : X) → Contains xs x → g x ≡ true → Contains (filter g xs) x
  Contains-filter g xs x among = All-contains (λ y. g y ≡ true → Contains (filter g xs) y) xs x (all_kept g xs) among
