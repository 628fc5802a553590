-- Ranks: how many of a list stand under an element, and what an order says of them.
use Rattle.std.specs.Prelude.{◌≡◌, ℕ, ◌<◌, ◌≤◌, Bool, true, false, ◌&&◌, ltb, List, count_by, Contains}
use Rattle.std.proofs.Common.{refl, arith, ◌⊎◌, ⊎_elim}
use Rattle.std.proofs.lemmas.Bool.{and_parts, and_from, and_right, both_ways, ltb-true, lt-ltb, true_from_ne_false, false_from_ne_true}
use Rattle.tile_laws.proofs.Counts.{count_alike, count_most, count_less}
use Rattle.overlay_terms.proofs.Tests.{same_tests}

-- a test with what it says
pub data Told (b : Bool) : Type 0 where
  yes : b ≡ true → Told b
  no : b ≡ false → Told b

pub told : (b : Bool) → Told b
told true = yes refl
told false = no refl

-- of those that pass a test, the one orders them up to ties
pub record Orders {X : Type 0} (over : X → Bool) (under : X → X → Bool) : Type 0 where
  pub apart : (a b : X) → over a ≡ true → over b ≡ true → under a b ≡ true → under b a ≡ true → ⊥
  pub between : (a b c : X) → over a ≡ true → over b ≡ true → over c ≡ true → under a c ≡ true → (under a b ≡ true) ⊎ (under b c ≡ true)

-- a test that what is under passes too
pub record IsLower {X : Type 0} (over : X → Bool) (under : X → X → Bool) (below : X → Bool) : Type 0 where
  pub down : (a b : X) → over a ≡ true → over b ≡ true → below b ≡ true → under a b ≡ true → below a ≡ true
  pub up : (a b : X) → over a ≡ true → over b ≡ true → below a ≡ true → below b ≡ false → under a b ≡ true

-- how many of those that pass stand under one
abbrev pub rank : {X : Type 0} → (X → Bool) → (X → X → Bool) → List X → X → ℕ
rank over under xs s = count_by (λ x. over x && under x s) xs

module _ {X : Type 0} (over : X → Bool) (under : X → X → Bool) (xs : List X) (order : Orders over under) where
  -- one after the other
  through : (a b c : X) → over a ≡ true → over b ≡ true → over c ≡ true → under a b ≡ true → under b c ≡ true → under a c ≡ true
  through a b c oa ob oc h k = ⊎_elim (λ l. l) (λ l. absurd (order.apart b c ob oc k l)) (order.between a c b oa oc ob h)

  -- none is under itself
  not_itself : (a : X) → over a ≡ true → under a a ≡ false
  not_itself a oa = false_from_ne_true (under a a) (λ h. order.apart a a oa oa h h)

  -- what is under has a lower rank
  pub rank_less : (s t : X) → Contains xs s → over s ≡ true → over t ≡ true → under s t ≡ true → rank over under xs s < rank over under xs t
  rank_less s t among os ot h =
      count_less (λ x. over x && under x s) (λ x. over x && under x t) xs s among
      (λ k d l. λ e. let parts = and_parts (over _) (under _ s) e in and_from _ _ parts.0 (through _ s t parts.0 os ot parts.1 h))
      (and_right (over s) (under s s) (not_itself s os))
      (and_from (over s) (under s t) os h)

  -- what is under one of two that are level is under the other
  level_over : (s t : X) → over s ≡ true → over t ≡ true → under s t ≡ false → under t s ≡ false → (x : X) → (over x && under x s) ≡ true → (over x && under x t) ≡ true
  level_over s t os ot no_st no_ts x e =
      let parts = and_parts (over x) (under x s) e in
      and_from (over x) (under x t) parts.0 (⊎_elim (λ l. l) (λ l. absurd (both_ways (under t s) no_ts l)) (order.between x t s parts.0 ot os parts.1))

  -- what is level has the same rank
  pub rank_level : (s t : X) → over s ≡ true → over t ≡ true → under s t ≡ false → under t s ≡ false → rank over under xs s ≡ rank over under xs t
  rank_level s t os ot no_st no_ts =
      count_alike (λ x. over x && under x s) (λ x. over x && under x t) xs
      (λ k d l. same_tests _ _ (level_over s t os ot no_st no_ts _) (level_over t s ot os no_ts no_st _))

  -- under is a lower rank
  pub under_from_rank : (s t : X) → Contains xs t → over s ≡ true → over t ≡ true → rank over under xs s < rank over under xs t → under s t ≡ true
  under_from_rank s t among os ot less =
      elim (told (under s t)) [
        | yes h ↦ h
        | no h ↦ absurd (other h)
      ]
    where
      other : under s t ≡ false → ⊥
      other h = elim (told (under t s)) [
        | yes k ↦ let more : rank over under xs t < rank over under xs s = rank_less t s among ot os k in omega arith
        | no k ↦ let same : rank over under xs s ≡ rank over under xs t = rank_level s t os ot h k in omega arith
      ]

  -- the test for under, by ranks
  pub under_is : (s t : X) → Contains xs s → Contains xs t → over s ≡ true → over t ≡ true → under s t ≡ ltb (rank over under xs s) (rank over under xs t)
  under_is s t among_s among_t os ot =
      same_tests _ _ (λ h. lt-ltb _ _ (rank_less s t among_s os ot h)) (λ h. under_from_rank s t among_t os ot (ltb-true _ _ h))

  -- the same rank is level
  pub level_from_rank : (s t : X) → Contains xs s → over s ≡ true → over t ≡ true → rank over under xs s ≡ rank over under xs t → under s t ≡ false
  level_from_rank s t among os ot same =
      false_from_ne_true (under s t) (λ h. let less : rank over under xs s < rank over under xs t = rank_less s t among os ot h in omega arith)

  -- a lower test is one of ranks
  module _ (below : X → Bool) (lower : IsLower over under below) where
    -- how many pass it
    abbrev pub bound : ℕ
    bound = count_by (λ x. over x && below x) xs

    -- what passes has a rank below that
    low_rank : (t : X) → Contains xs t → over t ≡ true → below t ≡ true → rank over under xs t < bound
    low_rank t among ot h =
        count_less (λ x. over x && under x t) (λ x. over x && below x) xs t among
        (λ k d l. λ e. let parts = and_parts (over _) (under _ t) e in and_from _ _ parts.0 (lower.down _ t parts.0 ot h parts.1))
        (and_right (over t) (under t t) (not_itself t ot))
        (and_from (over t) (below t) ot h)

    -- what does not pass has none
    high_rank : (t : X) → over t ≡ true → below t ≡ false → bound ≤ rank over under xs t
    high_rank t ot h =
        count_most (λ x. over x && below x) (λ x. over x && under x t) xs
        (λ k d l. λ e. let parts = and_parts (over _) (below _) e in and_from _ _ parts.0 (lower.up _ t parts.0 ot parts.1 h))

    -- the test, by ranks
    pub below_is : (t : X) → Contains xs t → over t ≡ true → below t ≡ ltb (rank over under xs t) bound
    below_is t among ot = same_tests _ _ (λ h. lt-ltb _ _ (low_rank t among ot h)) back
      where
        back : ltb (rank over under xs t) bound ≡ true → below t ≡ true
        back h = true_from_ne_false (below t) (λ out. let most : bound ≤ rank over under xs t = high_rank t ot out in let less : rank over under xs t < bound = ltb-true _ _ h in omega arith)
