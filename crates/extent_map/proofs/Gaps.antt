-- Gaps between ascending extents.
use Rattle.std.proofs.Common.{◌≡◌, inl, inr, ℕ, zero, suc, ◌+◌, ◌<◌, ◌≤◌, List, [], ◌∷◌, ◌++◌, length, take, drop, get_or, sym, ◌∙◌, ap, subst, arith}
use Rattle.std.proofs.lemmas.List.{take-append-drop, take_more, at_drop_more}
use Rattle.std.specs.List.{AllByRecursion}
use Rattle.extent_map.specs.declared.extent.Extent.{Extent}
use Rattle.extent_map.specs.Extents.{IsApart, IsUnused, AreApart, AreAlike, Ascend, IsGap}

module _ {A : Type 0} (P : A → Type 0) where
  pub all_append : (xs ys : List A) → AllByRecursion P xs → AllByRecursion P ys → AllByRecursion P (xs ++ ys)
  all_append [] ys front back = back
  all_append (x ∷ xs) ys front back = (front.0, all_append xs ys front.1 back)

  pub all_front : (xs ys : List A) → AllByRecursion P (xs ++ ys) → AllByRecursion P xs
  all_front [] ys all = tt
  all_front (x ∷ xs) ys all = (all.0, all_front xs ys all.1)

  pub all_back : (xs ys : List A) → AllByRecursion P (xs ++ ys) → AllByRecursion P ys
  all_back [] ys all = all
  all_back (x ∷ xs) ys all = all_back xs ys all.1

  pub all_wider : (Q : A → Type 0) → ((x : A) → P x → Q x) → (xs : List A) → AllByRecursion P xs → AllByRecursion Q xs
  all_wider Q wider [] all = tt
  all_wider Q wider (x ∷ xs) all = (wider x all.0, all_wider Q wider xs all.1)

-- the list around one of its elements
pub split_at : {A : Type 0} (xs : List A) (i : ℕ) (x : A) → i < length xs → x ≡ get_or xs i x → drop i xs ≡ x ∷ drop (i + 1) xs
split_at {A} xs i x inside is = at_drop_more (λ (l : List A). l) xs i x inside ∙ ap (λ (y : A). y ∷ drop (i + 1) xs) (sym is)

-- those before a place, and one more
pub all_more : {A : Type 0} (P : A → Type 0) (xs : List A) (i : ℕ) (x : A) → i < length xs → x ≡ get_or xs i x → AllByRecursion P (take i xs) → P x → AllByRecursion P (take (i + 1) xs)
all_more {A} P xs i x inside is all here =
    let front : take (i + 1) xs ≡ take i xs ++ x ∷ [] = take_more xs i x inside ∙ ap (λ (y : A). take i xs ++ y ∷ []) (sym is) in
    subst (AllByRecursion P) (sym front) (all_append P (take i xs) (x ∷ []) all (here, tt))

ascend_back : (es fs : List Extent) → Ascend (es ++ fs) → Ascend fs
ascend_back [] fs ascends = ascends
ascend_back (e ∷ es) fs ascends = ascend_back es fs ascends.1

pub ascend_drop : (es : List Extent) (i : ℕ) → Ascend es → Ascend (drop i es)
ascend_drop es i ascends = ascend_back (take i es) (drop i es) (subst Ascend (sym (take-append-drop i es)) ascends)

-- an extent put in a gap
ascend_put : (es : List Extent) (e : Extent) (fs : List Extent) → AllByRecursion (λ d. d.block + d.blocks ≤ e.block) es → AllByRecursion (λ f. e.block + e.blocks ≤ f.block) fs
    → Ascend (es ++ fs) → Ascend (es ++ e ∷ fs)
ascend_put [] e fs before behind ascends = (behind, ascends)
ascend_put (d ∷ es) e fs before behind ascends = (
  all_append (λ f. d.block + d.blocks ≤ f.block) es (e ∷ fs) (all_front (λ f. d.block + d.blocks ≤ f.block) es fs ascends.0) (before.0, all_back (λ f. d.block + d.blocks ≤ f.block) es fs ascends.0),
  ascend_put es e fs before.1 behind ascends.1,
)

pub ascend_insert : (es : List Extent) (place : ℕ) (e : Extent) → Ascend es → IsGap es place e.block e.blocks → Ascend (take place es ++ e ∷ drop place es)
ascend_insert es place e ascends gap = ascend_put (take place es) e (drop place es) gap.before gap.behind (subst Ascend (sym (take-append-drop place es)) ascends)

pub alike_insert : (given es : List Extent) (place : ℕ) (e : Extent) → AreAlike given es → AreAlike (e ∷ given) (take place es ++ e ∷ drop place es)
alike_insert given es place e alike = record {
  there = λ start need free.
      let all = subst (λ (l : List Extent). IsUnused l start need) (sym (take-append-drop place es)) (alike.there start need free.1) in
      all_append (IsApart start need) (take place es) (e ∷ drop place es) (all_front (IsApart start need) (take place es) (drop place es) all) (free.0, all_back (IsApart start need) (take place es) (drop place es) all);
  back = λ start need free.
      let back = all_back (IsApart start need) (take place es) (e ∷ drop place es) free in (
        back.0,
        alike.back start need (subst (λ (l : List Extent). IsUnused l start need) (take-append-drop place es)
            (all_append (IsApart start need) (take place es) (drop place es) (all_front (IsApart start need) (take place es) (e ∷ drop place es) free) back.1)),
      );
}

pub alike_self : (es : List Extent) → AreAlike es es
alike_self es = record { there = λ start need free. free; back = λ start need free. free }

-- the last of what was given may come first
pub alike_last : (given : List Extent) (e : Extent) (es : List Extent) → AreAlike (e ∷ given) es → AreAlike (given ++ e ∷ []) es
alike_last given e es alike = record {
  there = λ start need free. alike.there start need ((all_back (IsApart start need) given (e ∷ []) free).0, all_front (IsApart start need) given (e ∷ []) free);
  back = λ start need free. let all = alike.back start need free in all_append (IsApart start need) given (e ∷ []) all.1 (all.0, tt);
}

-- a gap is free
pub gap_free : (es : List Extent) (place start need : ℕ) → IsGap es place start need → IsUnused es start need
gap_free es place start need gap =
    subst (λ (l : List Extent). IsUnused l start need) (take-append-drop place es)
    (all_append (IsApart start need) (take place es) (drop place es)
    (all_wider (λ e. e.block + e.blocks ≤ start) (IsApart start need) (λ e before. inr before) (take place es) gap.before)
    (all_wider (λ e. start + need ≤ e.block) (IsApart start need) (λ e behind. inl behind) (drop place es) gap.behind))

-- what is free of all is free of each
pub free_at : (es : List Extent) (i : ℕ) (e : Extent) (start need : ℕ) → i < length es → e ≡ get_or es i e → IsUnused es start need → IsApart start need e
free_at es i e start need inside is free =
    (subst (λ (l : List Extent). IsUnused l start need) (split_at es i e inside is) (all_back (IsApart start need) (take i es) (drop i es) (subst (λ (l : List Extent). IsUnused l start need) (sym (take-append-drop i es)) free))).0

-- from an extent that begins after a block on, all do
pub behind_from : (es : List Extent) (i : ℕ) (e : Extent) (end : ℕ) → i < length es → e ≡ get_or es i e → Ascend es → end ≤ e.block → AllByRecursion (λ f. end ≤ f.block) (drop i es)
behind_from es i e end inside is ascends behind =
    let here = split_at es i e inside is in
    let from : Ascend (e ∷ drop (i + 1) es) = subst Ascend here (ascend_drop es i ascends) in
    subst (AllByRecursion (λ f. end ≤ f.block)) (sym here)
    (behind, all_wider (λ f. e.block + e.blocks ≤ f.block) (λ f. end ≤ f.block) (λ f later. omega (arith, behind, later)) (drop (i + 1) es) from.0)

-- nothing comes after the last
pub nothing_behind : {A : Type 0} (P : A → Type 0) (xs : List A) (n : ℕ) → length xs ≤ n → AllByRecursion P (drop n xs)
nothing_behind P [] zero end = tt
nothing_behind P [] (suc n) end = tt
nothing_behind P (x ∷ xs) zero end = absurd (omega (arith, end))
nothing_behind P (x ∷ xs) (suc n) end = nothing_behind P xs n (omega (arith, end))

ends_before : (ds : List Extent) (e : Extent) (fs : List Extent) → Ascend (ds ++ e ∷ fs) → AllByRecursion (λ d. d.block + d.blocks ≤ e.block) ds
ends_before [] e fs ascends = tt
ends_before (d ∷ ds) e fs ascends = ((all_back (λ f. d.block + d.blocks ≤ f.block) ds (e ∷ fs) ascends.0).0, ends_before ds e fs ascends.1)

-- where an extent ends by some block, all before it do
pub all_by : (es : List Extent) (i : ℕ) (e : Extent) (block : ℕ) → i < length es → e ≡ get_or es i e → Ascend es → e.block + e.blocks ≤ block
    → AllByRecursion (λ d. d.block + d.blocks ≤ block) (take (i + 1) es)
all_by es i e block inside is ascends by =
    let around : take i es ++ e ∷ drop (i + 1) es ≡ es = ap (λ (l : List Extent). take i es ++ l) (sym (split_at es i e inside is)) ∙ take-append-drop i es in
    all_more (λ d. d.block + d.blocks ≤ block) es i e inside is
    (all_wider (λ d. d.block + d.blocks ≤ e.block) (λ d. d.block + d.blocks ≤ block) (λ d h. omega (arith, h, by)) (take i es)
    (ends_before (take i es) e (drop (i + 1) es) (subst Ascend (sym around) ascends))) by

-- where an extent does not end by some block, none after it does
pub none_by : (es : List Extent) (i : ℕ) (e : Extent) (block : ℕ) → i < length es → e ≡ get_or es i e → Ascend es → (e.block + e.blocks ≤ block → ⊥)
    → AllByRecursion (λ d. d.block + d.blocks ≤ block → ⊥) (drop i es)
none_by es i e block inside is ascends past =
    let here = split_at es i e inside is in
    let from : Ascend (e ∷ drop (i + 1) es) = subst Ascend here (ascend_drop es i ascends) in
    subst (AllByRecursion (λ d. d.block + d.blocks ≤ block → ⊥)) (sym here)
    (past, all_wider (λ f. e.block + e.blocks ≤ f.block) (λ f. f.block + f.blocks ≤ block → ⊥) (λ f later by. past (omega (arith, later, by))) (drop (i + 1) es) from.0)

apart_turned : (d e : Extent) → IsApart d.block d.blocks e → IsApart e.block e.blocks d
apart_turned d e (inl before) = inr before
apart_turned d e (inr behind) = inl behind

-- one extent more that is apart from all
pub apart_more : (es : List Extent) (e : Extent) → AreApart es → IsUnused es e.block e.blocks → AreApart (es ++ e ∷ [])
apart_more [] e apart free = (tt, tt)
apart_more (d ∷ es) e apart free = (
  all_append (IsApart d.block d.blocks) es (e ∷ []) apart.0 (apart_turned e d free.0, tt),
  apart_more es e apart.1 free.1,
)

-- where all are apart, each is apart from those before it
pub apart_before : (es : List Extent) (e : Extent) (fs : List Extent) → AreApart (es ++ e ∷ fs) → IsUnused es e.block e.blocks
apart_before [] e fs apart = tt
apart_before (d ∷ es) e fs apart = (apart_turned d e (all_back (IsApart d.block d.blocks) es (e ∷ fs) apart.0).0, apart_before es e fs apart.1)
