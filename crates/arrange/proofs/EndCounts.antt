-- What is counted of the ends of segments: of those that a pass has met, and of those before a place.
use Rattle.std.proofs.Common.{◌≡◌, ◌≢◌, ℕ, zero, suc, ◌+◌, ◌%◌, ◌^◌, ◌<◌, ◌≤◌, ◌==◌, Bool, true, false, not, ◌&&◌, ◌⊎◌, inl, inr, List, [], ◌∷◌, ◌++◌, cond, length, get_or, take, bit_xor, refl, ap, sym, ◌∙◌, arith}
use Rattle.std.specs.Prelude.{Contains, count_by}
use Rattle.std.specs.List.{list_any}
use Rattle.std.proofs.lemmas.Bool.{cases_eq, eq-eqb, ne_eqb, both_ways, false_from_ne_true}
use Rattle.std.proofs.lemmas.List.Folds.{Any-from_list_any}
use Rattle.std.proofs.lemmas.List.Sums.{sum_by-cons, sum_by_push, get_or-le-sum_by}
use Rattle.overlay_terms.specs.Trees.{mask_bits}
use Rattle.overlay_terms.specs.Layers.{Marked}
use Rattle.overlay_terms.proofs.InputLists.{any_from_Contains}
use Rattle.overlay_terms.proofs.Lists.{contains_first, contains_rest}
use Rattle.arrange.specs.LineEnds.{left_end, right_end, both_ends, IsCounted}
use Rattle.arrange.specs.declared.line_end.LineEnd.{LineEnd}
use Rattle.arrange.specs.declared.passed_ends.PassedEnds.{PassedEnds}
use Rattle.arrange.proofs.MaskLemmas.{turned_bit, other_bit}
use Rattle.arrange.proofs.UnitParts.{none_counted}

-- one more end is counted
pub counted_more : (ends : List LineEnd) (e : LineEnd) (before after : PassedEnds) → IsCounted ends before → after.begun ≡ before.begun + cond e.opens 1 0 → after.ended ≡ before.ended + cond (not e.opens) 1 0
    → after.mask ≡ bit_xor before.mask (2 ^ e.layer) → IsCounted (ends ++ e ∷ []) after
counted_more ends e before after was begun ended mask = record {
  begun = begun ∙ ap (λ n. n + cond e.opens 1 0) was.begun ∙ sym (sum_by_push (λ (x : LineEnd). cond x.opens 1 0) ends e);
  ended = ended ∙ ap (λ n. n + cond (not e.opens) 1 0) was.ended ∙ sym (sum_by_push (λ (x : LineEnd). cond (not x.opens) 1 0) ends e);
  mask = λ k few. ap (λ m. mask_bits m k) mask ∙ turned k few (cases_eq k e.layer);
} where
  more : (k : ℕ) (b : Bool) → (e.layer == k) ≡ b → count_by (λ (x : LineEnd). x.layer == k) (ends ++ e ∷ []) ≡ count_by (λ (x : LineEnd). x.layer == k) ends + cond b 1 0
  more k b f = sum_by_push (λ (x : LineEnd). cond (x.layer == k) 1 0) ends e ∙ ap (λ c. count_by (λ (x : LineEnd). x.layer == k) ends + cond c 1 0) f

  as_it_was : (n : ℕ) → n ≡ n + 0
  as_it_was n = omega arith

  turned : (k : ℕ) → k < 32 → (k ≡ e.layer) ⊎ (k ≢ e.layer) → mask_bits (bit_xor before.mask (2 ^ e.layer)) k ≡ (count_by (λ (x : LineEnd). x.layer == k) (ends ++ e ∷ []) % 2 == 1)
  turned k few (inl same) =
      ap (λ j. mask_bits (bit_xor before.mask (2 ^ j)) k) (sym same)
      ∙ turned_bit before.mask k (count_by (λ (x : LineEnd). x.layer == k) ends) (was.mask k few)
      ∙ ap (λ n. n % 2 == 1) (sym (more k true (eq-eqb e.layer k (sym same))))
  turned k few (inr other) =
      other_bit before.mask e.layer k other
      ∙ was.mask k few
      ∙ ap (λ n. n % 2 == 1) (as_it_was (count_by (λ (x : LineEnd). x.layer == k) ends) ∙ sym (more k false (ne_eqb e.layer k (λ f. other (sym f)))))

-- ---- tests that pass on the first elements alone
module _ {X : Type 0} (f g : X → Bool) where
  off : (a b : Bool) → b ≡ false → (a && b) ≡ false
  off true b e = e
  off false b e = refl

  on : (a b : Bool) → b ≡ true → (a && b) ≡ a
  on true b e = e
  on false b e = refl

  pub count_first : (i : ℕ) (xs : List X) → ((k : ℕ) (d : X) → k < i → k < length xs → g (get_or xs k d) ≡ true) → ((k : ℕ) (d : X) → i ≤ k → k < length xs → g (get_or xs k d) ≡ false)
      → count_by f (take i xs) ≡ count_by (λ x. f x && g x) xs
  count_first zero [] low high = refl
  count_first (suc i) [] low high = refl
  count_first zero (x ∷ xs) low high =
      count_first zero xs (λ k d l h. absurd (omega (arith, l))) (λ k d l h. high (suc k) d (omega arith) (omega (arith, h)))
      ∙ sym (sum_by-cons (λ x. cond (f x && g x) 1 0) x xs ∙ ap (λ b. cond b 1 0 + count_by (λ x. f x && g x) xs) (off (f x) (g x) (high 0 x (omega arith) (omega arith))) ∙ none (count_by (λ x. f x && g x) xs))
    where
      none : (n : ℕ) → 0 + n ≡ n
      none n = omega arith
  count_first (suc i) (x ∷ xs) low high =
      sum_by-cons (λ x. cond (f x) 1 0) x (take i xs)
      ∙ ap (λ n. cond (f x) 1 0 + n) (count_first i xs (λ k d l h. low (suc k) d (omega (arith, l)) (omega (arith, h))) (λ k d l h. high (suc k) d (omega (arith, l)) (omega (arith, h))))
      ∙ sym (sum_by-cons (λ x. cond (f x && g x) 1 0) x xs ∙ ap (λ b. cond b 1 0 + count_by (λ x. f x && g x) xs) (on (f x) (g x) (low 0 x (omega arith) (omega arith))))

-- ---- both ends of segments
-- those that pass a test are the left ends that pass it and the right ends that do
pub ends_counted : (h : LineEnd → Bool) (marked : List Marked) → count_by h (both_ends marked) ≡ count_by (λ m. h (left_end m)) marked + count_by (λ m. h (right_end m)) marked
ends_counted h [] = refl
ends_counted h (m ∷ ms) =
    sum_by-cons (λ e. cond (h e) 1 0) (left_end m) (right_end m ∷ both_ends ms)
    ∙ ap (λ n. cond (h (left_end m)) 1 0 + n) (sum_by-cons (λ e. cond (h e) 1 0) (right_end m) (both_ends ms) ∙ ap (λ n. cond (h (right_end m)) 1 0 + n) (ends_counted h ms))
    ∙ crossed (cond (h (left_end m)) 1 0) (cond (h (right_end m)) 1 0) (count_by (λ m. h (left_end m)) ms) (count_by (λ m. h (right_end m)) ms)
    ∙ sym (ap (λ n. n + count_by (λ m. h (right_end m)) (m ∷ ms)) (sum_by-cons (λ m. cond (h (left_end m)) 1 0) m ms)
    ∙ ap (λ n. (cond (h (left_end m)) 1 0 + count_by (λ m. h (left_end m)) ms) + n) (sum_by-cons (λ m. cond (h (right_end m)) 1 0) m ms))
  where
    crossed : (a b x y : ℕ) → a + (b + (x + y)) ≡ (a + x) + (b + y)
    crossed a b x y = omega arith

-- segments that have opened are those that are open and those that have closed
module _ (w opened closed open_now : Marked → Bool) where
  each : (w a b c : Bool) → c ≡ (a && not b) → (b ≡ true → a ≡ true) → cond (w && a) 1 0 ≡ cond (w && c) 1 0 + cond (w && b) 1 0
  each false a b c e h = refl
  each true true true c e h = ap (λ z. cond z 1 0 + 1) (sym e)
  each true true false c e h = ap (λ z. cond z 1 0 + 0) (sym e)
  each true false true c e h = absurd (both_ways false refl (h refl))
  each true false false c e h = ap (λ z. cond z 1 0 + 0) (sym e)

  pub opened_counted : (ms : List Marked) → ((m : Marked) → Contains ms m → open_now m ≡ (opened m && not (closed m))) → ((m : Marked) → Contains ms m → closed m ≡ true → opened m ≡ true)
      → count_by (λ m. w m && opened m) ms ≡ count_by (λ m. w m && open_now m) ms + count_by (λ m. w m && closed m) ms
  opened_counted [] told first = refl
  opened_counted (m ∷ ms) told first =
      sum_by-cons (λ m. cond (w m && opened m) 1 0) m ms
      ∙ sums (cond (w m && opened m) 1 0) (cond (w m && open_now m) 1 0) (cond (w m && closed m) 1 0) (count_by (λ m. w m && opened m) ms) (count_by (λ m. w m && open_now m) ms) (count_by (λ m. w m && closed m) ms)
      (each (w m) (opened m) (closed m) (open_now m) (told m (contains_first m ms)) (first m (contains_first m ms)))
      (opened_counted ms (λ n c. told n (contains_rest m ms n c)) (λ n c. first n (contains_rest m ms n c)))
      ∙ sym (ap (λ n. n + count_by (λ m. w m && closed m) (m ∷ ms)) (sum_by-cons (λ m. cond (w m && open_now m) 1 0) m ms)
      ∙ ap (λ n. (cond (w m && open_now m) 1 0 + count_by (λ m. w m && open_now m) ms) + n) (sum_by-cons (λ m. cond (w m && closed m) 1 0) m ms))
    where
      sums : (a b c x y z : ℕ) → a ≡ b + c → x ≡ y + z → a + x ≡ (b + y) + (c + z)
      sums a b c x y z e f = omega (arith, e, f)

-- ---- tests that some segment passes
pub any_counted : (p : Marked → Bool) (ms : List Marked) → 0 < count_by p ms → list_any p ms ≡ true
any_counted p ms h = by (list_any p ms) refl where
  by : (b : Bool) → list_any p ms ≡ b → list_any p ms ≡ true
  by true e = e
  by false e =
      let none : count_by p ms ≡ 0 = none_counted p ms (λ m c. false_from_ne_true (p m) (λ f. both_ways (list_any p ms) e (any_from_Contains p ms m c f))) in
      absurd (omega (arith, h, none))

pub counted_any : (p : Marked → Bool) (ms : List Marked) → list_any p ms ≡ true → 0 < count_by p ms
counted_any p ms e =
    let a = Any-from_list_any p ms e in
    some (get_or ms a.0 a.1) (ap p a.3 ∙ a.4) (get_or-le-sum_by (λ m. cond (p m) 1 0) ms a.0 a.1 a.2)
  where
    some : (m : Marked) → p m ≡ true → cond (p m) 1 0 ≤ count_by p ms → 0 < count_by p ms
    some m f h = omega (arith, rw f at h)
