-- What is written of fields is written of the fields put together of them.
use Rattle.std.proofs.Common.{◌≡◌, inl, inr, ℕ, suc, ◌+◌, ◌^◌, ◌<◌, ◌≤◌, true, ◌&&◌, List, [], ◌∷◌, ◌++◌, length, take, get_or, Some, refl, sym, ap, subst, ◌∙◌, append_assoc, arith}
use Rattle.std.specs.Prelude.{nat_lt, ◌==◌}
use Rattle.std.specs.List.{flat_map, list_all}
use Rattle.std.proofs.lemmas.Bool.{and_from, lt-ltb, eq-eqb}
use Rattle.std.proofs.lemmas.List.{take_all, take_more, append-nil}
use Rattle.std.proofs.lemmas.List.Folds.{list_all-append}
use Rattle.byteorder.specs.Endian.{big_bytes}
use Rattle.store_terms.specs.Fields.{Field, AreBytes, IsField, number, both, repeated, counted, all_read}
use Rattle.store_terms.specs.Choices.{either, optional, one_of_three}
use Rattle.store_terms.proofs.FieldLemmas.{whole_again}
use Rattle.record_writing.specs.Putting.{IsPut, ArePut}

joined : (old a b mid new : List ℕ) → mid ≡ old ++ a → new ≡ mid ++ b → new ≡ old ++ (a ++ b)
joined old a b mid new first second = second ∙ ap (λ (l : List ℕ). l ++ b) first ∙ append_assoc old a b

pub put_number : (n x : ℕ) (old new : List ℕ) → x < 256 ^ n → new ≡ old ++ big_bytes n x → IsPut (number n) x old new
put_number n x old new small is = record { fits = lt-ltb x (256 ^ n) small; spelled = is }

one_byte : (b : ℕ) → b < 256 → big_bytes 1 b ≡ b ∷ []
one_byte b small = ap (λ (n : ℕ). n ∷ []) (omega arith)

pub put_byte : (b : ℕ) (old new : List ℕ) → b < 256 → new ≡ old ++ b ∷ [] → IsPut (number 1) b old new
put_byte b old new small is = put_number 1 b old new small (is ∙ ap (λ (l : List ℕ). old ++ l) (sym (one_byte b small)))

pub put_both : {A B : Type 0} (f : Field A) (g : Field B) (x : A) (y : B) (old mid new : List ℕ) → IsPut f x old mid
    → IsPut g y mid new → IsPut (both f g) (x, y) old new
put_both f g x y old mid new first second = record {
  fits = and_from (f.fits x) (g.fits y) first.fits second.fits;
  spelled = joined old (f.text x) (g.text y) mid new first.spelled second.spelled;
}

pub put_first : {A B : Type 0} (f : Field A) (g : Field B) (x : A) (old mid new : List ℕ) → mid ≡ old ++ 0 ∷ []
    → IsPut f x mid new → IsPut (either f g) (inl x) old new
put_first f g x old mid new tag put =
    record { fits = put.fits; spelled = joined old (0 ∷ []) (f.text x) mid new tag put.spelled }

pub put_second : {A B : Type 0} (f : Field A) (g : Field B) (y : B) (old mid new : List ℕ) → mid ≡ old ++ 1 ∷ []
    → IsPut g y mid new → IsPut (either f g) (inr y) old new
put_second f g y old mid new tag put =
    record { fits = put.fits; spelled = joined old (1 ∷ []) (g.text y) mid new tag put.spelled }

pub put_some : {A : Type 0} (f : Field A) (x : A) (old mid new : List ℕ) → mid ≡ old ++ 1 ∷ [] → IsPut f x mid new
    → IsPut (optional f) (Some x) old new
put_some f x old mid new tag put =
    record { fits = put.fits; spelled = joined old (1 ∷ []) (f.text x) mid new tag put.spelled }

module _ {A B C : Type 0} (f : Field A) (g : Field B) (h : Field C) (old mid new : List ℕ) where
  pub put_one : (x : A) → mid ≡ old ++ 0 ∷ [] → IsPut f x mid new → IsPut (one_of_three f g h) (inl x) old new
  put_one x tag put = record { fits = put.fits; spelled = joined old (0 ∷ []) (f.text x) mid new tag put.spelled }

  pub put_two : (y : B) → mid ≡ old ++ 1 ∷ [] → IsPut g y mid new → IsPut (one_of_three f g h) (inr (inl y)) old new
  put_two y tag put = record { fits = put.fits; spelled = joined old (1 ∷ []) (g.text y) mid new tag put.spelled }

  pub put_three : (z : C) → mid ≡ old ++ 2 ∷ [] → IsPut h z mid new → IsPut (one_of_three f g h) (inr (inr z)) old new
  put_three z tag put = record { fits = put.fits; spelled = joined old (2 ∷ []) (h.text z) mid new tag put.spelled }

-- ---- values one after another
module _ {A : Type 0} (f : Field A) where
  pub put_nothing : (old : List ℕ) → ArePut f [] old old
  put_nothing old = record { fits = refl; spelled = sym (append-nil old) }

  texts_behind : (xs : List A) (x : A) → flat_map f.text (xs ++ x ∷ []) ≡ flat_map f.text xs ++ f.text x
  texts_behind [] x = append-nil (f.text x)
  texts_behind (y ∷ xs) x =
      ap (λ (l : List ℕ). f.text y ++ l) (texts_behind xs x)
      ∙ sym (append_assoc (f.text y) (flat_map f.text xs) (f.text x))

  -- the text of the next of some values
  pub text_more : (xs : List A) (i : ℕ) (x : A) (front mid new : List ℕ) → i < length xs → x ≡ get_or xs i x
      → mid ≡ front ++ flat_map f.text (take i xs) → new ≡ mid ++ f.text x
      → new ≡ front ++ flat_map f.text (take (i + 1) xs)
  text_more xs i x front mid new lt is before behind =
      let so_far : take (i + 1) xs ≡ take i xs ++ x ∷ [] =
      take_more xs i x lt ∙ ap (λ (y : A). take i xs ++ y ∷ []) (sym is) in
      behind ∙ ap (λ (l : List ℕ). l ++ f.text x) before ∙ append_assoc front (flat_map f.text (take i xs)) (f.text x)
      ∙ ap (λ (l : List ℕ). front ++ l) (sym (ap (flat_map f.text) so_far ∙ texts_behind (take i xs) x))

  pub text_all : (xs : List A) (i : ℕ) (front new : List ℕ) → length xs ≤ i
      → new ≡ front ++ flat_map f.text (take i xs) → new ≡ front ++ flat_map f.text xs
  text_all xs i front new le is = is ∙ ap (λ (l : List A). front ++ flat_map f.text l) (take_all i xs le)

  one_behind : (xs : List A) (x : A) (old mid new : List ℕ) → ArePut f xs old mid → IsPut f x mid new
      → ArePut f (xs ++ x ∷ []) old new
  one_behind xs x old mid new before put = record {
    fits = list_all-append f.fits xs (x ∷ [])
        ∙ and_from (list_all f.fits xs) (f.fits x && true) before.fits (and_from (f.fits x) true put.fits refl);
    spelled = joined old (flat_map f.text xs) (f.text x) mid new before.spelled put.spelled
        ∙ ap (λ (l : List ℕ). old ++ l) (sym (texts_behind xs x));
  }

  -- the next of some values
  pub put_more : (xs : List A) (i : ℕ) (x : A) (old mid new : List ℕ) → i < length xs → x ≡ get_or xs i x
      → ArePut f (take i xs) old mid → IsPut f x mid new → ArePut f (take (i + 1) xs) old new
  put_more xs i x old mid new lt is before put =
      let front : take (i + 1) xs ≡ take i xs ++ x ∷ [] =
      take_more xs i x lt ∙ ap (λ (y : A). take i xs ++ y ∷ []) (sym is) in
      subst (λ (l : List A). ArePut f l old new) (sym front) (one_behind (take i xs) x old mid new before put)

  pub put_all : (xs : List A) (i : ℕ) (old new : List ℕ) → length xs ≤ i → ArePut f (take i xs) old new
      → ArePut f xs old new
  put_all xs i old new le put = subst (λ (l : List A). ArePut f l old new) (take_all i xs le) put

  pub put_counted : (w : ℕ) (xs : List A) (old mid new : List ℕ) → IsPut (number w) (length xs) old mid
      → ArePut f xs mid new → IsPut (counted w f) xs old new
  put_counted w xs old mid new count put = record {
    fits = and_from (nat_lt (length xs) (256 ^ w)) (list_all f.fits xs) count.fits put.fits;
    spelled = joined old (big_bytes w (length xs)) (flat_map f.text xs) mid new count.spelled put.spelled;
  }

  pub put_repeated : (n : ℕ) (xs : List A) (old new : List ℕ) → length xs ≡ n → ArePut f xs old new
      → IsPut (repeated n f) xs old new
  put_repeated n xs old new len put = record {
    fits = and_from (length xs == n) (list_all f.fits xs) (eq-eqb (length xs) n len) put.fits;
    spelled = put.spelled;
  }

bytes_spelled : (bytes : List ℕ) → AreBytes bytes → flat_map (number 1).text bytes ≡ bytes
bytes_spelled [] are = refl
bytes_spelled (b ∷ bs) are = (λ i. one_byte b (are 0) i ++ bytes_spelled bs (λ k. are (suc k)) i)

bytes_fit : (bytes : List ℕ) → AreBytes bytes → list_all (number 1).fits bytes ≡ true
bytes_fit [] are = refl
bytes_fit (b ∷ bs) are =
    and_from ((number 1).fits b) (list_all (number 1).fits bs) (lt-ltb b 256 (are 0)) (bytes_fit bs (λ k. are (suc k)))

-- bytes as they are
pub put_bytes : (bytes old new : List ℕ) → AreBytes bytes → new ≡ old ++ bytes → ArePut (number 1) bytes old new
put_bytes bytes old new are is =
    record { fits = bytes_fit bytes are; spelled = is ∙ ap (λ (l : List ℕ). old ++ l) (sym (bytes_spelled bytes are)) }

-- ---- a value alone
pub put_is_text : {A : Type 0} (f : Field A) (x : A) (old new : List ℕ) → old ≡ [] → IsPut f x old new → new ≡ f.text x
put_is_text f x old new none put = put.spelled ∙ ap (λ (l : List ℕ). l ++ f.text x) none

pub put_reads_back : {A : Type 0} (f : Field A) → IsField f → (x : A) (old new : List ℕ) → old ≡ [] → IsPut f x old new
    → all_read f new ≡ Some x
put_reads_back f is_f x old new none put =
    ap (all_read f) (put_is_text f x old new none put) ∙ whole_again f is_f x put.fits
