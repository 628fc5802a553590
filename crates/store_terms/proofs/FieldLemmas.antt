-- Each way to make a field of fields keeps: what is read is spelled so, and what is spelled so is read.
use Rattle.std.proofs.Common.{FitsSigned, ◌≡◌, ◌⊎◌, inl, inr, ℕ, zero, suc, ℤ, pos, negsuc, ◌+◌, ◌^◌, ◌<◌, ◌≤◌, Bool, true, false, cond, ltb, eqb, ◌&&◌, List, [], ◌∷◌, ◌++◌, length, take, drop, Option, Some, None, refl, sym, ap, subst, ◌∙◌, append_assoc, arith, length-append}
use Rattle.std.specs.List.{flat_map, list_all}
use Rattle.std.specs.Int.{w32, cast_signed, cast_unsigned}
use Rattle.std.proofs.lemmas.Int.{to_z-of_z, of_z-to_z}
use Rattle.std.proofs.lemmas.Bool.{cases_lt, ltb-true, ltb-false, lt-ltb, le-ltb, eqb-true, eq-eqb, and_parts, and_from, cond-true, cond-false}
use Rattle.std.proofs.lemmas.Option.{cond_some, same_Some}
use Rattle.std.proofs.lemmas.List.{drop_at, take-append-drop, length-take, get_or-drop, get_or-take, get_or_past, append-nil, nil_from_length}
use Rattle.std.proofs.lemmas.Nat.{be_bytes_2, be_bytes_4, be_bytes_8}
use Rattle.byteorder.specs.Endian.{big_number, big_bytes}
use Rattle.byteorder.specs.Numbers.{big_from-take, big_from-lt, big_number-reads_back, length-bytes_high_first}
use Rattle.store_terms.specs.Fields.{◌>>?◌, Field, AreBytes, IsField, number, both, made, sieved, read_many, repeated, counted, signed, all_read}
use Rattle.store_terms.specs.Choices.{read_either, either_text, either_fits, either, read_optional, optional_text, optional_fits, optional, read_one_of_three, one_of_three_text, one_of_three_fits, one_of_three}

-- the value of a step that gave one
pub bound : {A B : Type 0} (o : Option A) (f : A → Option B) (y : B) → (o >>? f) ≡ Some y → (x : A) × (o ≡ Some x) × (f x ≡ Some y)
bound (Some x) f y e = (x, refl, e)
bound None f y e = absurd cc

-- a test that was not passed gives nothing
pub unless : {A : Type 0} (b : Bool) (x y : A) → cond b None (Some x) ≡ Some y → (b ≡ false) × (x ≡ y)
unless true x y e = absurd cc
unless false x y e = (refl, same_Some x y e)

pub bytes-drop : (n : ℕ) (bytes : List ℕ) → AreBytes bytes → AreBytes (drop n bytes)
bytes-drop n bytes are i = rw get_or-drop (are (n + i))

pub bytes_behind : (bytes text rest : List ℕ) → bytes ≡ text ++ rest → AreBytes bytes → AreBytes rest
bytes_behind bytes text rest e are = subst AreBytes (ap (drop (length text)) e ∙ drop_at text rest (length text) refl) (bytes-drop (length text) bytes are)

-- a number of so many bytes is spelled back
abbrev pub IsSpelledBack : ℕ → Type 0
IsSpelledBack n = (bytes : List ℕ) → length bytes ≡ n → AreBytes bytes → big_bytes n (big_number n bytes) ≡ bytes

pub back_2 : IsSpelledBack 2
back_2 bytes len are = be_bytes_2 bytes (big_number 2 bytes) len are (omega arith)

pub back_4 : IsSpelledBack 4
back_4 bytes len are = be_bytes_4 bytes (big_number 4 bytes) len are (omega arith)

pub back_8 : IsSpelledBack 8
back_8 bytes len are = be_bytes_8 bytes (big_number 8 bytes) len are (omega arith)

pub back_1 : IsSpelledBack 1
back_1 [] len are = absurd (omega (arith, len))
back_1 (b ∷ []) len are =
    let small : b < 256 = are 0 in
    let value : big_number 1 (b ∷ []) ≡ b = omega arith in
    ap (λ (n : ℕ). big_bytes 1 n) value ∙ ap (λ (n : ℕ). n ∷ []) (omega arith)
back_1 (b ∷ c ∷ rest) len are = absurd (omega (arith, len))

take_bytes : (n : ℕ) (bytes : List ℕ) → n ≤ length bytes → AreBytes bytes → AreBytes (take n bytes)
take_bytes n bytes le are i =
    elim (cases_lt i n) [
      | inl lt ↦ rw (get_or-take n bytes i 0 lt) (are i)
      | inr past ↦ rw (get_or_past (take n bytes) i 0 (omega (arith, length-take n bytes))) (omega arith)
    ]

pub number_field : (n : ℕ) → IsSpelledBack n → IsField (number n)
number_field n back = record {
  takes = λ bytes x are e.
      let g = unless (ltb (length bytes) n) (big_number n bytes, drop n bytes) x e in
      let long : n ≤ length bytes = ltb-false (length bytes) n g.0 in
      let len : length (take n bytes) ≡ n = omega (arith, length-take n bytes, long) in
      let front : big_bytes n (big_number n bytes) ≡ take n bytes = ap (big_bytes n) (sym (big_from-take 0 n n bytes (omega arith))) ∙ back (take n bytes) len (take_bytes n bytes long are) in
      let whole_is : bytes ≡ big_bytes n (big_number n bytes) ++ drop n bytes = sym (take-append-drop n bytes) ∙ ap (λ (t : List ℕ). t ++ drop n bytes) (sym front) in
      let small : big_number n bytes < 256 ^ n = big_from-lt 0 n bytes are in
      subst (λ (y : ℕ × List ℕ). (bytes ≡ big_bytes n y.0 ++ y.1) × (ltb y.0 (256 ^ n) ≡ true)) g.1 (whole_is, lt-ltb _ _ small);
  again = λ x rest fits.
      let small : x < 256 ^ n = ltb-true x (256 ^ n) fits in
      let size : length (big_bytes n x ++ rest) ≡ n + length rest = length-append (big_bytes n x) rest ∙ ap (λ (k : ℕ). k + length rest) (length-bytes_high_first n x) in
      let long : ltb (length (big_bytes n x ++ rest)) n ≡ false = le-ltb _ _ (omega (arith, size)) in
      cond-false _ _ _ long ∙ (λ i. Some (big_number-reads_back n x rest small i, drop_at (big_bytes n x) rest n (length-bytes_high_first n x) i));
}

pub both_field : {A B : Type 0} (f : Field A) (g : Field B) → IsField f → IsField g → IsField (both f g)
both_field {A} {B} f g is_f is_g = record {
  takes = λ bytes x are e.
      let a = bound (f.read bytes) (λ a. g.read a.1 >>? λ b. Some ((a.0, b.0), b.1)) x e in
      let b = bound (g.read a.0.1) (λ b. Some ((a.0.0, b.0), b.1)) x a.2 in
      let first = is_f.takes bytes a.0 are a.1 in
      let second = is_g.takes a.0.1 b.0 (bytes_behind bytes (f.text a.0.0) a.0.1 first.0 are) b.1 in
      let parts : bytes ≡ (f.text a.0.0 ++ g.text b.0.0) ++ b.0.1 =
      first.0 ∙ ap (λ (t : List ℕ). f.text a.0.0 ++ t) second.0 ∙ sym (append_assoc (f.text a.0.0) (g.text b.0.0) b.0.1) in
      subst (λ (y : (A × B) × List ℕ). (bytes ≡ (both f g).text y.0 ++ y.1) × ((both f g).fits y.0 ≡ true)) (same_Some ((a.0.0, b.0.0), b.0.1) x b.2)
      (parts, and_from (f.fits a.0.0) (g.fits b.0.0) first.1 second.1);
  again = λ x rest fits.
      let p = and_parts (f.fits x.0) (g.fits x.1) fits in
      let grouped : (f.text x.0 ++ g.text x.1) ++ rest ≡ f.text x.0 ++ (g.text x.1 ++ rest) = append_assoc (f.text x.0) (g.text x.1) rest in
      let first : f.read ((f.text x.0 ++ g.text x.1) ++ rest) ≡ Some (x.0, g.text x.1 ++ rest) = ap f.read grouped ∙ is_f.again x.0 (g.text x.1 ++ rest) p.0 in
      ap (λ (o : Option (A × List ℕ)). o >>? λ a. g.read a.1 >>? λ b. Some ((a.0, b.0), b.1)) first
      ∙ ap (λ (o : Option (B × List ℕ)). o >>? λ b. Some ((x.0, b.0), b.1)) (is_g.again x.1 rest p.1);
}

pub made_field : {A B : Type 0} (from : A → B) (back : B → A) (f : Field A) → ((a : A) → back (from a) ≡ a) → ((b : B) → from (back b) ≡ b) → IsField f → IsField (made from back f)
made_field {A} {B} from back f there here is_f = record {
  takes = λ bytes x are e.
      let a = bound (f.read bytes) (λ a. Some (from a.0, a.1)) x e in
      let first = is_f.takes bytes a.0 are a.1 in
      subst (λ (y : B × List ℕ). (bytes ≡ f.text (back y.0) ++ y.1) × (f.fits (back y.0) ≡ true)) (same_Some (from a.0.0, a.0.1) x a.2)
      (subst (λ (c : A). (bytes ≡ f.text c ++ a.0.1) × (f.fits c ≡ true)) (sym (there a.0.0)) first);
  again = λ x rest fits.
      ap (λ (o : Option (A × List ℕ)). o >>? λ a. Some (from a.0, a.1)) (is_f.again (back x) rest fits) ∙ ap (λ (b : B). Some (b, rest)) (here x);
}

pub sieved_field : {A : Type 0} (test : A → Bool) (f : Field A) → IsField f → IsField (sieved test f)
sieved_field {A} test f is_f = record {
  takes = λ bytes x are e.
      let a = bound (f.read bytes) (λ a. cond (test a.0) (Some a) None) x e in
      let passed = cond_some (test a.0.0) a.0 x a.2 in
      let first = is_f.takes bytes a.0 are a.1 in
      subst (λ (y : A × List ℕ). (bytes ≡ f.text y.0 ++ y.1) × ((f.fits y.0 && test y.0) ≡ true)) passed.1 (first.0, and_from (f.fits a.0.0) (test a.0.0) first.1 passed.0);
  again = λ x rest fits.
      let p = and_parts (f.fits x) (test x) fits in
      ap (λ (o : Option (A × List ℕ)). o >>? λ a. cond (test a.0) (Some a) None) (is_f.again x rest p.0) ∙ cond-true (test x) (Some (x, rest)) None p.1;
}

many_take : {A : Type 0} (f : Field A) → IsField f → (n : ℕ) (bytes : List ℕ) (x : List A × List ℕ) → AreBytes bytes → read_many f.read n bytes ≡ Some x → (bytes ≡ flat_map f.text x.0 ++ x.1) × (length x.0 ≡ n) × (list_all f.fits x.0 ≡ true)
many_take {A} f is_f zero bytes x are e =
    subst (λ (y : List A × List ℕ). (bytes ≡ flat_map f.text y.0 ++ y.1) × (length y.0 ≡ 0) × (list_all f.fits y.0 ≡ true)) (same_Some ([], bytes) x e) (refl, refl, refl)
many_take {A} f is_f (suc n) bytes x are e =
    let a = bound (f.read bytes) (λ a. read_many f.read n a.1 >>? λ b. Some (a.0 ∷ b.0, b.1)) x e in
    let b = bound (read_many f.read n a.0.1) (λ b. Some (a.0.0 ∷ b.0, b.1)) x a.2 in
    let first = is_f.takes bytes a.0 are a.1 in
    let second = many_take f is_f n a.0.1 b.0 (bytes_behind bytes (f.text a.0.0) a.0.1 first.0 are) b.1 in
    let parts : bytes ≡ (f.text a.0.0 ++ flat_map f.text b.0.0) ++ b.0.1 =
    first.0 ∙ ap (λ (t : List ℕ). f.text a.0.0 ++ t) second.0 ∙ sym (append_assoc (f.text a.0.0) (flat_map f.text b.0.0) b.0.1) in
    subst (λ (y : List A × List ℕ). (bytes ≡ flat_map f.text y.0 ++ y.1) × (length y.0 ≡ suc n) × (list_all f.fits y.0 ≡ true)) (same_Some (a.0.0 ∷ b.0.0, b.0.1) x b.2)
    (parts, ap suc second.1, and_from (f.fits a.0.0) (list_all f.fits b.0.0) first.1 second.2)

many_again : {A : Type 0} (f : Field A) → IsField f → (xs : List A) (rest : List ℕ) → list_all f.fits xs ≡ true → read_many f.read (length xs) (flat_map f.text xs ++ rest) ≡ Some (xs, rest)
many_again f is_f [] rest fits = refl
many_again {A} f is_f (x ∷ xs) rest fits =
    let p = and_parts (f.fits x) (list_all f.fits xs) fits in
    let grouped : (f.text x ++ flat_map f.text xs) ++ rest ≡ f.text x ++ (flat_map f.text xs ++ rest) = append_assoc (f.text x) (flat_map f.text xs) rest in
    ap (λ (o : Option (A × List ℕ)). o >>? λ a. read_many f.read (length xs) a.1 >>? λ b. Some (a.0 ∷ b.0, b.1)) (ap f.read grouped ∙ is_f.again x (flat_map f.text xs ++ rest) p.0)
    ∙ ap (λ (o : Option (List A × List ℕ)). o >>? λ b. Some (x ∷ b.0, b.1)) (many_again f is_f xs rest p.1)

pub repeated_field : {A : Type 0} (n : ℕ) (f : Field A) → IsField f → IsField (repeated n f)
repeated_field n f is_f = record {
  takes = λ bytes x are e. let m = many_take f is_f n bytes x are e in (m.0, and_from (eqb (length x.0) n) (list_all f.fits x.0) (eq-eqb (length x.0) n m.1) m.2);
  again = λ xs rest fits.
      let p = and_parts (eqb (length xs) n) (list_all f.fits xs) fits in
      ap (λ (k : ℕ). read_many f.read k (flat_map f.text xs ++ rest)) (sym (eqb-true (length xs) n p.0)) ∙ many_again f is_f xs rest p.1;
}

pub counted_field : {A : Type 0} (w : ℕ) (f : Field A) → IsField (number w) → IsField f → IsField (counted w f)
counted_field {A} w f is_number is_f = record {
  takes = λ bytes x are e.
      let n = bound ((number w).read bytes) (λ n. read_many f.read n.0 n.1) x e in
      let first = is_number.takes bytes n.0 are n.1 in
      let second = many_take f is_f n.0.0 n.0.1 x (bytes_behind bytes (big_bytes w n.0.0) n.0.1 first.0 are) n.2 in
      let parts : bytes ≡ (big_bytes w (length x.0) ++ flat_map f.text x.0) ++ x.1 =
      first.0 ∙ (λ i. big_bytes w (sym second.1 i) ++ second.0 i) ∙ sym (append_assoc (big_bytes w (length x.0)) (flat_map f.text x.0) x.1) in
      let small : ltb (length x.0) (256 ^ w) ≡ true = ap (λ (k : ℕ). ltb k (256 ^ w)) second.1 ∙ first.1 in
      (parts, and_from (ltb (length x.0) (256 ^ w)) (list_all f.fits x.0) small second.2);
  again = λ xs rest fits.
      let p = and_parts (ltb (length xs) (256 ^ w)) (list_all f.fits xs) fits in
      let grouped : (big_bytes w (length xs) ++ flat_map f.text xs) ++ rest ≡ big_bytes w (length xs) ++ (flat_map f.text xs ++ rest) = append_assoc (big_bytes w (length xs)) (flat_map f.text xs) rest in
      ap (λ (o : Option (ℕ × List ℕ)). o >>? λ n. read_many f.read n.0 n.1) (ap (number w).read grouped ∙ is_number.again (length xs) (flat_map f.text xs ++ rest) p.0)
      ∙ many_again f is_f xs rest p.1;
}

-- all of the bytes
pub whole_takes : {A : Type 0} (f : Field A) → IsField f → (bytes : List ℕ) (x : A) → AreBytes bytes → all_read f bytes ≡ Some x → (bytes ≡ f.text x) × (f.fits x ≡ true)
whole_takes {A} f is_f bytes x are e =
    let a = bound (f.read bytes) (λ a. cond (eqb (length a.1) 0) (Some a.0) None) x e in
    let ended = cond_some (eqb (length a.0.1) 0) a.0.0 x a.2 in
    let nothing : a.0.1 ≡ [] = nil_from_length a.0.1 (eqb-true _ _ ended.0) in
    let first = is_f.takes bytes a.0 are a.1 in
    subst (λ (y : A). (bytes ≡ f.text y) × (f.fits y ≡ true)) ended.1 (first.0 ∙ ap (λ (t : List ℕ). f.text a.0.0 ++ t) nothing ∙ append-nil (f.text a.0.0), first.1)

pub whole_again : {A : Type 0} (f : Field A) → IsField f → (x : A) → f.fits x ≡ true → all_read f (f.text x) ≡ Some x
whole_again {A} f is_f x fits =
    ap (λ (o : Option (A × List ℕ)). o >>? λ a. cond (eqb (length a.1) 0) (Some a.0) None) (ap f.read (sym (append-nil (f.text x))) ∙ is_f.again x [] fits)

pub either_field : {A B : Type 0} (f : Field A) (g : Field B) → IsField f → IsField g → IsField (either f g)
either_field {A} {B} f g is_f is_g = record { takes = λ bytes x are e. taken bytes x are e; again = λ x rest fits. read_back x rest fits } where
  taken : (bytes : List ℕ) (x : (A ⊎ B) × List ℕ) → AreBytes bytes → read_either f g bytes ≡ Some x → (bytes ≡ either_text f g x.0 ++ x.1) × (either_fits f g x.0 ≡ true)
  taken [] x are e = absurd cc
  taken (zero ∷ bytes) x are e =
      let a = bound (f.read bytes) (λ a. Some (inl a.0, a.1)) x e in
      let first = is_f.takes bytes a.0 (bytes-drop 1 (0 ∷ bytes) are) a.1 in
      subst (λ (y : (A ⊎ B) × List ℕ). (0 ∷ bytes ≡ either_text f g y.0 ++ y.1) × (either_fits f g y.0 ≡ true)) (same_Some (inl a.0.0, a.0.1) x a.2) (ap (λ (t : List ℕ). 0 ∷ t) first.0, first.1)
  taken (suc zero ∷ bytes) x are e =
      let b = bound (g.read bytes) (λ b. Some (inr b.0, b.1)) x e in
      let first = is_g.takes bytes b.0 (bytes-drop 1 (1 ∷ bytes) are) b.1 in
      subst (λ (y : (A ⊎ B) × List ℕ). (1 ∷ bytes ≡ either_text f g y.0 ++ y.1) × (either_fits f g y.0 ≡ true)) (same_Some (inr b.0.0, b.0.1) x b.2) (ap (λ (t : List ℕ). 1 ∷ t) first.0, first.1)
  taken (suc (suc n) ∷ bytes) x are e = absurd cc

  read_back : (x : A ⊎ B) (rest : List ℕ) → either_fits f g x ≡ true → read_either f g (either_text f g x ++ rest) ≡ Some (x, rest)
  read_back (inl a) rest fits = ap (λ (o : Option (A × List ℕ)). o >>? λ a. Some (inl a.0, a.1)) (is_f.again a rest fits)
  read_back (inr b) rest fits = ap (λ (o : Option (B × List ℕ)). o >>? λ b. Some (inr b.0, b.1)) (is_g.again b rest fits)

pub optional_field : {A : Type 0} (f : Field A) → IsField f → IsField (optional f)
optional_field {A} f is_f = record { takes = λ bytes x are e. taken bytes x are e; again = λ x rest fits. read_back x rest fits } where
  taken : (bytes : List ℕ) (x : Option A × List ℕ) → AreBytes bytes → read_optional f bytes ≡ Some x → (bytes ≡ optional_text f x.0 ++ x.1) × (optional_fits f x.0 ≡ true)
  taken [] x are e = absurd cc
  taken (zero ∷ bytes) x are e =
      subst (λ (y : Option A × List ℕ). (0 ∷ bytes ≡ optional_text f y.0 ++ y.1) × (optional_fits f y.0 ≡ true)) (same_Some (None, bytes) x e) (refl, refl)
  taken (suc zero ∷ bytes) x are e =
      let a = bound (f.read bytes) (λ a. Some (Some a.0, a.1)) x e in
      let first = is_f.takes bytes a.0 (bytes-drop 1 (1 ∷ bytes) are) a.1 in
      subst (λ (y : Option A × List ℕ). (1 ∷ bytes ≡ optional_text f y.0 ++ y.1) × (optional_fits f y.0 ≡ true)) (same_Some (Some a.0.0, a.0.1) x a.2) (ap (λ (t : List ℕ). 1 ∷ t) first.0, first.1)
  taken (suc (suc n) ∷ bytes) x are e = absurd cc

  read_back : (x : Option A) (rest : List ℕ) → optional_fits f x ≡ true → read_optional f (optional_text f x ++ rest) ≡ Some (x, rest)
  read_back None rest fits = refl
  read_back (Some a) rest fits = ap (λ (o : Option (A × List ℕ)). o >>? λ a. Some (Some a.0, a.1)) (is_f.again a rest fits)

pub one_of_three_field : {A B C : Type 0} (f : Field A) (g : Field B) (h : Field C) → IsField f → IsField g → IsField h → IsField (one_of_three f g h)
one_of_three_field {A} {B} {C} f g h is_f is_g is_h = record { takes = λ bytes x are e. taken bytes x are e; again = λ x rest fits. read_back x rest fits } where
  taken : (bytes : List ℕ) (x : (A ⊎ (B ⊎ C)) × List ℕ) → AreBytes bytes → read_one_of_three f g h bytes ≡ Some x → (bytes ≡ one_of_three_text f g h x.0 ++ x.1) × (one_of_three_fits f g h x.0 ≡ true)
  taken [] x are e = absurd cc
  taken (zero ∷ bytes) x are e =
      let a = bound (f.read bytes) (λ a. Some (inl a.0, a.1)) x e in
      let first = is_f.takes bytes a.0 (bytes-drop 1 (0 ∷ bytes) are) a.1 in
      subst (λ (y : (A ⊎ (B ⊎ C)) × List ℕ). (0 ∷ bytes ≡ one_of_three_text f g h y.0 ++ y.1) × (one_of_three_fits f g h y.0 ≡ true)) (same_Some (inl a.0.0, a.0.1) x a.2) (ap (λ (t : List ℕ). 0 ∷ t) first.0, first.1)
  taken (suc zero ∷ bytes) x are e =
      let b = bound (g.read bytes) (λ b. Some (inr (inl b.0), b.1)) x e in
      let first = is_g.takes bytes b.0 (bytes-drop 1 (1 ∷ bytes) are) b.1 in
      subst (λ (y : (A ⊎ (B ⊎ C)) × List ℕ). (1 ∷ bytes ≡ one_of_three_text f g h y.0 ++ y.1) × (one_of_three_fits f g h y.0 ≡ true)) (same_Some (inr (inl b.0.0), b.0.1) x b.2) (ap (λ (t : List ℕ). 1 ∷ t) first.0, first.1)
  taken (suc (suc zero) ∷ bytes) x are e =
      let c = bound (h.read bytes) (λ c. Some (inr (inr c.0), c.1)) x e in
      let first = is_h.takes bytes c.0 (bytes-drop 1 (2 ∷ bytes) are) c.1 in
      subst (λ (y : (A ⊎ (B ⊎ C)) × List ℕ). (2 ∷ bytes ≡ one_of_three_text f g h y.0 ++ y.1) × (one_of_three_fits f g h y.0 ≡ true)) (same_Some (inr (inr c.0.0), c.0.1) x c.2) (ap (λ (t : List ℕ). 2 ∷ t) first.0, first.1)
  taken (suc (suc (suc n)) ∷ bytes) x are e = absurd cc

  read_back : (x : A ⊎ (B ⊎ C)) (rest : List ℕ) → one_of_three_fits f g h x ≡ true → read_one_of_three f g h (one_of_three_text f g h x ++ rest) ≡ Some (x, rest)
  read_back (inl a) rest fits = ap (λ (o : Option (A × List ℕ)). o >>? λ a. Some (inl a.0, a.1)) (is_f.again a rest fits)
  read_back (inr (inl b)) rest fits = ap (λ (o : Option (B × List ℕ)). o >>? λ b. Some (inr (inl b.0), b.1)) (is_g.again b rest fits)
  read_back (inr (inr c)) rest fits = ap (λ (o : Option (C × List ℕ)). o >>? λ c. Some (inr (inr c.0), c.1)) (is_h.again c rest fits)

unsigned_low : (z : ℤ) → FitsSigned w32 z → cast_unsigned w32 z < 2 ^ 32
unsigned_low (pos n) fits = omega (arith, fits)
unsigned_low (negsuc n) fits = omega (arith, fits)

-- a signed number: the test lets only numbers of 4 bytes through
pub signed_field : (test : ℤ → Bool) → ((z : ℤ) → test z ≡ true → FitsSigned w32 z) → IsField (signed test)
signed_field test small = record {
  takes = λ bytes x are e.
      let n = bound ((number 4).read bytes) (λ n. cond (test (cast_signed w32 n.0)) (Some (cast_signed w32 n.0, n.1)) None) x e in
      let passed = cond_some (test (cast_signed w32 n.0.0)) (cast_signed w32 n.0.0, n.0.1) x n.2 in
      let first = (number_field 4 back_4).takes bytes n.0 are n.1 in
      let low : n.0.0 < 2 ^ 32 = ltb-true n.0.0 (256 ^ 4) first.1 in
      subst (λ (y : ℤ × List ℕ). (bytes ≡ big_bytes 4 (cast_unsigned w32 y.0) ++ y.1) × (test y.0 ≡ true)) passed.1
      (first.0 ∙ ap (λ (k : ℕ). big_bytes 4 k ++ n.0.1) (sym (of_z-to_z w32 n.0.0 low)), passed.0);
  again = λ z rest fits.
      let is : cast_signed w32 (cast_unsigned w32 z) ≡ z = to_z-of_z w32 z (small z fits) in
      let low : ltb (cast_unsigned w32 z) (256 ^ 4) ≡ true = lt-ltb _ _ (unsigned_low z (small z fits)) in
      ap (λ (o : Option (ℕ × List ℕ)). o >>? λ n. cond (test (cast_signed w32 n.0)) (Some (cast_signed w32 n.0, n.1)) None) ((number_field 4 back_4).again (cast_unsigned w32 z) rest low)
      ∙ ap (λ (y : ℤ). cond (test y) (Some (y, rest)) None) is ∙ cond-true (test z) (Some (z, rest)) None fits;
}
