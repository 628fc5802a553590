-- Fields of records: the value that is read from the front of some bytes, and how a value is spelled.
use Rattle.std.specs.Prelude.{◌≡◌, ℕ, zero, suc, ℤ, ◌^◌, ◌<◌, ◌==◌, nat_lt, Bool, true, ◌&&◌, List, [], ◌∷◌}
use Rattle.std.specs.Prelude.{◌++◌, length, drop, slice_index, flat_map, Option, Some, None, if◌then◌else◌}
use Rattle.std.specs.List.{list_all}
use Rattle.std.specs.Int.{w32, cast_signed, cast_unsigned}
use Rattle.byteorder.specs.Endian.{big_number, big_bytes}

infixl 10 ◌>>?◌
-- what f makes of a value, where there is one
abbrev pub ◌>>?◌ : {A B : Type 0} → Option A → (A → Option B) → Option B
(Some x) >>? f = f x
None >>? f = None

-- how a field is read from the front of some bytes, with what follows it; how a value is spelled; which values it has
pub record Field (A : Type 0) : Type 0 where
  pub read : List ℕ → Option (A × List ℕ)
  pub text : A → List ℕ
  pub fits : A → Bool

-- the bytes are bytes
abbrev pub AreBytes : List ℕ → Type 0
AreBytes bytes = (i : ℕ) → slice_index bytes i < 256

-- what is read is spelled so, and what is spelled so is read
pub record IsField {A : Type 0} (f : Field A) : Type 0 where
  pub takes : (bytes : List ℕ) (x : A × List ℕ) → AreBytes bytes → f.read bytes ≡ Some x
      → (bytes ≡ f.text x.0 ++ x.1) × (f.fits x.0 ≡ true)
  pub again : (x : A) (rest : List ℕ) → f.fits x ≡ true → f.read (f.text x ++ rest) ≡ Some (x, rest)

-- a number of n bytes, the highest byte first
abbrev pub number : ℕ → Field ℕ
number n = record {
  read = λ bytes. if nat_lt (length bytes) n then None else Some (big_number n bytes, drop n bytes);
  text = λ x. big_bytes n x;
  fits = λ x. nat_lt x (256 ^ n);
}

-- a signed number of 4 bytes, in two's complement, which passes a test
abbrev pub signed : (ℤ → Bool) → Field ℤ
signed test = record {
  read = λ bytes. (number 4).read bytes >>? λ n. if test (cast_signed w32 n.0) then Some (cast_signed w32 n.0, n.1) else None;
  text = λ z. big_bytes 4 (cast_unsigned w32 z);
  fits = λ z. test z;
}

-- one field, and then another
abbrev pub both : {A B : Type 0} → Field A → Field B → Field (A × B)
both f g = record {
  read = λ bytes. f.read bytes >>? λ a. g.read a.1 >>? λ b. Some ((a.0, b.0), b.1);
  text = λ x. f.text x.0 ++ g.text x.1;
  fits = λ x. f.fits x.0 && g.fits x.1;
}

-- the same bytes as another value
abbrev pub made : {A B : Type 0} → (A → B) → (B → A) → Field A → Field B
made from back f = record {
  read = λ bytes. f.read bytes >>? λ a. Some (from a.0, a.1);
  text = λ b. f.text (back b);
  fits = λ b. f.fits (back b);
}

-- the values that pass a test
abbrev pub sieved : {A : Type 0} → (A → Bool) → Field A → Field A
sieved test f = record {
  read = λ bytes. f.read bytes >>? λ a. if test a.0 then Some a else None;
  text = λ x. f.text x;
  fits = λ x. f.fits x && test x;
}

-- n values, one after another
abbrev pub read_many : {A : Type 0} → (List ℕ → Option (A × List ℕ)) → ℕ → List ℕ → Option (List A × List ℕ)
read_many read zero bytes = Some ([], bytes)
read_many read (suc n) bytes = read bytes >>? λ a. read_many read n a.1 >>? λ b. Some (a.0 ∷ b.0, b.1)

-- n values, one after another, whose number is not written
abbrev pub repeated : {A : Type 0} → ℕ → Field A → Field (List A)
repeated n f = record {
  read = λ bytes. read_many f.read n bytes;
  text = λ xs. flat_map f.text xs;
  fits = λ xs. (length xs == n) && list_all f.fits xs;
}

-- a count of w bytes, and so many values
abbrev pub counted : {A : Type 0} → ℕ → Field A → Field (List A)
counted w f = record {
  read = λ bytes. (number w).read bytes >>? λ n. read_many f.read n.0 n.1;
  text = λ xs. big_bytes w (length xs) ++ flat_map f.text xs;
  fits = λ xs. nat_lt (length xs) (256 ^ w) && list_all f.fits xs;
}

-- all of the bytes
abbrev pub all_read : {A : Type 0} → Field A → List ℕ → Option A
all_read f bytes = f.read bytes >>? λ x. if length x.1 == 0 then Some x.0 else None
