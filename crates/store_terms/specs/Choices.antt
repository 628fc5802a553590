-- Fields that are one of two or three kinds, which a byte in front tells apart.
use Rattle.std.specs.Prelude.{ℕ, zero, suc, Bool, true, ◌⊎◌, List, [], ◌∷◌, Option, Some, None}
use Rattle.std.proofs.Common.{inl, inr}
use Rattle.store_terms.specs.Fields.{◌>>?◌, Field}

-- a byte 0 and the one, or a byte 1 and the other
abbrev pub read_either : {A B : Type 0} → Field A → Field B → List ℕ → Option ((A ⊎ B) × List ℕ)
read_either f g [] = None
read_either f g (zero ∷ rest) = f.read rest >>? λ a. Some (inl a.0, a.1)
read_either f g (suc zero ∷ rest) = g.read rest >>? λ b. Some (inr b.0, b.1)
read_either f g (suc (suc n) ∷ rest) = None

-- a value of the one kind is written after a byte 0, one of the other kind after a byte 1
abbrev pub either_text : {A B : Type 0} → Field A → Field B → A ⊎ B → List ℕ
either_text f g (inl a) = 0 ∷ f.text a
either_text f g (inr b) = 1 ∷ g.text b

-- whether a value is one that its kind may have
abbrev pub either_fits : {A B : Type 0} → Field A → Field B → A ⊎ B → Bool
either_fits f g (inl a) = f.fits a
either_fits f g (inr b) = g.fits b

-- a value of one of two kinds, told by the byte in front of it
abbrev pub either : {A B : Type 0} → Field A → Field B → Field (A ⊎ B)
either f g = record { read = λ bytes. read_either f g bytes; text = λ x. either_text f g x; fits = λ x. either_fits f g x }

-- a byte 0, or a byte 1 and a value
abbrev pub read_optional : {A : Type 0} → Field A → List ℕ → Option (Option A × List ℕ)
read_optional f [] = None
read_optional f (zero ∷ rest) = Some (None, rest)
read_optional f (suc zero ∷ rest) = f.read rest >>? λ a. Some (Some a.0, a.1)
read_optional f (suc (suc n) ∷ rest) = None

-- no value is written as a byte 0, a value after a byte 1
abbrev pub optional_text : {A : Type 0} → Field A → Option A → List ℕ
optional_text f None = 0 ∷ []
optional_text f (Some a) = 1 ∷ f.text a

-- whether the value may be written, where there is one
abbrev pub optional_fits : {A : Type 0} → Field A → Option A → Bool
optional_fits f None = true
optional_fits f (Some a) = f.fits a

-- a value that may be left out, as the byte in front says
abbrev pub optional : {A : Type 0} → Field A → Field (Option A)
optional f = record { read = λ bytes. read_optional f bytes; text = λ x. optional_text f x; fits = λ x. optional_fits f x }

-- a byte 0, 1 or 2, and a value of its kind
abbrev pub read_one_of_three : {A B C : Type 0} → Field A → Field B → Field C → List ℕ → Option ((A ⊎ (B ⊎ C)) × List ℕ)
read_one_of_three f g h [] = None
read_one_of_three f g h (zero ∷ rest) = f.read rest >>? λ a. Some (inl a.0, a.1)
read_one_of_three f g h (suc zero ∷ rest) = g.read rest >>? λ b. Some (inr (inl b.0), b.1)
read_one_of_three f g h (suc (suc zero) ∷ rest) = h.read rest >>? λ c. Some (inr (inr c.0), c.1)
read_one_of_three f g h (suc (suc (suc n)) ∷ rest) = None

-- a value is written after a byte 0, 1 or 2, by its kind
abbrev pub one_of_three_text : {A B C : Type 0} → Field A → Field B → Field C → A ⊎ (B ⊎ C) → List ℕ
one_of_three_text f g h (inl a) = 0 ∷ f.text a
one_of_three_text f g h (inr (inl b)) = 1 ∷ g.text b
one_of_three_text f g h (inr (inr c)) = 2 ∷ h.text c

-- whether a value is one that its kind, of three, may have
abbrev pub one_of_three_fits : {A B C : Type 0} → Field A → Field B → Field C → A ⊎ (B ⊎ C) → Bool
one_of_three_fits f g h (inl a) = f.fits a
one_of_three_fits f g h (inr (inl b)) = g.fits b
one_of_three_fits f g h (inr (inr c)) = h.fits c

-- a value of one of three kinds, told by the byte in front of it
abbrev pub one_of_three : {A B C : Type 0} → Field A → Field B → Field C → Field (A ⊎ (B ⊎ C))
one_of_three f g h = record { read = λ bytes. read_one_of_three f g h bytes; text = λ x. one_of_three_text f g h x; fits = λ x. one_of_three_fits f g h x }
