-- The bytes of a name, as numbers of one byte each.
use Rattle.std.proofs.Common.{◌≡◌, ℕ, zero, suc, ◌<◌, ◌≤◌, List, [], ◌∷◌, length, take, drop, Option, Some, None, refl, ap, ◌∙◌, arith, false}
use Rattle.std.specs.Prelude.{nat_lt}
use Rattle.std.proofs.lemmas.Bool.{le-ltb, cond-false}
use Rattle.store_terms.specs.Fields.{◌>>?◌, number, read_many, counted}

one_byte : (b : ℕ) (rest : List ℕ) → (number 1).read (b ∷ rest) ≡ Some (b, rest)
one_byte b rest =
    let long : nat_lt (length (b ∷ rest)) 1 ≡ false = le-ltb _ _ (omega arith) in
    cond-false _ _ _ long ∙ ap (λ (n : ℕ). Some (n, rest)) (omega arith)

bytes_there : (n : ℕ) (bytes : List ℕ) → n ≤ length bytes
    → read_many (number 1).read n bytes ≡ Some (take n bytes, drop n bytes)
bytes_there zero bytes long = refl
bytes_there (suc n) [] long = absurd (omega (arith, long))
bytes_there (suc n) (b ∷ rest) long =
    ap (λ (o : Option (ℕ × List ℕ)). o >>? λ a. read_many (number 1).read n a.1 >>? λ x. Some (a.0 ∷ x.0, x.1))
    (one_byte b rest)
    ∙ ap (λ (o : Option (List ℕ × List ℕ)). o >>? λ x. Some (b ∷ x.0, x.1)) (bytes_there n rest (omega (arith, long)))

bytes_short : (n : ℕ) (bytes : List ℕ) → length bytes < n → read_many (number 1).read n bytes ≡ None
bytes_short zero bytes short = absurd (omega (arith, short))
bytes_short (suc n) [] short = refl
bytes_short (suc n) (b ∷ rest) short =
    ap (λ (o : Option (ℕ × List ℕ)). o >>? λ a. read_many (number 1).read n a.1 >>? λ x. Some (a.0 ∷ x.0, x.1))
    (one_byte b rest)
    ∙ ap (λ (o : Option (List ℕ × List ℕ)). o >>? λ x. Some (b ∷ x.0, x.1)) (bytes_short n rest (omega (arith, short)))

module _ (bytes rest : List ℕ) (count : ℕ) (is : (number 1).read bytes ≡ Some (count, rest)) where
  pub name_read : count ≤ length rest → (counted 1 (number 1)).read bytes ≡ Some (take count rest, drop count rest)
  name_read long =
      ap (λ (o : Option (ℕ × List ℕ)). o >>? λ n. read_many (number 1).read n.0 n.1) is ∙ bytes_there count rest long

  pub name_short : length rest < count → (counted 1 (number 1)).read bytes ≡ None
  name_short short =
      ap (λ (o : Option (ℕ × List ℕ)). o >>? λ n. read_many (number 1).read n.0 n.1) is ∙ bytes_short count rest short
