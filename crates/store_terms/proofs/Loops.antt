-- Reading values one after another, as a loop does.
use Rattle.std.proofs.Common.{◌≡◌, ℕ, suc, ◌-◌, ◌+◌, ◌≤◌, ◌<◌, List, [], ◌∷◌, ◌++◌, Option, Some, None, refl, sym, ap, ◌∙◌, append_assoc, arith}
use Rattle.std.proofs.lemmas.List.{append-nil}
use Rattle.store_terms.specs.Fields.{◌>>?◌, read_many}

-- what was read before, and what is still read
abbrev pub with_front : {A : Type 0} → List A → Option (List A × List ℕ) → Option (List A × List ℕ)
with_front front read = read >>? λ x. Some (front ++ x.0, x.1)

regroup : {A : Type 0} (front : List A) (a : A) (read : Option (List A × List ℕ)) → with_front front (read >>? λ x. Some (a ∷ x.0, x.1)) ≡ with_front (front ++ a ∷ []) read
regroup {A} front a (Some x) = ap (λ (l : List A). Some (l, x.1)) (sym (append_assoc front (a ∷ []) x.0))
regroup front a None = refl

module _ {A : Type 0} (read : List ℕ → Option (A × List ℕ)) where
  pub goes_on : (front : List A) (count i : ℕ) (bytes : List ℕ) (a : A) (after : List ℕ) (total : Option (List A × List ℕ)) → i < count → read bytes ≡ Some (a, after)
      → with_front front (read_many read (count - i) bytes) ≡ total → with_front (front ++ a ∷ []) (read_many read (count - (i + 1)) after) ≡ total
  goes_on front count i bytes a after total lt h so_far =
      let k : count - i ≡ suc (count - (i + 1)) = omega arith in
      let one : with_front front (read_many read (count - i) bytes) ≡ with_front (front ++ a ∷ []) (read_many read (count - (i + 1)) after) =
      ap (λ (n : ℕ). with_front front (read_many read n bytes)) k
      ∙ ap (λ (o : Option (A × List ℕ)). with_front front (o >>? λ b. read_many read (count - (i + 1)) b.1 >>? λ x. Some (b.0 ∷ x.0, x.1))) h
      ∙ regroup front a (read_many read (count - (i + 1)) after) in
      sym one ∙ so_far

  -- a value that is not there
  pub ends : (front : List A) (count i : ℕ) (bytes : List ℕ) (total : Option (List A × List ℕ)) → i < count → read bytes ≡ None
      → with_front front (read_many read (count - i) bytes) ≡ total → total ≡ None
  ends front count i bytes total lt h so_far =
      let k : count - i ≡ suc (count - (i + 1)) = omega arith in
      sym so_far ∙ ap (λ (n : ℕ). with_front front (read_many read n bytes)) k
      ∙ ap (λ (o : Option (A × List ℕ)). with_front front (o >>? λ b. read_many read (count - (i + 1)) b.1 >>? λ x. Some (b.0 ∷ x.0, x.1))) h

  pub is_done : (front : List A) (count i : ℕ) (bytes : List ℕ) (total : Option (List A × List ℕ)) → count ≤ i → with_front front (read_many read (count - i) bytes) ≡ total → total ≡ Some (front, bytes)
  is_done front count i bytes total le so_far =
      let k : count - i ≡ 0 = omega arith in
      sym so_far ∙ ap (λ (n : ℕ). with_front front (read_many read n bytes)) k ∙ ap (λ (l : List A). Some (l, bytes)) (append-nil front)
