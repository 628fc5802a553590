-- Reading values one after another, as a loop does.
use Rattle.std.proofs.Common.{◌≡◌, ℕ, suc, ◌-◌, ◌+◌, ◌≤◌, ◌<◌, List, [], ◌∷◌, ◌++◌, Result, Ok, Err, refl, sym, ap, ◌∙◌, append_assoc, arith}
use Rattle.std.proofs.lemmas.List.{append-nil}
use Rattle.block_reading.specs.declared.fault.BlockFault.{BlockFault}
use Rattle.block_reading.specs.declared.fault.ReadFault.{ReadFault}
use Rattle.block_reading.specs.declared.fault.ReadFault.TheVariants.{OutOfMemory, Refused}
use Rattle.block_reading.specs.Reading.{◌>>!◌, Reading, many}
use Rattle.block_reading.specs.Answers.{Fails}

-- what was read before, and what is still read
abbrev pub with_front : {A : Type 0} → List A → Result (List A × List ℕ) BlockFault → Result (List A × List ℕ) BlockFault
with_front front read = read >>! λ x. Ok (front ++ x.0, x.1)

regroup : {A : Type 0} (front : List A) (a : A) (read : Result (List A × List ℕ) BlockFault) → with_front front (read >>! λ x. Ok (a ∷ x.0, x.1)) ≡ with_front (front ++ a ∷ []) read
regroup {A} front a (Ok x) = ap (λ (l : List A). Ok (l, x.1)) (sym (append_assoc front (a ∷ []) x.0))
regroup front a (Err fault) = refl

module _ {A : Type 0} (read : ℕ → Reading A) where
  -- one more
  pub goes_on : (front : List A) (count i : ℕ) (bytes : List ℕ) (a : A) (after : List ℕ) (total : Result (List A × List ℕ) BlockFault) → i < count → read i bytes ≡ Ok (a, after)
      → with_front front (many read i (count - i) bytes) ≡ total → with_front (front ++ a ∷ []) (many read (i + 1) (count - (i + 1)) after) ≡ total
  goes_on front count i bytes a after total lt h so_far =
      let k : count - i ≡ suc (count - (i + 1)) = omega arith in
      let one : with_front front (many read i (count - i) bytes) ≡ with_front (front ++ a ∷ []) (many read (i + 1) (count - (i + 1)) after) =
      ap (λ (n : ℕ). with_front front (many read i n bytes)) k
      ∙ ap (λ (o : Result (A × List ℕ) BlockFault). with_front front (o >>! λ b. many read (i + 1) (count - (i + 1)) b.1 >>! λ x. Ok (b.0 ∷ x.0, x.1))) h
      ∙ regroup front a (many read (i + 1) (count - (i + 1)) after) in
      sym one ∙ so_far

  -- one that is not there
  ends : (front : List A) (count i : ℕ) (bytes : List ℕ) (fault : BlockFault) (total : Result (List A × List ℕ) BlockFault) → i < count → read i bytes ≡ Err fault
      → with_front front (many read i (count - i) bytes) ≡ total → total ≡ Err fault
  ends front count i bytes fault total lt h so_far =
      let k : count - i ≡ suc (count - (i + 1)) = omega arith in
      sym so_far ∙ ap (λ (n : ℕ). with_front front (many read i n bytes)) k
      ∙ ap (λ (o : Result (A × List ℕ) BlockFault). with_front front (o >>! λ b. many read (i + 1) (count - (i + 1)) b.1 >>! λ x. Ok (b.0 ∷ x.0, x.1))) h

  pub fails : (fault : ReadFault) (front : List A) (count i : ℕ) (bytes : List ℕ) (total : Result (List A × List ℕ) BlockFault) → i < count → Fails fault (read i bytes)
      → with_front front (many read i (count - i) bytes) ≡ total → Fails fault total
  fails OutOfMemory front count i bytes total lt given so_far = tt
  fails (Refused fault) front count i bytes total lt given so_far = ends front count i bytes fault total lt given so_far

  pub is_done : (front : List A) (count i : ℕ) (bytes : List ℕ) (total : Result (List A × List ℕ) BlockFault) → count ≤ i → with_front front (many read i (count - i) bytes) ≡ total → total ≡ Ok (front, bytes)
  is_done front count i bytes total le so_far =
      let k : count - i ≡ 0 = omega arith in
      sym so_far ∙ ap (λ (n : ℕ). with_front front (many read i n bytes)) k ∙ ap (λ (l : List A). Ok (l, bytes)) (append-nil front)

  behind_nothing : (front : List A) (total : Result (List A × List ℕ) BlockFault) → front ≡ [] → with_front front total ≡ total
  behind_nothing front (Err fault) none = refl
  behind_nothing front (Ok x) none = ap (λ (l : List A). Ok (l ++ x.0, x.1)) none

  -- nothing was read before
  pub starts : (front : List A) (count : ℕ) (bytes : List ℕ) → front ≡ [] → with_front front (many read 0 (count - 0) bytes) ≡ many read 0 count bytes
  starts front count bytes none =
      let all : count - 0 ≡ count = omega arith in
      behind_nothing front (many read 0 (count - 0) bytes) none ∙ ap (λ (n : ℕ). many read 0 n bytes) all
