-- The root of a file, from its slots.
use Rattle.std.proofs.Common.{◌≡◌, ℕ, ◌+◌, ◌*◌, ◌<◌, ◌≤◌, nat_lt, ◌||◌, true, false, List, length, take, drop, get_or, Option, Result, Ok, Err, refl, sym, ◌∙◌, ap, arith}
use Rattle.std.proofs.lemmas.List.{ext_get_or}
use Rattle.std.proofs.lemmas.Bool.Decides.{nat_tests}
use Rattle.store_terms.specs.declared.damage.Damage.{Damage}
use Rattle.store_terms.specs.declared.damage.Damage.TheVariants.{NotAStore}
use Rattle.store_terms.specs.declared.root.Root.{Root}
use Rattle.store_terms.specs.Image.{◌>>=◌}
use Rattle.store_terms.specs.Places.{block_size}
use Rattle.disk_model.specs.Disk.{part}
use Rattle.disk_model.proofs.Ranges.{length-part, get-part}
use Rattle.store_terms.specs.Roots.{body_in}
use Rattle.store_terms.specs.StandsFor.{gate, body, is_foreign, slot, newer_root, root_of}

pub short_root : (file : List ℕ) → length file < block_size * 2 → root_of file ≡ Err NotAStore
unfolding root_of
short_root file short = let t : nat_lt (length file) 8192 ≡ true = grind (arith, nat_tests) in rw t refl

pub foreign_root : (file : List ℕ) → block_size * 2 ≤ length file → (is_foreign file 0 || is_foreign file 1) ≡ true
    → root_of file ≡ Err NotAStore
unfolding root_of
foreign_root file long foreign =
    let t : nat_lt (length file) 8192 ≡ false = grind (arith, nat_tests) in rw (t, foreign) refl

pub slots_root : (file : List ℕ) → block_size * 2 ≤ length file → (is_foreign file 0 || is_foreign file 1) ≡ false
    → root_of file ≡ (slot file 0 >>= λ a. slot file 1 >>= λ b. newer_root a b)
unfolding root_of
slots_root file long ours = let t : nat_lt (length file) 8192 ≡ false = grind (arith, nat_tests) in rw (t, ours) refl

module _ (file : List ℕ) (long : block_size * 2 ≤ length file)
    (ours : (is_foreign file 0 || is_foreign file 1) ≡ false) where
  pub first_err : (damage : Damage) → slot file 0 ≡ Err damage → root_of file ≡ Err damage
  first_err damage first =
      slots_root file long ours
      ∙ ap (λ (x : Result (Option Root) Damage). x >>= λ a. slot file 1 >>= λ b. newer_root a b) first

  pub second_err : (a : Option Root) (damage : Damage) → slot file 0 ≡ Ok a → slot file 1 ≡ Err damage
      → root_of file ≡ Err damage
  second_err a damage first second =
      slots_root file long ours
      ∙ ap (λ (x : Result (Option Root) Damage). x >>= λ a. slot file 1 >>= λ b. newer_root a b) first
      ∙ ap (λ (x : Result (Option Root) Damage). x >>= λ b. newer_root a b) second

  pub both_ok : (a b : Option Root) → slot file 0 ≡ Ok a → slot file 1 ≡ Ok b → root_of file ≡ newer_root a b
  both_ok a b first second =
      slots_root file long ours
      ∙ ap (λ (x : Result (Option Root) Damage). x >>= λ a. slot file 1 >>= λ b. newer_root a b) first
      ∙ ap (λ (x : Result (Option Root) Damage). x >>= λ b. newer_root a b) second

-- a part of a part
pub part_part : (file : List ℕ) (at n from m : ℕ) → at + n ≤ length file → from + m ≤ n
    → part (part file at n) from m ≡ part file (at + from) m
part_part file at n from m within inside =
    let size = length-part file at n within in
    let size_left = length-part (part file at n) from m (omega (arith, size, inside)) in
    let size_right = length-part file (at + from) m (omega arith) in
    ext_get_or 0 (part (part file at n) from m) (part file (at + from) m) (size_left ∙ sym size_right)
    (λ i h.
    let k : i < m = omega (arith, h, size_left) in
    let place : at + (from + i) ≡ (at + from) + i = omega arith in
    get-part (part file at n) from m i k ∙ get-part file at n (from + i) (omega arith)
    ∙ ap (λ (j : ℕ). get_or file j 0) place ∙ sym (get-part file (at + from) m i k))

module _ (bytes file : List ℕ) (k : ℕ) (small : k ≤ 1) (are : bytes ≡ part file (k * 4096) 56)
    (long : block_size * 2 ≤ length file) where
  pub slot_gate : get_or bytes 0 0 ≡ gate file k
  slot_gate =
      let place : k * 4096 + 0 ≡ 4096 * k = omega arith in
      ap (λ (l : List ℕ). get_or l 0 0) are ∙ get-part file (k * 4096) 56 0 (omega arith)
      ∙ ap (λ (j : ℕ). get_or file j 0) place

  pub slot_body : body_in (take 40 (drop 16 bytes)) ≡ body file k
  unfolding part
  slot_body =
      let place : k * 4096 + 16 ≡ 4096 * k + 16 = omega arith in
      ap (λ (l : List ℕ). body_in (take 40 (drop 16 l))) are
      ∙ ap body_in (part_part file (k * 4096) 56 16 40 (omega arith) (omega arith)
      ∙ ap (λ (j : ℕ). part file j 40) place)
