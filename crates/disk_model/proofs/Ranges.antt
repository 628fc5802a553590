-- What stays of a file under a torn write, and what a whole write puts there.
use Rattle.std.proofs.Common.{◌≡◌, ◌⊎◌, inl, inr, ℕ, ◌+◌, ◌<◌, ◌≤◌, List, length, take, drop, get_or, sym, ◌∙◌, arith, length-take, length-drop}
use Rattle.std.proofs.lemmas.List.{ext_get_or, get_or-take, get_or-drop}
use Rattle.disk_model.specs.Disk.{part, Holds, Torn}

-- two ranges with no byte in common
abbrev pub Apart : ℕ → ℕ → ℕ → ℕ → Type 0
Apart at n from m = (at + n ≤ from) ⊎ (from + m ≤ at)

pub length-part : (file : List ℕ) (at n : ℕ) → at + n ≤ length file → length (part file at n) ≡ n
unfolding part
length-part file at n within = omega (arith, length-take n (drop at file), length-drop at file)

pub get-part : (file : List ℕ) (at n i : ℕ) → i < n → get_or (part file at n) i 0 ≡ get_or file (at + i) 0
unfolding part
get-part file at n i h = get_or-take n (drop at file) i 0 h ∙ get_or-drop at file i 0

-- files that agree on a range have the same bytes there
pub part_same : (c d : List ℕ) (at n : ℕ) → at + n ≤ length c → at + n ≤ length d → ((i : ℕ) → i < n → get_or d (at + i) 0 ≡ get_or c (at + i) 0) → part d at n ≡ part c at n
part_same c d at n in_c in_d same =
    let size_c = length-part c at n in_c in
    let size_d = length-part d at n in_d in
    ext_get_or 0 (part d at n) (part c at n) (size_d ∙ sym size_c)
    (λ i h. let k : i < n = omega (arith, h, size_d) in get-part d at n i k ∙ same i k ∙ sym (get-part c at n i k))

-- a byte outside of what is written
pub byte_kept : (c d : List ℕ) (at n i : ℕ) → Torn at n c d → i < length c → Apart at n i 1 → get_or d i 0 ≡ get_or c i 0
byte_kept c d at n i torn h (inl before) = torn.above i h before
byte_kept c d at n i torn h (inr behind) = torn.below i h (omega arith)

-- a range outside of what is written
pub part_kept : (c d : List ℕ) (at n from m : ℕ) → Torn at n c d → from + m ≤ length c → Apart at n from m → part d from m ≡ part c from m
part_kept c d at n from m torn h (inl before) =
    part_same c d from m h (omega (arith, h, torn.no_shorter)) (λ i k. torn.above (from + i) (omega arith) (omega arith))
part_kept c d at n from m torn h (inr behind) =
    part_same c d from m h (omega (arith, h, torn.no_shorter)) (λ i k. torn.below (from + i) (omega arith) (omega arith))

-- a whole write puts its bytes there
pub part_written : (file : List ℕ) (at : ℕ) (bytes : List ℕ) → Holds file at bytes → part file at (length bytes) ≡ bytes
part_written file at bytes holds =
    let size = length-part file at (length bytes) holds.within in
    ext_get_or 0 (part file at (length bytes)) bytes size
    (λ i h. let k : i < length bytes = omega (arith, h, size) in get-part file at (length bytes) i k ∙ holds.each i k)

-- and a front of them
pub part_written_front : (file : List ℕ) (at n : ℕ) (bytes : List ℕ) → n ≤ length bytes → Holds file at bytes → part file at n ≡ take n bytes
part_written_front file at n bytes le holds =
    let within : at + n ≤ length file = omega (arith, le, holds.within) in
    let size = length-part file at n within in
    let short = length-take n bytes in
    ext_get_or 0 (part file at n) (take n bytes) (omega (arith, size, short, le))
    (λ i h. let k : i < n = omega (arith, h, size) in get-part file at n i k ∙ holds.each i (omega (arith, k, le)) ∙ sym (get_or-take n bytes i 0 k))
