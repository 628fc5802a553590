-- The front of a record says what all of it says.
use Rattle.std.proofs.Common.{◌≡◌, ◌⊎◌, inl, inr, ℕ, suc, ◌+◌, ◌*◌, ◌≤◌, true, List, take, drop, Option, Result, Ok, Err, ap, ◌∙◌, sym, rules, arith, take_all, take-take, length-take}
use Rattle.std.proofs.lemmas.Bool.{cond-true}
use Rattle.disk_model.specs.Disk.{part}
use Rattle.store_terms.specs.Places.{block_size, is_placed, bytes_at}
use Rattle.store_terms.specs.declared.damage.Damage.{Damage}
use Rattle.store_terms.specs.declared.root.RecordExtent.{RecordExtent}
use Rattle.store_terms.specs.Image.{◌>>=◌, or_fault, placed_bytes}
use Rattle.root_reading.specs.declared.load_fault.LoadFault.{LoadFault}
use Rattle.root_reading.specs.declared.load_fault.LoadFault.TheVariants.{Device, Damaged, OutOfMemory}
use Rattle.root_reading.specs.Looking.{Refuses}
use Rattle.root_reading.specs.LayerReading.{front_of}

refused_by : {Y : Type 0} (placed : Result (List ℕ) Damage) (most : ℕ) (read : List ℕ → Result Y Damage) (damage : Damage)
    → (placed >>= λ bytes. Ok (take (suc most) bytes)) ≡ Err damage → (placed >>= read) ≡ Err damage
refused_by (Ok bytes) most read damage e = absurd cc
refused_by (Err other) most read damage e = ap Err (cc e)

-- a record whose front is refused is refused
pub refused_front : {Y : Type 0} (fault : LoadFault) (most : ℕ) (damage : Damage) (file : List ℕ) (e : RecordExtent)
    (read : List ℕ → Result Y Damage) → Refuses fault (front_of most damage file e)
    → Refuses fault (placed_bytes damage file e >>= read)
refused_front Device most damage file e read is = search rules
refused_front OutOfMemory most damage file e read is = search rules
refused_front (Damaged other) most damage file e read is = refused_by (placed_bytes damage file e) most read other is

read_by : {Y : Type 0} (placed : Result (List ℕ) Damage) (most : ℕ) (items : List ℕ) (fault : Damage)
    (read : List ℕ → Option Y)
    → ((bytes : List ℕ) → take (suc most) bytes ≡ items → read items ≡ read bytes)
    → (placed >>= λ bytes. Ok (take (suc most) bytes)) ≡ Ok items
    → (placed >>= λ bytes. or_fault fault (read bytes)) ≡ or_fault fault (read items)
read_by (Ok bytes) most items fault read same e = ap (or_fault fault) (sym (same bytes (cc e)))
read_by (Err other) most items fault read same e = absurd cc

-- what a front reads as, the record reads as
pub read_front : {Y : Type 0} (most : ℕ) (damage : Damage) (file : List ℕ) (e : RecordExtent) (items : List ℕ)
    (fault : Damage) (read : List ℕ → Option Y)
    → ((bytes : List ℕ) → take (suc most) bytes ≡ items → read items ≡ read bytes)
    → front_of most damage file e ≡ Ok items
    → (placed_bytes damage file e >>= λ bytes. or_fault fault (read bytes)) ≡ or_fault fault (read items)
read_front most damage file e items fault read same is =
    read_by (placed_bytes damage file e) most items fault read same is

-- as many bytes as there are, or as show that there are too many
shorter_take : (most size count : ℕ) (l : List ℕ) → count ≤ size → count ≤ most + 1
    → (count ≡ size) ⊎ (count ≡ most + 1) → take (suc most) (take size l) ≡ take count l
shorter_take most size count l small few (inl whole) =
    take_all (suc most) (take size l) (omega (arith, few, whole, length-take size l)) ∙ ap (λ (n : ℕ). take n l) (sym whole)
shorter_take most size count l small few (inr cut) =
    let same : suc most ≡ count = omega (arith, cut) in
    take-take (suc most) size l (omega (arith, small, cut)) ∙ ap (λ (n : ℕ). take n l) same

pub front_is : (most count : ℕ) (damage : Damage) (file : List ℕ) (e : RecordExtent) → is_placed file e ≡ true
    → count ≤ e.size → count ≤ most + 1 → (count ≡ e.size) ⊎ (count ≡ most + 1)
    → front_of most damage file e ≡ Ok (part file (block_size * e.block) count)
unfolding part
front_is most count damage file e placed small few either_way =
    ap (λ (r : Result (List ℕ) Damage). r >>= λ bytes. Ok (take (suc most) bytes))
    (cond-true (is_placed file e) (Ok (bytes_at file e)) (Err damage) placed)
    ∙ ap Ok (shorter_take most e.size count (drop (block_size * e.block) file) small few either_way)
