-- A reader that answers why not, in a loop and at the end.
use Rattle.std.proofs.Common.{◌≡◌, ℕ, ◌-◌, ◌<◌, List, [], ◌++◌, Option, Some, None, refl, ap, ◌∙◌, arith}
use Rattle.store_terms.specs.declared.damage.Damage.{Damage}
use Rattle.store_terms.specs.Fields.{read_many}
use Rattle.store_terms.specs.Image.{or_fault}
use Rattle.store_terms.proofs.Loops.{with_front, ends}
use Rattle.record_reading.specs.declared.fault.ReadFault.{ReadFault}
use Rattle.record_reading.specs.declared.fault.ReadFault.TheVariants as faults
use Rattle.record_reading.specs.Answers.{Fails, reported_as, Tells}

pub fails : {A : Type 0} (read : List ℕ → Option (A × List ℕ)) (fault : ReadFault) (front : List A) (count i : ℕ)
    (bytes : List ℕ) (total : Option (List A × List ℕ)) → i < count → Fails fault (read bytes)
    → with_front front (read_many read (count - i) bytes) ≡ total → Fails fault total
fails read faults.Memory front count i bytes total lt given so_far = tt
fails read faults.Form front count i bytes total lt given so_far = ends read front count i bytes total lt given so_far

behind_nothing : {A : Type 0} (front : List A) (total : Option (List A × List ℕ)) → front ≡ []
    → with_front front total ≡ total
behind_nothing front None none = refl
behind_nothing {A} front (Some x) none = ap (λ (l : List A). Some (l ++ x.0, x.1)) none

-- nothing was read before
pub starts : {A : Type 0} (read : List ℕ → Option (A × List ℕ)) (front : List A) (count : ℕ) (bytes : List ℕ)
    → front ≡ [] → with_front front (read_many read (count - 0) bytes) ≡ read_many read count bytes
starts read front count bytes none =
    let all : count - 0 ≡ count = omega arith in
    behind_nothing front (read_many read (count - 0) bytes) none ∙ ap (λ (n : ℕ). read_many read n bytes) all

-- what gives no value reports its damage
pub tells : {Y : Type 0} (damage : Damage) (fault : ReadFault) (read : Option Y) → Fails fault read
    → Tells (reported_as damage fault) (or_fault damage read)
tells damage faults.Memory read given = tt
tells damage faults.Form read given = ap (or_fault damage) given
