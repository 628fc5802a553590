-- What readers answer.
use Rattle.std.specs.Prelude.{◌≡◌, ℕ, List, [], ◌∷◌, ◌++◌, Result, Ok, Err}
use Rattle.block_reading.specs.declared.fault.BlockFault.{BlockFault}
use Rattle.block_reading.specs.Reading.{Reading}
use Rattle.block_reading.specs.declared.fault.ReadFault.{ReadFault}
use Rattle.block_reading.specs.declared.fault.ReadFault.TheVariants.{OutOfMemory, Refused}

-- reading gives this fault, unless memory ran out
abbrev pub Fails : {Y : Type 0} → ReadFault → Result Y BlockFault → Type 0
Fails OutOfMemory read = Unit {0}
Fails (Refused fault) read = read ≡ Err fault

-- the value that reading gives, or its fault, unless memory ran out
abbrev pub Gives : {X Y : Type 0} → (X → Y) → Result X ReadFault → Result Y BlockFault → Type 0
Gives view (Ok x) read = read ≡ Ok (view x)
Gives view (Err fault) read = Fails fault read

-- the value at the front of some bytes, with what follows it, is added to some values
abbrev pub IsAdded : {A : Type 0} → Reading A → List ℕ → List ℕ → List A → List A → Type 0
IsAdded {A} read bytes rest old new = (x : A) × (read bytes ≡ Ok (x, rest)) × (new ≡ old ++ x ∷ [])
