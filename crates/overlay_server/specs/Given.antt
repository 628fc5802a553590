-- What the sessions of a server are given.
use Rattle.std.specs.Prelude.{ℕ, List, [], map, Option, Some}
use Rattle.std.specs.declared.alloc.Global.{Global}
use Rattle.std.specs.declared.vec.Vec.{Vec}
use Rattle.script_form.specs.Lines.{script_max}
use Rattle.session_threads.specs.declared.port.Port.{Port}

-- what a session is given: what its reader has, so many bytes of it at most, and what its writer has
pub record Given : Type 0 where
  pub most : ℕ
  pub script : Option (List ℕ)
  pub held : Option (List ℕ)

-- what a session is given by a port
abbrev pub given_at : {R W : Type 0} (remaining : R → Option (List ℕ)) (contents : W → Option (List ℕ)) → Port R W → Given
given_at remaining contents port = record { most = port.most; script = remaining port.reader; held = contents port.writer }

-- what sessions are given by their ports, in order
abbrev pub given_to : {R W : Type 0} (remaining : R → Option (List ℕ)) (contents : W → Option (List ℕ)) → List (Port R W) → List Given
given_to remaining contents ports = map (given_at remaining contents) ports

-- by a reader alone, whose replies are kept as a list of bytes: the limit of scripts, and nothing written
abbrev pub given_from : {R : Type 0} (remaining : R → Option (List ℕ)) → R → Given
given_from remaining reader = record { most = script_max; script = remaining reader; held = Some [] }

-- what sessions are given by their readers, in order
abbrev pub given_by : {R : Type 0} (remaining : R → Option (List ℕ)) → List R → List Given
given_by remaining readers = map (given_from remaining) readers

-- what a list of bytes has
abbrev pub bytes_of : Vec ℕ Global → Option (List ℕ)
bytes_of bytes = Some bytes.items
